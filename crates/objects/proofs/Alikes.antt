-- What a step read, it reads over bits that agree as far as it looked.
use Rattle.std.proofs.Common.{◌≡◌, ℕ, ◌+◌, ◌≤◌, min, Bool, List, length, ℤ, Ok, Err, Result, sym, refl, subst, arith}
use Rattle.records.specs.declared.records.Class.{Class}
use Rattle.rules.specs.declared.items.Item.{Item}
use Rattle.records.specs.declared.statements.ReadLine.{ReadLine}
use Rattle.rules.specs.declared.steps.Got.{Got}
use Rattle.rules.specs.declared.steps.Header.{Header}
use Rattle.rules.specs.declared.steps.Window.{Window}
use Rattle.rules.specs.Checks.{Check}
use Rattle.rules.proofs.Facts.{mapped_facts}
use Rattle.rules.specs.Steps.{aligned, element, mapped, header, id_width}
use Rattle.roundtrip.proofs.Agree.{looks}
use Rattle.roundtrip.proofs.Reach.{aligned_near, element_near, mapped_near, header_near, aligned_reach, element_reach, header_reach}
use Rattle.steps.specs.Took.{Took}
use Rattle.rules.specs.declared.faults.ReadingFault.{ReadingFault}
use Rattle.objects.specs.declared.moves.Move.{Move}
use Rattle.objects.specs.declared.moves.Move.TheVariants.{Quiet, Give, Begin, Leave}
use Rattle.objects.specs.Likewise.{Alike, Likewise, reach}

-- bits that agree in a stretch agree in a shorter one
pub less_alike : {B C : List Bool} {p q r s : ℕ} → p ≤ r → s ≤ q → Alike B C p q → Alike B C r s
less_alike h k a = record { long = a.long; agree = λ j l m. a.agree j (omega arith) (omega arith) }

-- what is not further away than a step can look is not cut
within_reach : {B C : List Bool} {p q : ℕ} → q ≤ p + reach → Alike B C p (min q (p + reach)) → Alike B C p q
within_reach h a = record { long = a.long; agree = λ j l m. a.agree j l (omega arith) }

module _ (bits B : List Bool) (w : Window) (p : ℕ) where
  pub aligned_alike : (to q : ℕ) → to ≤ 65535 → Alike bits B p (min q (p + reach)) → Ok q ≡ aligned bits w to p → Ok q ≡ aligned B w to p
  aligned_alike to q n a e =
      let r = aligned_reach bits w to p q (sym e) in
      sym (looks.at_alignment bits B a.long w to p q (sym e) (within_reach (omega arith) a).agree)

  pub element_alike : (l : ReadLine) (width low high : Check ℤ) (g : Got) → l.alignment ≤ 65535 → Alike bits B p (min (g.place + g.length) (p + reach))
      → Ok g ≡ element bits w l width low high p → Ok g ≡ element B w l width low high p
  element_alike l width low high g n a e =
      let r = element_reach bits w l width low high p g (sym e) in
      sym (looks.at_element bits B a.long w l width low high p g (sym e) (within_reach (omega arith) a).agree)

  pub header_alike : (c : Class) (greatest : ℕ) (h : Header) → id_width c ≤ 65527 → Alike bits B p (min h.after (p + reach)) → Ok h ≡ header bits w c greatest p
      → Ok h ≡ header B w c greatest p
  header_alike c greatest h n a e =
      let r = header_reach bits w c greatest p h (sym e) in
      sym (looks.at_header bits B a.long w c greatest p h (sym e) (within_reach (omega arith) a).agree)

  pub mapped_alike : (width : ℕ) (outputs : ℕ → Check ℤ) (g : Got) → width ≤ 65535 → g.after ≤ g.place + g.length → Alike bits B p (min (g.place + g.length) (p + reach))
      → Ok g ≡ mapped bits w width outputs p → Ok g ≡ mapped B w width outputs p
  mapped_alike width outputs g n m a e =
      let f = mapped_facts bits w width outputs p g (sym e) in
      let at = f.place in
      let long = f.length in
      sym (looks.at_map bits B a.long w width outputs p g (sym e) (λ k u v. a.agree k u (omega arith)))

  -- and so does a step that is refused
  pub aligned_refused : (to : ℕ) → to ≤ 65535 → Alike bits B p (p + reach) → aligned bits w to p ≡ aligned B w to p
  aligned_refused to n a = aligned_near bits B a.long w to p (less_alike (omega arith) (omega arith) a).agree

  pub element_refused : (l : ReadLine) (width low high : Check ℤ) → l.alignment ≤ 65535 → Alike bits B p (p + reach)
      → element bits w l width low high p ≡ element B w l width low high p
  element_refused l width low high n a = element_near bits B a.long w l width low high p (less_alike (omega arith) (omega arith) a).agree

  pub mapped_refused : (width : ℕ) (outputs : ℕ → Check ℤ) → width ≤ 65535 → Alike bits B p (p + reach) → mapped bits w width outputs p ≡ mapped B w width outputs p
  mapped_refused width outputs n a = mapped_near bits B a.long w width outputs p (less_alike (omega arith) (omega arith) a).agree

  pub header_refused : (c : Class) (greatest : ℕ) → id_width c ≤ 65527 → Alike bits B p (p + reach) → header bits w c greatest p ≡ header B w c greatest p
  header_refused c greatest n a = header_near bits B a.long w c greatest p (less_alike (omega arith) (omega arith) a).agree

pub alike_self : {bits : List Bool} {p q : ℕ} → Alike bits bits p q
alike_self = record { long = refl; agree = λ k u v. refl }

-- where nothing is looked at
pub alike_here : {bits B : List Bool} {p : ℕ} → length bits ≡ length B → Alike bits B p p
alike_here e = record { long = e; agree = λ k u v. absurd (omega arith) }

-- bits over which a step does as it did are as many
pub likewise_long : (bits B : List Bool) (p : ℕ) (r : Result Move ReadingFault) → Likewise bits B p r → length bits ≡ length B
likewise_long bits B p (Ok (Quiet q)) l = l.long
likewise_long bits B p (Ok (Give i q)) l = l.long
likewise_long bits B p (Ok (Begin line u index)) l = l
likewise_long bits B p (Ok Leave) l = l
likewise_long bits B p (Err f) l = l.long

-- of an item as of what is the same
pub alike_as : {bits B : List Bool} {p : ℕ} {i j : Item} (q : ℕ) → i ≡ j → Alike bits B p (min (i.place + i.length) q) → Alike bits B p (min (j.place + j.length) q)
alike_as {bits} {B} {p} q e = subst (λ (x : Item). Alike bits B p (min (x.place + x.length) q)) e

pub took_as : {p end q : ℕ} {i j : Item} → i ≡ j → Took p end i.place i.length q → Took p end j.place j.length q
took_as {p} {end} {q} e = subst (λ (x : Item). Took p end x.place x.length q) e
