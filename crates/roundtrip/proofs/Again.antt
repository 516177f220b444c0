-- Single steps: what a step gives over some bits, it gives over any bits that have what was taken and 0 where it
-- skipped.
use Rattle.rules.specs.declared.faults.ReadingCause.{ReadingCause}
use Rattle.rules.specs.declared.faults.ReadingCause.TheVariants.{SkippedBits}
use Rattle.std.proofs.Common.{◌≡◌, ℕ, zero, suc, ◌+◌, ◌-◌, ◌^◌, ◌<◌, ◌≤◌, Bool, true, false, cond, not, T, eqb, leb, List, length, ℤ, pos, Ok, Err, sym, refl, ap, ◌∙◌, subst, inl, inr, mod-eq_of_lt, arith, le→leb, T_not}
use Rattle.std.proofs.lemmas.Bool.{cases_lt}
use Rattle.bits.proofs.Numbers.{number-bits_of}
use Rattle.rules.proofs.Facts.{via, ok_same, aligned_facts, taken_facts, natural_bound, multiple_above}
use Rattle.checked.proofs.Booleans.{true_of, false_of}
use Rattle.rules.proofs.Booleans.{decide}
use Rattle.rules.specs.Checks.{Check, then, ensure}
use Rattle.bits.specs.Bits.{number, part, bits_of, length-bits_of}
use Rattle.records.specs.declared.statements.ReadLine.{ReadLine}
use Rattle.rules.specs.declared.steps.Window.{Window}
use Rattle.rules.specs.declared.steps.Got.{Got}
use Rattle.rules.specs.Steps.{next_multiple, aligned, taken, natural, signed, at_least, at_most, element, mapped}
use Rattle.roundtrip.specs.Own.{complement, gives_value, first_such, lowest_index}
use Rattle.roundtrip.specs.Standing.{Zeros, Has}
use Rattle.roundtrip.proofs.Numbers.{has_part, zeros_number, complement-value, same_eq, same_refl}

pub then_to : {A B : Type 0} (c : Check A) (k : A → Check B) (a : A) → c ≡ Ok a → then c k ≡ k a
unfolding then
then_to c k a e = ap (λ x. then x k) e

pub to_ensure : (b : Bool) (n : ReadingCause) → T b → ensure b n ≡ Ok tt
unfolding ensure
to_ensure true n t = refl
to_ensure false n t = absurd t

-- alignment
pub aligned_zeros : (w : Window) (to p : ℕ) (B : List Bool) → T (leb (p + (next_multiple to p - p)) w.end) → Zeros B p (next_multiple to p) →
    aligned B w to p ≡ Ok (next_multiple to p)
unfolding aligned
aligned_zeros w to p B t z =
    let m = multiple_above to p in
    then_to _ _ tt (to_ensure _ _ t) ∙
    then_to _ _ tt (to_ensure _ SkippedBits (subst (λ k. T (eqb k 0)) (sym (zeros_number B (next_multiple to p - p) p (λ k u v. z k u (omega arith)))) tt))

pub aligned_again : (w : Window) (to p q : ℕ) (B B' : List Bool) → aligned B w to p ≡ Ok q → Zeros B' p q → aligned B' w to p ≡ Ok q
aligned_again w to p q B B' e z =
    let f = aligned_facts B w to p q e in
    let fits : p + (next_multiple to p - p) ≤ w.end = omega (arith, f.ahead, f.within, f.is) in
    aligned_zeros w to p B' (le→leb _ _ fits) (subst (Zeros B' p) (sym f.is) z) ∙ ap (λ y. Ok y) f.is

-- the next n bits
pub taken_has : (w : Window) (n p : ℕ) (B : List Bool) (k : ℕ) → p + n ≤ w.end → w.end ≤ length B → k < 2 ^ n → Has B p (bits_of n k) → taken B w n p ≡ Ok k
unfolding taken
taken_has w n p B k l m b h =
    let e = length-bits_of n k in
    let x : part B p n ≡ bits_of n k = subst (λ z. part B p z ≡ bits_of n k) e (has_part B p (bits_of n k) (omega arith) h) in
    then_to _ _ tt (to_ensure _ _ (le→leb (p + n) w.end l)) ∙
    ap (λ y. Ok y) (ap number x ∙ number-bits_of n k ∙ mod-eq_of_lt b)

-- one element of a read
pub record ElementAgain (w : Window) (l : ReadLine) (width low high : Check ℤ) (p : ℕ) (g : Got) : Type 0 where
  pub ahead : p ≤ g.place
  pub after : g.after ≡ g.place + g.length
  pub within : g.after ≤ w.end
  pub short : g.length ≤ 32
  pub fits : complement g.length g.value < 2 ^ g.length
  pub again : (B : List Bool) → w.end ≤ length B → Zeros B p g.place → Has B g.place (bits_of g.length (complement g.length g.value)) →
      element B w l width low high p ≡ Ok g

pub element_again : (w : Window) (l : ReadLine) (width low high : Check ℤ) (p : ℕ) (g : Got) (B : List Bool) →
    l.ahead ≡ 0 → element B w l width low high p ≡ Ok g → ElementAgain w l width low high p g
unfolding element
element_again w l width low high p g B straight e =
    via Goal _ _ g e λ q al e.
    via Goal _ _ g e λ n wi e.
    via Goal _ _ g e λ raw ta e.
    via Goal _ _ g e λ x lo e.
    via Goal _ _ g e λ y hi e.
    subst (ElementAgain w l width low high p) (ok_same _ g e) (known q n raw al wi ta lo hi)
  where
    Goal : Type 0
    Goal = ElementAgain w l width low high p g

    known : (q n raw : ℕ) → aligned B w l.alignment p ≡ Ok q → natural 32 width ≡ Ok n → taken B w n q ≡ Ok raw → {x y : Unit {0}} →
        at_least l.lowest low (cond l.signed (signed n raw) (pos raw)) ≡ Ok x →
        at_most l.highest high (cond l.signed (signed n raw) (pos raw)) ≡ Ok y →
        ElementAgain w l width low high p
        (record { value = cond l.signed (signed n raw) (pos raw); place = q; length = n; after = cond (eqb l.ahead 0) (q + n) q })
    known q n raw al wi ta lo hi =
        let a = aligned_facts B w l.alignment p q al in
        let t = taken_facts B w n q raw ta in
        let f : cond (eqb l.ahead 0) (q + n) q ≡ q + n = ap (λ z. cond (eqb z 0) (q + n) q) straight in
        record {
          ahead = a.ahead;
          after = f;
          within = omega arith;
          short = natural_bound 32 n width wi;
          fits = subst (λ k. k < 2 ^ n) (sym (complement-value n raw l.signed t.1)) t.1;
          again = λ B' m z h.
              then_to _ _ _ (aligned_again w l.alignment p q B B' al z) ∙
              then_to _ _ _ wi ∙
              then_to _ _ _ (taken_has w n q B' raw t.0 m t.1 (subst (λ k. Has B' q (bits_of n k)) (complement-value n raw l.signed t.1) h)) ∙
              then_to _ _ _ lo ∙
              then_to _ _ _ hi;
        }

-- a map read
pub first_such_finds : (f : ℕ → Bool) (n x y : ℕ) → x ≤ y → y < x + n → T (f y) → T (f (first_such f n x)) × (first_such f n x ≤ y)
unfolding first_such
first_such_finds f zero x y l m t = let z : ⊥ = omega arith in absurd z
first_such_finds f (suc n) x y l m t =
    decide (f x)
    (λ s. subst (λ b. T (f (cond b x (first_such f n (suc x)))) × (cond b x (first_such f n (suc x)) ≤ y)) (sym (true_of (f x) s)) (s, l))
    (λ s. subst (λ b. T (f (cond b x (first_such f n (suc x)))) × (cond b x (first_such f n (suc x)) ≤ y)) (sym (false_of (f x) s))
    (first_such_finds f n (suc x) y (later s) (omega arith) t))
  where
    later : T (not (f x)) → suc x ≤ y
    later s = elim (cases_lt x y) [
      | inl h ↦ h
      | inr h ↦ (let e : y ≡ x = omega arith in absurd (T_not (f x) s (subst (λ k. T (f k)) e t)))
    ]

pub gives_ok : (v : ℤ) (c : Check ℤ) → T (gives_value v c) → c ≡ Ok v
gives_ok v (Ok u) t = ap (λ z. Ok z) (same_eq u v t)
gives_ok v (Err f) t = absurd t

pub ok_gives : (v : ℤ) (c : Check ℤ) → c ≡ Ok v → T (gives_value v c)
ok_gives v c e = subst (λ x. T (gives_value v x)) (sym e) (same_refl v)

pub lowest_finds : (width : ℕ) (outputs : ℕ → Check ℤ) (v : ℤ) (x : ℕ) → x < 2 ^ width → outputs x ≡ Ok v →
    (outputs (lowest_index width outputs v) ≡ Ok v) × (lowest_index width outputs v ≤ x)
unfolding lowest_index
lowest_finds width outputs v x l e =
    let r = first_such_finds (λ x. gives_value v (outputs x)) (2 ^ width) 0 x (omega arith) (omega arith) (ok_gives v (outputs x) e) in
    (gives_ok v (outputs _) r.0, r.1)

pub record MappedAgain (w : Window) (width : ℕ) (outputs : ℕ → Check ℤ) (p : ℕ) (g : Got) : Type 0 where
  pub place : g.place ≡ p
  pub long : g.length ≡ width
  pub after : g.after ≡ p + width
  pub within : g.after ≤ w.end
  pub fits : lowest_index width outputs g.value < 2 ^ width
  pub again : (B : List Bool) → w.end ≤ length B → Has B p (bits_of width (lowest_index width outputs g.value)) → mapped B w width outputs p ≡ Ok g

pub mapped_again : (w : Window) (width : ℕ) (outputs : ℕ → Check ℤ) (p : ℕ) (g : Got) (B : List Bool) →
    mapped B w width outputs p ≡ Ok g → MappedAgain w width outputs p g
unfolding mapped
mapped_again w width outputs p g B e =
    via Goal _ _ g e λ x ta e.
    via Goal _ _ g e λ v ou e.
    subst (MappedAgain w width outputs p) (ok_same _ g e) (known x v ta ou)
  where
    Goal : Type 0
    Goal = MappedAgain w width outputs p g

    known : (x : ℕ) (v : ℤ) → taken B w width p ≡ Ok x → outputs x ≡ Ok v →
        MappedAgain w width outputs p (record { value = v; place = p; length = width; after = p + width })
    known x v ta ou =
        let t = taken_facts B w width p x ta in
        let f = lowest_finds width outputs v x t.1 ou in
        record {
          place = refl;
          long = refl;
          after = refl;
          within = t.0;
          fits = omega (arith, t.1, f.1);
          again = λ B' m h.
              then_to _ _ _ (taken_has w width p B' (lowest_index width outputs v) t.0 m (omega (arith, t.1, f.1)) h) ∙
              then_to _ _ _ f.0;
        }
