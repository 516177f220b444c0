-- A step looks only at the bits up to where it ends.
use Rattle.rules.specs.declared.faults.ReadingCause.TheVariants.{SkippedBits}
use Rattle.std.proofs.Common.{◌≡◌, ℕ, zero, suc, ◌+◌, ◌-◌, ◌*◌, ◌%◌, ◌≤◌, Bool, true, false, cond, eqb, ltb, List, ◌∷◌, length, take, ℤ, Ok, sym, refl, ap, ◌∙◌, arith, ltb→lt, nltb→le, drop_of_length-le, drop-cons}
use Rattle.rules.proofs.Facts.{via, ok_same, aligned_facts, taken_facts, size_facts, sized_facts, multiple_above}
use Rattle.rules.proofs.Booleans.{decide}
use Rattle.records.specs.declared.records.Class.{Class}
use Rattle.rules.specs.Checks.{Check, then, ensure, pick}
use Rattle.bits.specs.Bits.{number, part}
use Rattle.records.specs.declared.statements.ReadLine.{ReadLine}
use Rattle.rules.specs.declared.steps.Window.{Window}
use Rattle.rules.specs.declared.steps.Got.{Got}
use Rattle.rules.specs.declared.steps.Header.{Header}
use Rattle.rules.specs.Steps.{enough, next_multiple, aligned, taken, element, mapped, size_bytes, sized, header}
use Rattle.rules.specs.Steps.{id_width}
use Rattle.roundtrip.specs.Least.{Agree, Least, Looks}
use Rattle.roundtrip.proofs.Again.{then_to, lowest_finds}
use Rattle.roundtrip.proofs.Sizes.{size_read}

pub by_bits : (B C : List Bool) (w : Window) (to p : ℕ) → part B p (next_multiple to p - p) ≡ part C p (next_multiple to p - p) → aligned B w to p ≡ aligned C w to p
unfolding aligned
by_bits B C w to p e =
    ap (λ l. then (enough w p (next_multiple to p - p)) λ _. then (ensure (eqb (number l) 0) SkippedBits) λ _. Ok (next_multiple to p)) e

module _ (B C : List Bool) (same_length : length B ≡ length C) where
  pub part_agree : (n p : ℕ) → Agree B C p (p + n) → part B p n ≡ part C p n
  part_agree zero p a = refl
  part_agree (suc n) p a =
      decide (ltb p (length B))
      (λ t.
      let l = ltb→lt p (length B) t in
      ap (take (suc n)) (drop-cons B p false l) ∙
      (λ i. a p (omega arith) (omega arith) i ∷ part_agree n (suc p) (λ k u v. a k (omega arith) (omega arith)) i) ∙
      sym (ap (take (suc n)) (drop-cons C p false (omega arith))))
      (λ t.
      let l = nltb→le p (length B) t in
      let m : length C ≤ p = omega arith in
      ap (take (suc n)) (drop_of_length-le B l ∙ sym (drop_of_length-le C m)))

  aligned_agree : (w : Window) (to p q : ℕ) → aligned B w to p ≡ Ok q → Agree B C p q → aligned C w to p ≡ Ok q
  aligned_agree w to p q e a =
      let m = multiple_above to p in
      let f = (aligned_facts B w to p q e).is in
      sym (by_bits B C w to p (part_agree (next_multiple to p - p) p (λ k u v. a k u (omega arith)))) ∙ e

  taken_agree : (w : Window) (n p k : ℕ) → taken B w n p ≡ Ok k → Agree B C p (p + n) → taken C w n p ≡ Ok k
  unfolding taken
  taken_agree w n p k e a = sym (ap (λ l. then (enough w p n) λ _. Ok (number l)) (part_agree n p a)) ∙ e

  element_agree : (w : Window) (l : ReadLine) (width low high : Check ℤ) (p : ℕ) (g : Got) →
      element B w l width low high p ≡ Ok g → Agree B C p (g.place + g.length) → element C w l width low high p ≡ Ok g
  unfolding element
  element_agree w l width low high p g e =
      via Goal _ _ g e λ q al e.
      via Goal _ _ g e λ n wi e.
      via Goal _ _ g e λ raw ta e.
      via Goal _ _ g e λ x lo e.
      via Goal _ _ g e λ y hi e a.
      let r = ok_same _ g e in
      let p₁ : q ≡ g.place = ap (λ (z : Got). z.place) r in
      let p₂ : n ≡ g.length = ap (λ (z : Got). z.length) r in
      let f = aligned_facts B w l.alignment p q al in
      let ah = f.ahead in
      then_to _ _ _ (aligned_agree w l.alignment p q al (λ k u v. a k u (omega arith))) ∙
      then_to _ _ _ wi ∙
      then_to _ _ _ (taken_agree w n q raw ta (λ k u v. a k (omega arith) (omega arith))) ∙
      then_to _ _ _ lo ∙ then_to _ _ _ hi ∙ e
    where
      Goal : Type 0
      Goal = Agree B C p (g.place + g.length) → element C w l width low high p ≡ Ok g

  mapped_agree : (w : Window) (width : ℕ) (outputs : ℕ → Check ℤ) (p : ℕ) (g : Got) →
      mapped B w width outputs p ≡ Ok g → Agree B C p g.after → mapped C w width outputs p ≡ Ok g
  unfolding mapped
  mapped_agree w width outputs p g e =
      via Goal _ _ g e λ x ta e.
      via Goal _ _ g e λ v ou e a.
      let r : p + width ≡ g.after = ap (λ (z : Got). z.after) (ok_same _ g e) in
      then_to _ _ _ (taken_agree w width p x ta (λ k u v. a k u (omega arith))) ∙ then_to _ _ _ ou ∙ e
    where
      Goal : Type 0
      Goal = Agree B C p g.after → mapped C w width outputs p ≡ Ok g

  size_bytes_agree : (w : Window) (m high p : ℕ) (r : ℕ × ℕ) → size_bytes B w m high p ≡ Ok r → Agree B C p r.1 → size_bytes C w m high p ≡ Ok r
  unfolding size_bytes
  size_bytes_agree w zero high p r e a = e
  size_bytes_agree w (suc m) high p r e a =
      let z = (size_facts B w (suc m) high p r e).0 in
      via (size_bytes C w (suc m) high p ≡ Ok r) _ _ r e λ b ta e.
      then_to _ _ _ (taken_agree w 8 p b ta (λ k u v. a k u (omega arith))) ∙
      go _ (λ e. size_bytes_agree w m (high * 128 + b % 128) (p + 8) r e (λ k u v. a k (omega arith) v)) (ltb b 128) e
    where
      go : {x y : Check (ℕ × ℕ)} (v : ℕ × ℕ) → (x ≡ Ok r → y ≡ Ok r) → (t : Bool) → pick t (λ _. Ok v) (λ _. x) ≡ Ok r → pick t (λ _. Ok v) (λ _. y) ≡ Ok r
      go v f true e = e
      go v f false e = f e

  sized_agree : (w : Window) (g p : ℕ) (r : ℕ × ℕ) → sized B w g p ≡ Ok r → Agree B C p r.1 → sized C w g p ≡ Ok r
  unfolding sized
  sized_agree w zero p r e = λ a. e
  sized_agree w (suc g) p r e =
      via Goal _ _ r e λ t si e.
      via Goal _ _ r e λ x gr e.
      via Goal _ _ r e λ y en e a.
      let f : t.1 ≡ r.1 = ap (λ (z : ℕ × ℕ). z.1) (ok_same t r e) in
      then_to _ _ _ (size_bytes_agree w 4 0 p t si (λ k u v. a k u (omega arith))) ∙ then_to _ _ _ gr ∙ then_to _ _ _ en ∙ e
    where
      Goal : Type 0
      Goal = Agree B C p r.1 → sized C w (suc g) p ≡ Ok r

  header_agree : (w : Window) (c : Class) (g p : ℕ) (h : Header) → header B w c g p ≡ Ok h → Agree B C p h.after → header C w c g p ≡ Ok h
  unfolding header
  header_agree w c g p h e =
      via Goal _ _ h e λ q al e.
      via Goal _ _ h e λ id ta e.
      via Goal _ _ h e λ s si e a.
      let f : s.1 ≡ h.after = ap (λ (z : Header). z.after) (ok_same _ h e) in
      let x = aligned_facts B w (cond (eqb g 0) 0 8) p q al in
      let ah = x.ahead in
      let y = (sized_facts B w g (q + id_width c) s (taken_facts B w (id_width c) q id ta).0 si).0 in
      then_to _ _ _ (aligned_agree w (cond (eqb g 0) 0 8) p q al (λ k u v. a k u (omega arith))) ∙
      then_to _ _ _ (taken_agree w (id_width c) q id ta (λ k u v. a k (omega arith) (omega arith))) ∙
      then_to _ _ _ (sized_agree w g (q + id_width c) s si (λ k u v. a k (omega arith) (omega arith))) ∙ e
    where
      Goal : Type 0
      Goal = Agree B C p h.after → header C w c g p ≡ Ok h

pub least : Least
least = record { index = lowest_finds; size = λ B w p r e. (size_read w p B r e).fewest }

pub looks : Looks
looks =
    record {
      at_alignment = λ B C l w to p q e a. aligned_agree B C l w to p q e a;
      at_element = λ B C l w ln width low high p g e a. element_agree B C l w ln width low high p g e a;
      at_map = λ B C l w width outputs p g e a. mapped_agree B C l w width outputs p g e a;
      at_header = λ B C l w c g p h e a. header_agree B C l w c g p h e a;
    }
