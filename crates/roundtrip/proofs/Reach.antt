-- A step looks at no bit that is further away than its widths say, however it ends.
use Rattle.std.proofs.Common.{◌≡◌, ℕ, zero, suc, ◌+◌, ◌-◌, ◌*◌, ◌/◌, ◌%◌, ◌≤◌, Bool, true, false, cond, eqb, ltb, List, length, ℤ, Ok, Err, sym, refl, ap, ◌∙◌, subst, mod-lt, div-add-mod', arith}
use lib.Dec.{eqb-suc-zero}
use Rattle.rules.proofs.Facts.{via, ok_same, aligned_facts, natural_bound}
use Rattle.records.specs.declared.records.Class.{Class}
use Rattle.rules.specs.Checks.{Check, then, ensure, pick}
use Rattle.bits.specs.Bits.{number, part}
use Rattle.records.specs.declared.statements.ReadLine.{ReadLine}
use Rattle.rules.specs.declared.steps.Window.{Window}
use Rattle.rules.specs.declared.steps.Got.{Got}
use Rattle.rules.specs.declared.steps.Header.{Header}
use Rattle.rules.specs.Steps.{enough, next_multiple, aligned, taken, natural, element, mapped, size_bytes, sized, header, id_width}
use Rattle.roundtrip.specs.Least.{Agree}
use Rattle.roundtrip.proofs.Agree.{by_bits, part_agree}

-- alignment skips fewer bits than its number
pub multiple_near : (of p : ℕ) → next_multiple of p ≤ p + of
multiple_near zero p = omega arith
multiple_near (suc m) p =
    let a = div-add-mod' (p + m) (suc m) in
    let q : (p + m) / suc m * suc m ≤ p + suc m = omega arith in
    let e : m ≡ suc m - 1 = omega arith in
    subst (λ z. cond z p ((p + (suc m - 1)) / suc m * suc m) ≤ p + suc m) (sym (eqb-suc-zero m)) (subst (λ z. (p + z) / suc m * suc m ≤ p + suc m) e q)

-- an object's beginning is aligned to a byte at most
byte_at_most : (b : Bool) → cond b 0 8 ≤ 8
byte_at_most true = omega arith
byte_at_most false = omega arith

-- two chains that begin alike and go on alike
then_same : {A B : Type 0} (c e : Check A) (f g : A → Check B) → c ≡ e → ((a : A) → e ≡ Ok a → f a ≡ g a) → then c f ≡ then e g
unfolding then
then_same {A} {B} c e f g same h = ap (λ x. then x f) same ∙ go e h
  where
    go : (e : Check A) → ((a : A) → e ≡ Ok a → f a ≡ g a) → then e f ≡ then e g
    go (Ok a) h = h a refl
    go (Err x) h = refl

module _ (B C : List Bool) (long : length B ≡ length C) where
  pub aligned_near : (w : Window) (to p : ℕ) → Agree B C p (p + to) → aligned B w to p ≡ aligned C w to p
  aligned_near w to p a =
      let m = multiple_near to p in
      by_bits B C w to p (part_agree B C long (next_multiple to p - p) p (λ k u v. a k u (omega arith)))

  taken_near : (w : Window) (n p : ℕ) → Agree B C p (p + n) → taken B w n p ≡ taken C w n p
  unfolding taken
  taken_near w n p a = ap (λ l. then (enough w p n) λ _. Ok (number l)) (part_agree B C long n p a)

  pub element_near : (w : Window) (l : ReadLine) (width low high : Check ℤ) (p : ℕ) → Agree B C p (p + (l.alignment + 32)) →
      element B w l width low high p ≡ element C w l width low high p
  unfolding element
  element_near w l width low high p a =
      then_same _ _ _ _ (aligned_near w l.alignment p (λ k u v. a k u (omega arith))) λ q al.
      then_same _ _ _ _ refl λ n wi.
      let f = aligned_facts C w l.alignment p q al in
      let ah = f.ahead in
      let is = f.is in
      let m = multiple_near l.alignment p in
      let b = natural_bound 32 n width wi in
      then_same _ _ _ _ (taken_near w n q (λ k u v. a k (omega arith) (omega arith))) (λ raw e. refl)

  pub mapped_near : (w : Window) (width : ℕ) (outputs : ℕ → Check ℤ) (p : ℕ) → Agree B C p (p + width) →
      mapped B w width outputs p ≡ mapped C w width outputs p
  unfolding mapped
  mapped_near w width outputs p a = then_same _ _ _ _ (taken_near w width p a) (λ index e. refl)

  size_bytes_near : (w : Window) (m high p : ℕ) → Agree B C p (p + 8 * m) → size_bytes B w m high p ≡ size_bytes C w m high p
  unfolding size_bytes
  size_bytes_near w zero high p a = refl
  size_bytes_near w (suc m) high p a =
      then_same _ _ _ _ (taken_near w 8 p (λ k u v. a k u (omega arith))) λ b e.
      ap (λ x. pick (ltb b 128) (λ _. Ok (high * 128 + b, p + 8)) (λ _. x)) (size_bytes_near w m (high * 128 + b % 128) (p + 8) (λ k u v. a k (omega arith) (omega arith)))

  sized_near : (w : Window) (g p : ℕ) → Agree B C p (p + 32) → sized B w g p ≡ sized C w g p
  unfolding sized
  sized_near w zero p a = refl
  sized_near w (suc g) p a = then_same _ _ _ _ (size_bytes_near w 4 0 p a) (λ s e. refl)

  pub header_near : (w : Window) (c : Class) (g p : ℕ) → Agree B C p (p + (40 + id_width c)) → header B w c g p ≡ header C w c g p
  unfolding header
  header_near w c g p a =
      let to : ℕ = cond (eqb g 0) 0 8 in
      let m = multiple_near to p in
      let most : to ≤ 8 = byte_at_most (eqb g 0) in
      then_same _ _ _ _ (aligned_near w to p (λ k u v. a k u (omega arith))) λ q al.
      let f = aligned_facts C w to p q al in
      let ah = f.ahead in
      let is = f.is in
      then_same _ _ _ _ (taken_near w (id_width c) q (λ k u v. a k (omega arith) (omega arith))) λ id ta.
      then_same _ _ _ _ (sized_near w g (q + id_width c) (λ k u v. a k (omega arith) (omega arith))) (λ s e. refl)

-- and so ends there
module _ (B : List Bool) where
  pub aligned_reach : (w : Window) (to p q : ℕ) → aligned B w to p ≡ Ok q → q ≤ p + to
  aligned_reach w to p q e = let m = multiple_near to p in let f = (aligned_facts B w to p q e).is in omega arith

  pub element_reach : (w : Window) (l : ReadLine) (width low high : Check ℤ) (p : ℕ) (g : Got) →
      element B w l width low high p ≡ Ok g → g.place + g.length ≤ p + (l.alignment + 32)
  unfolding element
  element_reach w l width low high p g e =
      via Goal _ _ g e λ q al e.
      via Goal _ _ g e λ n wi e.
      via Goal _ _ g e λ raw ta e.
      via Goal _ _ g e λ x lo e.
      via Goal _ _ g e λ y hi e.
      let r = ok_same _ g e in
      let p₁ : q ≡ g.place = ap (λ (z : Got). z.place) r in
      let p₂ : n ≡ g.length = ap (λ (z : Got). z.length) r in
      let a = aligned_reach w l.alignment p q al in
      let b = natural_bound 32 n width wi in
      omega arith
    where
      Goal : Type 0
      Goal = g.place + g.length ≤ p + (l.alignment + 32)

  size_reach : (w : Window) (m high p : ℕ) (r : ℕ × ℕ) → size_bytes B w m high p ≡ Ok r → r.1 ≤ p + 8 * m
  unfolding size_bytes
  size_reach w zero high p r e = let y : ◌≡◌ {A = ℕ} 0 1 = cc in let z : ⊥ = omega arith in absurd z
  size_reach w (suc m) high p r e =
      via (r.1 ≤ p + 8 * suc m) _ _ r e λ b ta e. go b (ltb b 128) e (size_reach w m (high * 128 + b % 128) (p + 8) r)
    where
      go : (b : ℕ) (t : Bool) → pick t (λ _. Ok (high * 128 + b, p + 8)) (λ _. size_bytes B w m (high * 128 + b % 128) (p + 8)) ≡ Ok r →
          (size_bytes B w m (high * 128 + b % 128) (p + 8) ≡ Ok r → r.1 ≤ p + 8 + 8 * m) → r.1 ≤ p + 8 * suc m
      go b true e k = let q : p + 8 ≡ r.1 = ap (λ s. s.1) (ok_same (high * 128 + b, p + 8) r e) in omega arith
      go b false e k = let q = k e in omega arith

  sized_reach : (w : Window) (g p : ℕ) (s : ℕ × ℕ) → sized B w g p ≡ Ok s → s.1 ≤ p + 32
  unfolding sized
  sized_reach w zero p s e = let b : p ≡ s.1 = ap (λ t. t.1) (ok_same (0, p) s e) in omega arith
  sized_reach w (suc g) p s e =
      via (s.1 ≤ p + 32) _ _ s e λ t by e.
      via (s.1 ≤ p + 32) _ _ s e λ x le e.
      via (s.1 ≤ p + 32) _ _ s e λ y en e.
      let f = size_reach w 4 0 p t by in
      subst (λ (s : ℕ × ℕ). s.1 ≤ p + 32) (ok_same t s e) f

  pub header_reach : (w : Window) (c : Class) (g p : ℕ) (h : Header) → header B w c g p ≡ Ok h → h.after ≤ p + (40 + id_width c)
  unfolding header
  header_reach w c g p h e =
      via (h.after ≤ p + (40 + id_width c)) _ _ h e λ q al e.
      via (h.after ≤ p + (40 + id_width c)) _ _ h e λ id ta e.
      via (h.after ≤ p + (40 + id_width c)) _ _ h e λ s si e.
      let a = aligned_reach w (cond (eqb g 0) 0 8) p q al in
      let k = byte_at_most (eqb g 0) in
      let z = sized_reach w g (q + id_width c) s si in
      let f : s.1 ≡ h.after = ap (λ (z : Header). z.after) (ok_same _ h e) in
      omega arith
