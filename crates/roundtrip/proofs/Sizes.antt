-- An object's beginning: the id, and a size in the fewest bytes.
use Rattle.std.proofs.Common.{◌≡◌, ℕ, zero, suc, ◌+◌, ◌*◌, ◌/◌, ◌%◌, ◌^◌, ◌<◌, ◌≤◌, Bool, true, false, cond, T, eqb, ltb, leb, List, [], ◌++◌, length, Ok, refl, ap, ◌∙◌, subst, arith, le→leb, ltb→lt, leb→le, nltb→le, length-append}
use Rattle.std.proofs.lemmas.Bool.{lt-ltb, ltb-true, le-ltb}
use Rattle.rules.proofs.Booleans.{pick_is}
use Rattle.rules.proofs.Facts.{ensure_ok, via, ok_same, aligned_facts, taken_facts}
use Rattle.records.specs.declared.records.Class.{Class}
use Rattle.rules.specs.Checks.{pick}
use Rattle.bits.specs.Bits.{bits_of, length-bits_of}
use Rattle.rules.specs.declared.steps.Window.{Window}
use Rattle.rules.specs.declared.steps.Header.{Header}
use Rattle.rules.specs.Steps.{aligned, taken, size_bytes, sized, header}
use Rattle.roundtrip.specs.Own.{size_code, size_bits, header_bits}
use Rattle.rules.specs.Steps.{id_width}
use Rattle.roundtrip.specs.Standing.{Zeros, Has}
use Rattle.roundtrip.proofs.Numbers.{has_append}
use Rattle.roundtrip.proofs.Again.{then_to, to_ensure, aligned_again, taken_has}

-- the forms of a size
data CodeOf (s : ℕ) : List Bool → Type 0 where
  one : s < 128 → CodeOf s (bits_of 8 s)
  two : 128 ≤ s → s < 16384 → CodeOf s (bits_of 8 (128 + s / 128) ++ bits_of 8 (s % 128))
  three : 16384 ≤ s → s < 2097152 → CodeOf s (bits_of 8 (128 + s / 16384) ++ (bits_of 8 (128 + s / 128 % 128) ++ bits_of 8 (s % 128)))
  four : 2097152 ≤ s → CodeOf s (bits_of 8 (128 + s / 2097152) ++ (bits_of 8 (128 + s / 16384 % 128) ++ (bits_of 8 (128 + s / 128 % 128) ++ bits_of 8 (s % 128))))

code_of : (s : ℕ) → CodeOf s (size_code s)
unfolding size_code
code_of s =
    pick_is (CodeOf s) (ltb s 128) _ _ (λ t. one (ltb→lt s 128 t)) λ t.
    pick_is (CodeOf s) (ltb s 16384) _ _ (λ u. two (nltb→le s 128 t) (ltb→lt s 16384 u)) λ u.
    pick_is (CodeOf s) (ltb s 2097152) _ _ (λ v. three (nltb→le s 16384 u) (ltb→lt s 2097152 v)) λ v.
    four (nltb→le s 2097152 v)

-- lengths
length_bytes : (a : ℕ) (xs : List Bool) → length (bits_of 8 a ++ xs) ≡ 8 + length xs
length_bytes a xs = length-append (bits_of 8 a) xs ∙ ap (λ n. n + length xs) (length-bits_of 8 a)

-- one byte of a size
module _ (B : List Bool) (w : Window) where
  last_byte : (m high p b : ℕ) → taken B w 8 p ≡ Ok b → b < 128 → size_bytes B w (suc m) high p ≡ Ok (high * 128 + b, p + 8)
  unfolding size_bytes
  last_byte m high p b e l =
      then_to _ _ b e ∙ ap (λ t. pick t (λ _. Ok (high * 128 + b, p + 8)) (λ _. size_bytes B w m (high * 128 + b % 128) (p + 8))) (lt-ltb b 128 l)

  more_bytes : (m high p b : ℕ) → taken B w 8 p ≡ Ok b → 128 ≤ b → size_bytes B w (suc m) high p ≡ size_bytes B w m (high * 128 + b % 128) (p + 8)
  unfolding size_bytes
  more_bytes m high p b e l =
      then_to _ _ b e ∙ ap (λ t. pick t (λ _. Ok (high * 128 + b, p + 8)) (λ _. size_bytes B w m (high * 128 + b % 128) (p + 8))) (le-ltb b 128 l)

  pub byte_cases : (P : Type 0) (m high p : ℕ) (r : ℕ × ℕ) → size_bytes B w (suc m) high p ≡ Ok r →
      ((b : ℕ) → b < 128 → p + 8 ≤ w.end → (high * 128 + b, p + 8) ≡ r → P) →
      ((x : ℕ) → x < 128 → p + 8 ≤ w.end → size_bytes B w m (high * 128 + x) (p + 8) ≡ Ok r → P) → P
  unfolding size_bytes
  byte_cases P m high p r e f g =
      via P _ _ r e λ b ta e.
      let t = taken_facts B w 8 p b ta in
      go b t.0 (ltb b 128) refl e
    where
      go : (b : ℕ) → p + 8 ≤ w.end → (t : Bool) → ltb b 128 ≡ t →
          pick t (λ _. Ok (high * 128 + b, p + 8)) (λ _. size_bytes B w m (high * 128 + b % 128) (p + 8)) ≡ Ok r → P
      go b l true q e = f b (ltb-true b 128 q) l (ok_same _ r e)
      go b l false q e = g (b % 128) (omega arith) l e

  pub never : (high p : ℕ) (r : ℕ × ℕ) → size_bytes B w 0 high p ≡ Ok r → ⊥
  unfolding size_bytes
  never high p r e = let y : ◌≡◌ {A = ℕ} 0 1 = cc in omega arith

  -- a byte that is followed by more
  pub record Next (m high q k : ℕ) (xs : List Bool) : Type 0 where
    pub goes : size_bytes B w (suc m) high q ≡ size_bytes B w m (high * 128 + k) (q + 8)
    pub has : Has B (q + 8) xs
    pub long : length (bits_of 8 (128 + k) ++ xs) ≡ 8 + length xs

  next : (m high q k : ℕ) (xs : List Bool) → q + length (bits_of 8 (128 + k) ++ xs) ≤ w.end → w.end ≤ length B → k < 128 →
      Has B q (bits_of 8 (128 + k) ++ xs) → Next m high q k xs
  next m high q k xs l le b h =
      let x = has_append B q (bits_of 8 (128 + k)) xs h in
      let a = length_bytes (128 + k) xs in
      let f = length-bits_of 8 (128 + k) in
      let e : (128 + k) % 128 ≡ k = omega arith in
      record {
        goes = more_bytes m high q (128 + k) (taken_has w 8 q B (128 + k) (omega arith) le (omega arith) x.0) (omega arith) ∙ ap (λ z. size_bytes B w m (high * 128 + z) (q + 8)) e;
        has = subst (λ z. Has B z xs) (omega arith) x.1;
        long = a;
      }

-- a size that was read stands within, and its fewest bytes do
pub record SizeRead (w : Window) (p : ℕ) (s q : ℕ) : Type 0 where
  pub small : s < 268435456
  pub within : q ≤ w.end
  pub fewest : p + length (size_code s) ≤ q

module _ (w : Window) (p : ℕ) where
  size_length : (s : ℕ) (xs : List Bool) → CodeOf s xs → (s < 128 → length xs ≤ 8) × (s < 16384 → length xs ≤ 16) × (s < 2097152 → length xs ≤ 24) × (length xs ≤ 32)
  size_length s xs (one h) = let e = length-bits_of 8 s in (λ z. omega arith, λ z. omega arith, λ z. omega arith, omega arith)
  size_length s xs (two h k) =
      let a = length_bytes (128 + s / 128) (bits_of 8 (s % 128)) in let e = length-bits_of 8 (s % 128) in
      (λ z. omega arith, λ z. omega arith, λ z. omega arith, omega arith)
  size_length s xs (three h k) =
      let a = length_bytes (128 + s / 16384) (bits_of 8 (128 + s / 128 % 128) ++ bits_of 8 (s % 128)) in
      let b = length_bytes (128 + s / 128 % 128) (bits_of 8 (s % 128)) in let e = length-bits_of 8 (s % 128) in
      (λ z. omega arith, λ z. omega arith, λ z. omega arith, omega arith)
  size_length s xs (four h) =
      let a = length_bytes (128 + s / 2097152) (bits_of 8 (128 + s / 16384 % 128) ++ (bits_of 8 (128 + s / 128 % 128) ++ bits_of 8 (s % 128))) in
      let f = length_bytes (128 + s / 16384 % 128) (bits_of 8 (128 + s / 128 % 128) ++ bits_of 8 (s % 128)) in
      let b = length_bytes (128 + s / 128 % 128) (bits_of 8 (s % 128)) in let e = length-bits_of 8 (s % 128) in
      (λ z. omega arith, λ z. omega arith, λ z. omega arith, omega arith)

  pub size_read : (B : List Bool) (r : ℕ × ℕ) → size_bytes B w 4 0 p ≡ Ok r → SizeRead w p r.0 r.1
  size_read B r e =
      byte_cases B w Goal 3 0 p r e (λ b l m q. of _ _ q (let z = size_length _ _ (code_of (0 * 128 + b)) in record { small = omega arith; within = m; fewest = omega (arith, z.0 (omega arith)) })) λ x₁ l₁ m₁ e.
      byte_cases B w Goal 2 _ _ r e (λ b l m q. of _ _ q (let z = size_length _ _ (code_of ((0 * 128 + x₁) * 128 + b)) in record { small = omega arith; within = m; fewest = omega (arith, z.1 (omega arith)) })) λ x₂ l₂ m₂ e.
      byte_cases B w Goal 1 _ _ r e (λ b l m q. of _ _ q (let z = size_length _ _ (code_of (((0 * 128 + x₁) * 128 + x₂) * 128 + b)) in record { small = omega arith; within = m; fewest = omega (arith, z.2 (omega arith)) })) λ x₃ l₃ m₃ e.
      byte_cases B w Goal 0 _ _ r e (λ b l m q. of _ _ q (let z = size_length _ _ (code_of ((((0 * 128 + x₁) * 128 + x₂) * 128 + x₃) * 128 + b)) in record { small = omega arith; within = m; fewest = omega (arith, z.3) })) λ x₄ l₄ m₄ e.
      absurd (never B w _ _ r e)
    where
      Goal : Type 0
      Goal = SizeRead w p r.0 r.1

      of : (s q : ℕ) → (s, q) ≡ r → SizeRead w p s q → Goal
      of s q e z = subst (λ (x : ℕ × ℕ). SizeRead w p x.0 x.1) e z

  pub size_again : (B : List Bool) (s : ℕ) → s < 268435456 → p + length (size_code s) ≤ w.end → w.end ≤ length B → Has B p (size_code s) →
      size_bytes B w 4 0 p ≡ Ok (s, p + length (size_code s))
  size_again B s small l m h = go (size_code s) (code_of s) l h
    where
      last : (n high q k t : ℕ) → q + length (bits_of 8 k) ≤ w.end → k < 128 → Has B q (bits_of 8 k) → high * 128 + k ≡ s → q + length (bits_of 8 k) ≡ t →
          size_bytes B w (suc n) high q ≡ Ok (s, t)
      last n high q k t l b has es et =
          let e = length-bits_of 8 k in
          let et' : q + 8 ≡ t = omega arith in
          last_byte B w n high q k (taken_has w 8 q B k (omega arith) m (omega arith) has) b ∙ (λ i. Ok (es i, et' i))

      go : (xs : List Bool) → CodeOf s xs → p + length xs ≤ w.end → Has B p xs → size_bytes B w 4 0 p ≡ Ok (s, p + length xs)
      go xs (one h) l has = last 3 0 p s _ l h has (omega arith) refl
      go xs (two h k) l has =
          let n₁ = next B w 3 0 p (s / 128) _ l m (omega arith) has in
          n₁.goes ∙ last 2 _ (p + 8) (s % 128) _ (omega (arith, n₁.long)) (omega arith) n₁.has (omega arith) (omega (arith, n₁.long))
      go xs (three h k) l has =
          let n₁ = next B w 3 0 p (s / 16384) _ l m (omega arith) has in
          let n₂ = next B w 2 (0 * 128 + s / 16384) (p + 8) (s / 128 % 128) (bits_of 8 (s % 128)) (omega (arith, n₁.long)) m (omega arith) n₁.has in
          n₁.goes ∙ n₂.goes ∙ last 1 _ (p + 8 + 8) (s % 128) _ (omega (arith, n₁.long, n₂.long)) (omega arith) n₂.has (omega arith) (omega (arith, n₁.long, n₂.long))
      go xs (four h) l has =
          let n₁ = next B w 3 0 p (s / 2097152) _ l m (omega arith) has in
          let n₂ = next B w 2 (0 * 128 + s / 2097152) (p + 8) (s / 16384 % 128) _ (omega (arith, n₁.long)) m (omega arith) n₁.has in
          let n₃ = next B w 1 _ (p + 8 + 8) (s / 128 % 128) (bits_of 8 (s % 128)) (omega (arith, n₁.long, n₂.long)) m (omega arith) n₂.has in
          n₁.goes ∙ n₂.goes ∙ n₃.goes ∙
          last 0 _ (p + 8 + 8 + 8) (s % 128) _ (omega (arith, n₁.long, n₂.long, n₃.long)) (omega arith) n₃.has (omega arith) (omega (arith, n₁.long, n₂.long, n₃.long))

-- the size of an object whose greatest size is given
pub record SizedAgain (w : Window) (g p : ℕ) (s : ℕ × ℕ) : Type 0 where
  pub within : p + length (size_bits g s.0) + 8 * s.0 ≤ w.end
  pub small : s.0 < 268435456
  pub again : (B : List Bool) → w.end ≤ length B → Has B p (size_bits g s.0) → sized B w g p ≡ Ok (s.0, p + length (size_bits g s.0))

pub sized_again : (w : Window) (g p : ℕ) (s : ℕ × ℕ) (B : List Bool) → p ≤ w.end → sized B w g p ≡ Ok s → SizedAgain w g p s
unfolding sized
sized_again w zero p s B l e =
    subst (SizedAgain w zero p) (ok_same _ s e)
    (record { within = omega arith; small = omega arith; again = λ B' m h. ap (λ q. Ok (0, q)) (let z : p ≡ p + length {A = Bool} [] = omega arith in z) })
sized_again w (suc g) p s B l e =
    via Goal _ _ s e λ t si e.
    via Goal _ _ s e λ x gr e.
    via Goal _ _ s e λ y en e.
    subst (SizedAgain w (suc g) p) (ok_same _ s e) (known t si (ensure_ok _ _ _ gr) (leb→le _ _ (ensure_ok _ _ _ en)))
  where
    Goal : Type 0
    Goal = SizedAgain w (suc g) p s

    known : (t : ℕ × ℕ) → size_bytes B w 4 0 p ≡ Ok t → T (leb t.0 (suc g)) → t.1 + 8 * t.0 ≤ w.end → SizedAgain w (suc g) p t
    known t si gr en =
        let r = size_read w p B t si in
        let few = r.fewest in
        record {
          within = omega arith;
          small = r.small;
          again = λ B' m h.
              then_to _ _ _ (size_again w p B' t.0 r.small (omega arith) m h) ∙
              then_to _ _ tt (to_ensure _ _ gr) ∙
              then_to _ _ tt (to_ensure _ _ (le→leb (p + length (size_code t.0) + 8 * t.0) w.end (omega arith)));
        }

-- an object's beginning
pub record HeaderAgain (w : Window) (c : Class) (greatest p : ℕ) (h : Header) : Type 0 where
  pub ahead : p ≤ h.place
  pub fits : h.id < 2 ^ id_width c
  pub small : h.size < 268435456
  pub within : h.place + length (header_bits c greatest h.id h.size) + 8 * h.size ≤ w.end
  pub again : (B : List Bool) → w.end ≤ length B → Zeros B p h.place → Has B h.place (header_bits c greatest h.id h.size) →
      header B w c greatest p ≡ Ok (record { id = h.id; size = h.size; place = h.place; after = h.place + length (header_bits c greatest h.id h.size) })

pub header_again : (w : Window) (c : Class) (greatest p : ℕ) (h : Header) (B : List Bool) → header B w c greatest p ≡ Ok h → HeaderAgain w c greatest p h
unfolding header header_bits
header_again w c greatest p h B e =
    via Goal _ _ h e λ q al e.
    via Goal _ _ h e λ id ta e.
    via Goal _ _ h e λ s si e.
    subst (HeaderAgain w c greatest p) (ok_same _ h e) (known q id s al ta si)
  where
    Goal : Type 0
    Goal = HeaderAgain w c greatest p h

    known : (q id : ℕ) (s : ℕ × ℕ) → aligned B w (cond (eqb greatest 0) 0 8) p ≡ Ok q → taken B w (id_width c) q ≡ Ok id → sized B w greatest (q + id_width c) ≡ Ok s →
        HeaderAgain w c greatest p (record { id = id; size = s.0; place = q; after = s.1 })
    known q id s al ta si =
        let a = aligned_facts B w _ p q al in
        let t = taken_facts B w (id_width c) q id ta in
        let z = sized_again w greatest (q + id_width c) s B t.0 si in
        let e₁ = length-append (bits_of (id_width c) id) (size_bits greatest s.0) in
        let e₂ = length-bits_of (id_width c) id in
        let e₃ : q + id_width c + length (size_bits greatest s.0) ≡ q + length (bits_of (id_width c) id ++ size_bits greatest s.0) = omega arith in
        record {
          ahead = a.ahead;
          fits = t.1;
          small = z.small;
          within = omega (arith, z.within);
          again = λ B' m ze ha.
              let x = has_append B' q (bits_of (id_width c) id) (size_bits greatest s.0) ha in
              then_to _ _ _ (aligned_again w _ p q B B' al ze) ∙
              then_to _ _ _ (taken_has w (id_width c) q B' id t.0 m t.1 x.0) ∙
              then_to _ _ _ (z.again B' m (subst (λ k. Has B' k (size_bits greatest s.0)) (ap (λ k. q + k) e₂) x.1)) ∙
              ap (λ k. Ok (record { id = id; size = s.0; place = q; after = k })) e₃;
        }
