-- The size bytes of an object.
use Rattle.std.proofs.Common.{◌≡◌, ℕ, zero, suc, ◌+◌, ◌-◌, ◌*◌, ◌%◌, ◌^◌, ◌<◌, ◌≤◌, Bool, cond, eqb, ltb, leb, List, Ok, Err, sym, refl, ◌∙◌, mul-le-mul_right, mul_assoc, le-mul_of_pos_right, sub-one, arith, lit<, le-ltb, lt-ltb, le-leb}
use native.Mathlib.Nat.{pow-succ', pow-le-pow_right}
use borrow.Author.Tests.{lt-leb}
use Rattle.records.specs.declared.records.Class.{Class}
use Rattle.rules.specs.declared.faults.Failure.{Failure}
use Rattle.rules.specs.declared.faults.ReadingCause.TheVariants.{Size, PastWindow}
use Rattle.rules.specs.declared.steps.Window.{Window}
use Rattle.rules.specs.Checks.{then, ensure, fails, pick}
use Rattle.rules.specs.Steps.{aligned, taken, size_bytes, sized, id_width, header}

pub size_none : (bits : List Bool) (w : Window) (left high p : ℕ) → left ≡ 0 → size_bytes bits w left high p ≡ fails Size
unfolding size_bytes
size_none bits w left high p e = rw e

-- what a byte of the size comes to, where one may follow
next_size : (bits : List Bool) (w : Window) (left high p : ℕ) → 0 < left → size_bytes bits w left high p ≡ then (taken bits w 8 p) λ byte.
    pick (ltb byte 128) (λ _. Ok (high * 128 + byte, p + 8)) (λ _. size_bytes bits w (left - 1) (high * 128 + byte % 128) (p + 8))
unfolding size_bytes
next_size bits w zero high p h = absurd (omega arith)
next_size bits w (suc k) high p h = simp sub-one

module _ (bits : List Bool) (w : Window) (left high p : ℕ) (some : 0 < left) where
  pub size_fails : (f : Failure) → Err f ≡ taken bits w 8 p → Err f ≡ size_bytes bits w left high p
  unfolding then
  size_fails f e = sym (next_size bits w left high p some ∙ rw (← e))

  pub size_ends : (byte : ℕ) → Ok byte ≡ taken bits w 8 p → byte < 128 → Ok (high * 128 + byte, p + 8) ≡ size_bytes bits w left high p
  unfolding then
  size_ends byte e h = sym (next_size bits w left high p some ∙ rw (← e, lt-ltb byte 128 h))

  pub size_goes : (byte : ℕ) → Ok byte ≡ taken bits w 8 p → 128 ≤ byte →
      size_bytes bits w (left - 1) (high * 128 + byte % 128) (p + 8) ≡ size_bytes bits w left high p
  unfolding then
  size_goes byte e h = sym (next_size bits w left high p some ∙ rw (← e, le-ltb byte 128 h))

-- the size of an object, by its greatest
pub sized_none : (bits : List Bool) (w : Window) (greatest p : ℕ) → greatest ≡ 0 → sized bits w greatest p ≡ Ok (0, p)
unfolding sized
sized_none bits w greatest p e = rw e

next_sized : (bits : List Bool) (w : Window) (greatest p : ℕ) → 0 < greatest → sized bits w greatest p ≡ then (size_bytes bits w 4 0 p) λ s.
    then (ensure (leb s.0 greatest) Size) λ _.
    then (ensure (leb (s.1 + 8 * s.0) w.end) PastWindow) λ _.
    Ok s
unfolding sized
next_sized bits w zero p h = absurd (omega arith)
next_sized bits w (suc g) p h = refl

module _ (bits : List Bool) (w : Window) (greatest p : ℕ) (some : 0 < greatest) where
  pub sized_fails : (f : Failure) → Err f ≡ size_bytes bits w 4 0 p → Err f ≡ sized bits w greatest p
  unfolding then
  sized_fails f e = sym (next_sized bits w greatest p some ∙ rw (← e))

  pub sized_large : (size after : ℕ) → Ok (size, after) ≡ size_bytes bits w 4 0 p → greatest < size → fails Size ≡ sized bits w greatest p
  unfolding then ensure
  sized_large size after e h = sym (next_sized bits w greatest p some ∙ rw (← e, lt-leb size greatest h))

  pub sized_past : (size after : ℕ) → Ok (size, after) ≡ size_bytes bits w 4 0 p → size ≤ greatest → w.end < after + 8 * size → fails PastWindow ≡ sized bits w greatest p
  unfolding then ensure
  sized_past size after e h k = sym (next_sized bits w greatest p some ∙ rw (← e, le-leb size greatest h, lt-leb (after + 8 * size) w.end k))

  pub sized_fits : (size after : ℕ) → Ok (size, after) ≡ size_bytes bits w 4 0 p → size ≤ greatest → after + 8 * size ≤ w.end → Ok (size, after) ≡ sized bits w greatest p
  unfolding then ensure
  sized_fits size after e h k = sym (next_sized bits w greatest p some ∙ rw (← e, le-leb size greatest h, le-leb (after + 8 * size) w.end k))

-- an object's beginning, step by step
module _ (bits : List Bool) (w : Window) (c : Class) (greatest p : ℕ) where
  pub header_unaligned : (f : Failure) → Err f ≡ aligned bits w (cond (eqb greatest 0) 0 8) p → Err f ≡ header bits w c greatest p
  unfolding header then
  header_unaligned f e = rw (← e)

  module _ (q : ℕ) (placed : Ok q ≡ aligned bits w (cond (eqb greatest 0) 0 8) p) where
    pub header_no_id : (f : Failure) → Err f ≡ taken bits w (id_width c) q → Err f ≡ header bits w c greatest p
    unfolding header then
    header_no_id f e = rw (← placed, ← e)

    module _ (id : ℕ) (took : Ok id ≡ taken bits w (id_width c) q) where
      pub header_no_size : (f : Failure) → Err f ≡ sized bits w greatest (q + id_width c) → Err f ≡ header bits w c greatest p
      unfolding header then
      header_no_size f e = rw (← placed, ← took, ← e)

      pub header_whole : (size after : ℕ) → Ok (size, after) ≡ sized bits w greatest (q + id_width c) →
          Ok (record { id = id; size = size; place = q; after = after }) ≡ header bits w c greatest p
      unfolding header then
      header_whole size after e = rw (← placed, ← took, ← e)

-- room for so many bytes more
pieces : (left high : ℕ) → 0 < left → (high + 1) * 128 ^ left ≡ (high + 1) * 128 * 128 ^ (left - 1)
pieces zero high h = absurd (omega arith)
pieces (suc k) high h = rw (sub-one, pow-succ') (sym (mul_assoc (high + 1) 128 (128 ^ k)))

module _ (left high : ℕ) (some : 0 < left) (room : (high + 1) * 128 ^ left ≤ 268435456) where
  pub room_here : (high + 1) * 128 ≤ 268435456
  room_here =
      let e = pieces left high some in
      let q = le-mul_of_pos_right {m = 128 ^ (left - 1)} ((high + 1) * 128) (pow-le-pow_right {n = 128} (lit< tt) {i = 0} {j = left - 1} (omega arith)) in
      omega arith

  pub room_after : (b : ℕ) → b < 128 → (high * 128 + b + 1) * 128 ^ (left - 1) ≤ 268435456
  room_after b h =
      let e = pieces left high some in
      let q = mul-le-mul_right {m = high * 128 + b + 1} {n = (high + 1) * 128} (128 ^ (left - 1)) (omega arith) in
      omega arith
