-- Numbers of some bits put together, and the forms of a size.
use Rattle.std.proofs.Common.{◌≡◌, ℕ, zero, suc, ◌+◌, ◌*◌, ◌/◌, ◌%◌, ◌^◌, ◌<◌, ◌≤◌, ◌++◌, sym, refl, arith}
use lib.Arith.{digits_lt}
use lib.Bits.{bit_or}
use Rattle.std.proofs.lemmas.Nat.{pow-add, shl_whole, or_shifted, shr_high}
use Rattle.std.proofs.lemmas.List.{append-nil}
use Rattle.std.proofs.lemmas.Bool.{lt-ltb, le-ltb}
use Rattle.bits.specs.Bits.{bits_of}
use Rattle.bits.proofs.Puts.{bits_of_split, bits_of-high}
use Rattle.records.specs.declared.records.Class.{Class}
use Rattle.rules.specs.Steps.{id_width}
use Rattle.roundtrip.specs.Own.{size_code, header_bits}

-- m bits above k bits, by a shift and an or
module _ (m k a b : ℕ) (wide : m + k ≤ 64) (high : a < 2 ^ m) (low : b < 2 ^ k) where
  whole : bit_or ((a * 2 ^ k) % 2 ^ 64) b ≡ a * 2 ^ k + b
  whole = rw (shl_whole a m k 64 high wide) (or_shifted a k b low)

  pub joined_bits : bits_of (m + k) (bit_or ((a * 2 ^ k) % 2 ^ 64) b) ≡ bits_of m a ++ bits_of k b
  joined_bits = rw whole (rw (bits_of_split m k (a * 2 ^ k + b), shr_high a k b low, bits_of-high k a b))

  pub joined_small : bit_or ((a * 2 ^ k) % 2 ^ 64) b < 2 ^ (m + k)
  joined_small = rw (whole, pow-add) (digits_lt high low)

-- a size in one, two, three and four bytes
module _ (s : ℕ) where
  pub size_one : s < 128 → bits_of 8 (s % 128) ≡ size_code s
  unfolding size_code
  size_one h = let e : s % 128 ≡ s = omega arith in rw (e, lt-ltb s 128 h)

  pub size_two : 128 ≤ s → s < 16384 → bits_of 8 (128 + s / 128 % 128) ++ bits_of 8 (s % 128) ≡ size_code s
  unfolding size_code
  size_two g h = let e : s / 128 % 128 ≡ s / 128 = omega arith in rw (e, le-ltb s 128 g, lt-ltb s 16384 h)

  pub size_three : 16384 ≤ s → s < 2097152 → bits_of 8 (128 + s / 16384 % 128) ++ (bits_of 8 (128 + s / 128 % 128) ++ bits_of 8 (s % 128)) ≡ size_code s
  unfolding size_code
  size_three g h =
      let f : 128 ≤ s = omega arith in
      let e : s / 16384 % 128 ≡ s / 16384 = omega arith in
      rw (e, le-ltb s 128 f, le-ltb s 16384 g, lt-ltb s 2097152 h)

  pub size_four : 2097152 ≤ s → bits_of 8 (128 + s / 2097152) ++ (bits_of 8 (128 + s / 16384 % 128) ++ (bits_of 8 (128 + s / 128 % 128) ++ bits_of 8 (s % 128))) ≡ size_code s
  unfolding size_code
  size_four g =
      let f : 128 ≤ s = omega arith in
      let h : 16384 ≤ s = omega arith in
      rw (le-ltb s 128 f, le-ltb s 16384 h, le-ltb s 2097152 g)

-- an object's beginning, without and with a size
pub header_plain : (c : Class) (greatest id size : ℕ) → greatest ≡ 0 → bits_of (id_width c) id ≡ header_bits c greatest id size
unfolding header_bits
header_plain c greatest id size e = rw e (sym (append-nil (bits_of (id_width c) id)))

pub header-sized : (c : Class) (greatest id size : ℕ) → 0 < greatest → bits_of (id_width c) id ++ size_code size ≡ header_bits c greatest id size
unfolding header_bits
header-sized c zero id size h = absurd (let z : ⊥ = omega arith in z)
header-sized c (suc g) id size h = refl
