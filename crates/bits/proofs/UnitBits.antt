-- The bits of units: the number that they write, and a part of them.
use Rattle.std.proofs.Common.{◌≡◌, ℕ, zero, suc, ◌+◌, ◌-◌, ◌*◌, ◌/◌, ◌%◌, ◌^◌, ◌<◌, ◌≤◌, List, [], ◌∷◌, ◌++◌, length, take, drop, bit_or, sym, ap, ◌∙◌, mod-eq_of_lt, add-mul, suc-mul, zero-mul, one-mul, mul_comm, subst, Ok, arith}
use Rattle.std.proofs.lemmas.Nat.{div-add-mod', mod_below, shl_whole, or_shifted}
use Rattle.std.proofs.Math.Nat.{div-le_of_le-mul}
use Rattle.std.proofs.lemmas.Grind.{flat_map-append}
use Rattle.std.proofs.lemmas.List.{append-nil, length-append, length-take, length-drop, take-append-drop, take-map, drop-map}
use Rattle.bits.specs.Bits.{number, part, bits_of, length-bits_of}
use Rattle.bits.specs.Get.{widest, place_answer, get_answer}
use Rattle.bits.proofs.Gets.{placed, got}
use Rattle.bits.specs.Units.{IsWidth, units_bits, bits_of_units, length-units_bits}
use Rattle.bits.proofs.Numbers.{number_append, number_lt, number-bits_of, take-bits_all, drop-bits_all, part-part}

-- a shift by w bits and an or add one more unit, where all fit in 64 bits
pub gather_push : {U : Type 0} (w : ℕ) (value : U → ℕ) (xs : List U) (x : U) (whole : ℕ) → length (xs ++ x ∷ []) * w ≤ 64 → value x < 2 ^ w → (length xs * w ≤ 64 → whole ≡ number (units_bits w value xs)) → bit_or ((whole * 2 ^ w) % 2 ^ 64) (value x) ≡ number (units_bits w value (xs ++ x ∷ []))
gather_push w value xs x whole few fits is =
    let fill : length xs * w + w ≤ 64 = rw (length-append, add-mul, one-mul) at few in
    let e = is (omega arith) in
    let lt : whole < 2 ^ (length xs * w) = rw (e, ← length-units_bits w value xs) (number_lt (units_bits w value xs)) in
    rw (shl_whole whole (length xs * w) w 64 lt fill, or_shifted whole w (value x) fits, flat_map-append, append-nil, number_append, length-bits_of, number-bits_of, mod-eq_of_lt fits, e)

-- units that are left after some of those that fill at most 64 bits fill fewer
left_narrow : (w first left : ℕ) → 0 < w → 0 < first → (first + left) * w ≤ 64 → left * w < 64
left_narrow w zero left wide some few = absurd (omega arith)
left_narrow w (suc f) left wide some few = omega (arith, suc-mul f w, add-mul (suc f) left w)

pub half_narrow : (w n : ℕ) → IsWidth w → n * w ≤ 64 → (n - n / 2) * w < 64
half_narrow w zero h few = omega (arith, zero-mul w)
half_narrow w (suc zero) h few = rw one-mul (omega arith)
half_narrow w (suc (suc m)) h few =
    let n = suc (suc m) in
    let all : n / 2 + (n - n / 2) ≡ n = omega arith in
    left_narrow w (n / 2) (n - n / 2) h.0 (omega arith) (subst (λ t. t * w ≤ 64) (sym all) few)

-- a shift and an or make the number of the first k units and that of the rest to the number of all
pub gather_halves : {U : Type 0} (w : ℕ) (value : U → ℕ) (xs : List U) (k high low : ℕ) → k ≤ length xs → length xs * w ≤ 64 → high ≡ number (units_bits w value (take k xs)) → low ≡ number (units_bits w value (drop k xs)) → bit_or ((high * 2 ^ (length (drop k xs) * w)) % 2 ^ 64) low ≡ number (units_bits w value xs)
gather_halves w value xs k high low h few i j =
    let a = units_bits w value (take k xs) in
    let b = units_bits w value (drop k xs) in
    let whole : a ++ b ≡ units_bits w value xs = sym (flat_map-append (λ x. bits_of w (value x)) (take k xs) (drop k xs)) ∙ ap (units_bits w value) (take-append-drop k xs) in
    let count : length (take k xs) + length (drop k xs) ≡ length xs = rw (length-take, length-drop) (omega arith) in
    let fill : length (take k xs) * w + length (drop k xs) * w ≤ 64 = omega (arith, add-mul (length (take k xs)) (length (drop k xs)) w, ap (λ t. t * w) count) in
    let top : high < 2 ^ (length (take k xs) * w) = rw (i, ← length-units_bits w value (take k xs)) (number_lt a) in
    let less : low < 2 ^ (length (drop k xs) * w) = rw (j, ← length-units_bits w value (drop k xs)) (number_lt b) in
    rw (shl_whole high (length (take k xs) * w) (length (drop k xs) * w) 64 top fill, or_shifted high (length (drop k xs) * w) low less, i, j, ← length-units_bits w value (drop k xs))
    (sym (number_append a b) ∙ ap number whole)

-- the bits of `count` units from unit i on
part_units : {U : Type 0} (w : ℕ) (value : U → ℕ) (xs : List U) (i count : ℕ) → units_bits w value (take count (drop i xs)) ≡ part (units_bits w value xs) (i * w) (count * w)
part_units w value xs i count =
    bits_of_units w value (take count (drop i xs)) ∙ sym (rw (bits_of_units w value xs, drop-bits_all, take-bits_all, drop-map, take-map))

-- bits from place p on, read in `count` units from that of p on
pub part_within : {U : Type 0} (w : ℕ) (value : U → ℕ) (xs : List U) (p n count : ℕ) → p % w + n ≤ count * w → part (units_bits w value (take count (drop (p / w) xs))) (p % w) n ≡ part (units_bits w value xs) p n
part_within w value xs p n count h =
    ap (λ t. part t (p % w) n) (part_units w value xs (p / w) count) ∙ (part-part (units_bits w value xs) (p / w * w) (count * w) (p % w) n h ∙ ap (λ t. part (units_bits w value xs) t n) (div-add-mod' p w))

-- what an `Ok` tells of a place in units
pub placed_in : {U : Type 0} (w : ℕ) (value : U → ℕ) (xs : List U) (size p n : ℕ) (u : Unit {0}) → size ≡ length (units_bits w value xs) → Ok u ≡ place_answer size p n → (n ≤ widest) × (p + n ≤ length xs * w)
placed_in w value xs size p n u e h = rw (e, length-units_bits w value xs) at (placed size p n u h)

-- a place within units lies in one of them, or at their end
pub first_within : (w p n size : ℕ) → p + n ≤ size * w → p / w ≤ size
first_within w p n size h =
    let k : p ≤ w * size = rw mul_comm (omega arith) in
    div-le_of_le-mul w k

-- the same, of a place that is not refused
pub first_in : {U : Type 0} (w : ℕ) (value : U → ℕ) (xs : List U) (size p n : ℕ) (u : Unit {0}) (bits : ℕ) → bits ≡ w → size ≡ length (units_bits w value xs) → Ok u ≡ place_answer size p n → p / bits ≤ length xs
first_in w value xs size p n u bits b e h = rw b (first_within w p n (length xs) (placed_in w value xs size p n u e h).1)

-- the units from there on hold the bits
pub rest_within : (w p n size : ℕ) → p / w ≤ size → p + n ≤ size * w → p % w + n ≤ (size - p / w) * w
rest_within w p n size l h =
    let k : size - p / w + p / w ≡ size = omega arith in
    omega (arith, div-add-mod' p w, add-mul (size - p / w) (p / w) w, ap (λ t. t * w) k)

-- and so do as many of them as fill 64 bits
pub near_within : (w p n : ℕ) → IsWidth w → n ≤ widest → p % w + n ≤ 64 / w * w
near_within w p n h few = omega (arith, mod_below p w h.0)

-- what `get` answers over units, by what is read in `count` of them from that of the place on
pub got_units : {U : Type 0} (w : ℕ) (value : U → ℕ) (xs : List U) (p n count v : ℕ) → n ≤ widest → p + n ≤ length xs * w → p % w + n ≤ count * w → v ≡ number (part (units_bits w value (take count (drop (p / w) xs))) (p % w) n) → Ok v ≡ get_answer (units_bits w value xs) p n
got_units w value xs p n count v few inside within is =
    got (units_bits w value xs) p n v few (rw length-units_bits inside) (is ∙ ap number (part_within w value xs p n count within))
