-- The bits of a slice of units: numbers of so many bits each.
use Rattle.std.specs.Prelude.{◌≡◌, ℕ, ◌*◌, ◌/◌, ◌<◌, ◌≤◌, Bool, List, length, map}
use Rattle.std.proofs.Common.{sym}
use Rattle.std.proofs.lemmas.List.{length-map}
use Rattle.std.proofs.lemmas.List.Folds.{flat_map-map}
use Rattle.std.specs.List.{flat_map}
use Rattle.bits.specs.Bits.{bits_of, bits_all, longest, length-bits_all}

-- the bits of units of w bits each, one after the other
abbrev pub units_bits : {U : Type 0} → ℕ → (U → ℕ) → List U → List Bool
units_bits w value xs = flat_map (λ x. bits_of w (value x)) xs

-- whole units of w bits fill 64 bits, and one has at most 32
abbrev pub IsWidth : ℕ → Type 0
IsWidth w = (0 < w) × (w ≤ 32) × (64 / w * w ≡ 64)

-- they are the bits of the numbers that the units are
pub bits_of_units : {U : Type 0} (w : ℕ) (value : U → ℕ) (xs : List U) → units_bits w value xs ≡ bits_all w (map value xs)
bits_of_units w value xs = sym (flat_map-map (bits_of w) value xs)

pub length-units_bits : {U : Type 0} (w : ℕ) (value : U → ℕ) (xs : List U) → length (units_bits w value xs) ≡ length xs * w
length-units_bits w value xs = rw (bits_of_units w value xs, length-bits_all, length-map)

pub units_short : {U : Type 0} (w : ℕ) (value : U → ℕ) (xs : List U) → length xs * w ≤ longest → length (units_bits w value xs) ≤ longest
units_short w value xs h = rw length-units_bits h
