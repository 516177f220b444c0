-- Lists of bits: the number that one writes, its parts, and the bits of numbers.
use Rattle.std.specs.Prelude.{◌≡◌, ℕ, zero, suc, ◌+◌, ◌*◌, ◌/◌, ◌%◌, ◌^◌, ◌≤◌, min, Bool, true, false, List, [], ◌∷◌, length, take, drop, ◌==◌, refl}
use Rattle.std.proofs.Common.{ap, arith, suc-mul}
use Rattle.std.proofs.lemmas.List.{length-append, take_all, length-take, length-drop}
use Rattle.std.specs.List.{flat_map}

-- a bit as a number
abbrev pub bit_value : Bool → ℕ
bit_value true = 1
bit_value false = 0

-- the unsigned number that bits write, the first the most significant; 0 for no bits
unfoldable pub number : List Bool → ℕ
number [] = 0
number (b ∷ bs) = bit_value b * 2 ^ length bs + number bs

-- the n bits from place p
abbrev pub part : List Bool → ℕ → ℕ → List Bool
part l p n = take n (drop p l)

-- the w lowest bits of x, the most significant first
unfoldable pub bits_of : ℕ → ℕ → List Bool
bits_of zero x = []
bits_of (suc w) x = (x / 2 ^ w % 2 == 1) ∷ bits_of w x

-- the bits of numbers of w bits each, one after the other
abbrev pub bits_all : ℕ → List ℕ → List Bool
bits_all w xs = flat_map (bits_of w) xs

pub length-bits_of : (w x : ℕ) → length (bits_of w x) ≡ w
unfolding bits_of
length-bits_of zero x = refl
length-bits_of (suc w) x = ap suc (length-bits_of w x)

pub length-bits_all : (w : ℕ) (xs : List ℕ) → length (bits_all w xs) ≡ length xs * w
length-bits_all w [] = omega arith
length-bits_all w (x ∷ xs) = simp (length-append, length-bits_of, length-bits_all w xs, suc-mul) (omega arith)

-- as many bits as a source may have
abbrev pub longest : ℕ
longest = 2147483647

-- a list without what stands past its first `longest` bits
unfoldable pub limited : List Bool → List Bool
limited l = take longest l

pub length-limited : (l : List Bool) → length (limited l) ≡ min longest (length l)
unfolding limited
length-limited l = length-take longest l

pub limited_short : (l : List Bool) → length (limited l) ≤ longest
limited_short l = rw length-limited (omega arith)

-- a list that is short enough is not cut
pub limited-whole : (l : List Bool) → length l ≤ longest → limited l ≡ l
unfolding limited
limited-whole l h = take_all longest l h

pub part_short : (l : List Bool) (p n : ℕ) → length l ≤ longest → length (part l p n) ≤ longest
part_short l p n h = rw (length-take, length-drop) (omega arith)
