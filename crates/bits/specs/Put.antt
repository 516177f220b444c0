-- What storing bits into bytes does.
use Rattle.std.specs.Prelude.{ℕ, ◌+◌, ◌*◌, ◌/◌, ◌%◌, ◌^◌, Bool, List, ◌++◌, take, drop, Result}
use Rattle.bits.specs.declared.refusal.Refusal.{Refusal}
use Rattle.bits.specs.Bits.{bits_of}
use Rattle.bits.specs.Get.{place_answer}

-- a list with the n lowest bits of v from place p on, and every other bit as it was
unfoldable pub with_bits : List Bool → ℕ → ℕ → ℕ → List Bool
with_bits l p n v = take p l ++ (bits_of n v ++ drop (p + n) l)

-- whether n bits are stored at place p of `size` bits, or why not
abbrev pub put_answer : ℕ → ℕ → ℕ → Result (Unit {0}) Refusal
put_answer = place_answer

-- the number b with the m lowest bits of x above its `tail` lowest bits
abbrev pub with_piece : ℕ → ℕ → ℕ → ℕ → ℕ
with_piece b m tail x = b / 2 ^ (m + tail) * 2 ^ (m + tail) + (x % 2 ^ m * 2 ^ tail + b % 2 ^ tail)
