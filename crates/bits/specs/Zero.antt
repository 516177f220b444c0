-- Whether bits are all 0.
use Rattle.std.specs.Prelude.{ℕ, ◌+◌, Bool, true, cond, not, ◌&&◌, List, [], ◌∷◌, length, Ok, Err, Result, nat_lt}
use Rattle.bits.specs.declared.refusal.Refusal.{Refusal}
use Rattle.bits.specs.declared.refusal.Refusal.TheVariants.{PastEnd}
use Rattle.bits.specs.Bits.{part}

-- whether all bits of a list are 0
unfoldable pub all_zero : List Bool → Bool
all_zero [] = true
all_zero (b ∷ bs) = not b && all_zero bs

-- whether the `count` bits from place `from` are all 0, or that they are not all there
abbrev pub zero_answer : List Bool → ℕ → ℕ → Result Bool Refusal
zero_answer l from count = cond (nat_lt (length l) (from + count)) (Err PastEnd) (Ok (all_zero (part l from count)))
