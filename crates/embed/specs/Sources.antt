-- The sources that a stream is read from: their bits, or why there is no source.
use Rattle.std.specs.Prelude.{◌≡◌, ℕ, ◌+◌, ◌*◌, cond, Bool, List, nat_lt, Some, None, Ok, Err, Option, Result}
use Rattle.bits.specs.Make.{most_bytes}
use Rattle.bits.specs.Units.{units_bits}
use Rattle.bits.specs.declared.refusal.Refusal.{Refusal}
use Rattle.bits.specs.declared.refusal.Refusal.TheVariants.{TooLong, Outside}

-- a source of these bits, or this refusal
abbrev pub Gives : {S : Type 0} → Result S Refusal → (S → List Bool) → List Bool → Option Refusal → Type 0
Gives (Ok s) bits wanted refusal = (bits s ≡ wanted) × (refusal ≡ None)
Gives (Err e) bits wanted refusal = refusal ≡ Some e

-- why there is no source of so many units
abbrev pub too_long : (limit size : ℕ) → Option Refusal
too_long limit size = cond (nat_lt limit size) (Some TooLong) None

-- the bits of bytes
abbrev pub byte_bits : List ℕ → List Bool
byte_bits bytes = units_bits 8 (λ b. b) bytes

-- why there is no window of `count` bits from `first` on over so many bytes
abbrev pub no_window : (bytes first count : ℕ) → Option Refusal
no_window bytes first count = cond (nat_lt most_bytes bytes) (Some TooLong) (cond (nat_lt (bytes * 8) (first + count)) (Some Outside) None)
