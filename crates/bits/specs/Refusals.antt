-- The numbers of refusals.
use Rattle.std.specs.Prelude.{ℕ}
use Rattle.bits.specs.declared.refusal.Refusal.{Refusal}
use Rattle.bits.specs.declared.refusal.Refusal.TheVariants.{TooWide, PastEnd, TooLong, Outside}

-- the number that a refusal is known by
abbrev pub refusal_number : Refusal → ℕ
refusal_number TooWide = 31
refusal_number PastEnd = 32
refusal_number TooLong = 33
refusal_number Outside = 34
