-- What checked operations give.
use Rattle.std.specs.Prelude.{ℤ, Option, SomeIff, FitsSigned}
use Rattle.std.specs.Int.{w64}

-- a checked operation of value z gives it where it has 64 bits, else none
abbrev pub Checked : Option ℤ → ℤ → Type 0
Checked r z = SomeIff r (FitsSigned w64 z) z
