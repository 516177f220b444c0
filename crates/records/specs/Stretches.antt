-- Stretches of a table.
use Rattle.std.specs.Prelude.{ℕ, ◌+◌, Bool, ◌&&◌, nat_le, nat_lt}

-- whether the `number` records from `first` on have record n
abbrev pub in_stretch : (first number n : ℕ) → Bool
in_stretch first number n = nat_le first n && nat_lt n (first + number)
