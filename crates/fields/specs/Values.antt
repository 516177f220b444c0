-- The values that a field can have.
use Rattle.std.specs.Prelude.{Bool, cond, not, ◌&&◌, ◌||◌, ℕ, ◌+◌, ◌-◌, eqb, leb}

-- v is the number of one of `count` records
abbrev pub names_one : (v count : ℕ) → Bool
names_one v count = not (eqb v 0) && leb v count

-- or 0, which names none
abbrev pub names_one_or_none : (v count : ℕ) → Bool
names_one_or_none v count = leb v count

-- no record from 0 on, or `number` of `count` records from `first` on
abbrev pub is_stretch : (first number count : ℕ) → Bool
is_stretch first number count =
    cond (eqb number 0) (eqb first 0) (not (eqb first 0) && leb (first + number - 1) count)

abbrev pub one_to_sixteen : ℕ → Bool
one_to_sixteen v = not (eqb v 0) && leb v 16

abbrev pub is_alignment : ℕ → Bool
is_alignment v = eqb v 0 || eqb v 8 || eqb v 16 || eqb v 32 || eqb v 64 || eqb v 128
