-- The class of a line.
use Rattle.std.specs.Prelude.{ℕ, length, Some, None, Option}
use Rattle.table.specs.Description.{Description, extension_at}
use Rattle.table.specs.First.{first_upto}
use Rattle.blocks.specs.Stretches.{in_class, in_extension}

-- the class of an extension, if there is one
abbrev pub extended : Description → Option ℕ → ℕ
extended d (Some e) = (extension_at d e).class
extended d None = 0

abbrev pub class_or : ℕ → Option ℕ → ℕ
class_or other (Some c) = c
class_or other None = other

-- the class whose stretch, or whose extension's stretch, holds line n
abbrev pub class_of_line : Description → ℕ → ℕ
class_of_line d n =
    class_or (extended d (first_upto (in_extension d n) (length d.extensions))) (first_upto (in_class d n) (length d.classes))
