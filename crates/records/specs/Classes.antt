-- The kinds of class.
use Rattle.std.specs.Prelude.{Bool, ◌==◌}
use Rattle.records.specs.declared.records.Class.{Class}

abbrev pub is_plain : Class → Bool
is_plain c = c.kind == 0

-- the base of a family
abbrev pub is_base : Class → Bool
is_base c = c.kind == 1

-- a member of a family
abbrev pub is_member : Class → Bool
is_member c = c.kind == 2
