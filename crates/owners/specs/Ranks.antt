-- What a line uses ranks below the line's class.
use Rattle.std.specs.Prelude.{ℕ, Bool, false, ◌&&◌, ◌||◌, length, ◌==◌, nat_le, Option, Some, None}
use Rattle.records.specs.Classes.{is_base, is_member}
use Rattle.records.specs.declared.statements.Statement.{Statement}
use Rattle.records.specs.declared.statements.Statement.TheVariants.{Read, Assign, MapRead, Use, If, While}
use Rattle.table.specs.Description.{Description, class_at, statement_at}
use Rattle.table.specs.First.{some_upto}
use Rattle.owners.specs.Lines.{class_of_line}

-- a use of class c can make an object of class u: c itself, or a member of the base c
abbrev pub used_by : Description → (c u : ℕ) → Bool
used_by d c u = u == c || is_base (class_at d c) && is_member (class_at d u) && (class_at d u).base == c

-- and u does not rank below the user
abbrev pub not_below : Description → (user c u : ℕ) → Bool
not_below d user c u = used_by d c u && nat_le (class_at d user).rank (class_at d u).rank

-- a line of class `user` uses what does not rank below it
abbrev pub uses_wrong : Description → (user : ℕ) → Option Statement → Bool
uses_wrong d user (Some (Read fields)) = false
uses_wrong d user (Some (Assign name node)) = false
uses_wrong d user (Some (MapRead map name)) = false
uses_wrong d user (Some (Use fields)) = some_upto (not_below d user fields.class) (length d.classes)
uses_wrong d user (Some (If node first second)) = false
uses_wrong d user (Some (While node lines rounds)) = false
uses_wrong d user None = false

abbrev pub line_rank : Description → ℕ → Bool
line_rank d n = uses_wrong d (class_of_line d n) (statement_at d n)
