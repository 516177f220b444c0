-- A line, and the nodes that it reaches, name what the line's class or its base owns; a carried name is the used
-- class's.
use Rattle.std.specs.Prelude.{ℕ, Bool, false, not, ◌&&◌, ◌||◌, length, ◌==◌, Option, Some, None}
use Rattle.records.specs.Statements.{written}
use Rattle.records.specs.declared.statements.Statement.{Statement}
use Rattle.records.specs.declared.statements.Statement.TheVariants.{Read, Assign, MapRead, Use, If, While}
use Rattle.fields.specs.Nodes.{takes_name}
use Rattle.table.specs.Description.{Description, class_at, name_at, node_at, statement_at}
use Rattle.table.specs.First.{some_upto}
use Rattle.passes.specs.Families.{in_family, expandable}
use Rattle.owners.specs.Lines.{class_of_line}
use Rattle.owners.specs.Reach.{reaches, line_has}

-- class c or its base owns name n
abbrev pub owned_by : Description → (c n : ℕ) → Bool
owned_by d c n = (name_at d n).owner == c || (name_at d n).owner == (class_at d c).base

abbrev pub writes_wrong : Description → (c : ℕ) → Option Statement → Bool
writes_wrong d c s = not (written s == 0) && not (owned_by d c (written s))

-- a carried name that the used class does not own, or any from an expandable family
abbrev pub carry_wrong : Description → (class carried : ℕ) → Bool
carry_wrong d class carried =
    not (carried == 0)
    && (not ((name_at d carried).owner == class) || in_family d class && expandable d class)

abbrev pub carries_wrong : Description → Option Statement → Bool
carries_wrong d (Some (Read fields)) = false
carries_wrong d (Some (Assign name node)) = false
carries_wrong d (Some (MapRead map name)) = false
carries_wrong d (Some (Use fields)) = carry_wrong d fields.class fields.carried
carries_wrong d (Some (If node first second)) = false
carries_wrong d (Some (While node lines rounds)) = false
carries_wrong d None = false

-- line n, of class c, has a node that passes in its fields, and may not take a name
abbrev pub may_not_take : Description → (passes : ℕ → Bool) → (c name n : ℕ) → Bool
may_not_take d passes c name n = line_has passes (statement_at d n) && not (owned_by d c name)

-- line n reaches node x, which takes a name that is not the line's to take
abbrev pub takes_wrong : Description → (x n : ℕ) → Bool
takes_wrong d x n = may_not_take d (reaches d x) (class_of_line d n) (node_at d x).a n

abbrev pub line_owner : Description → ℕ → Bool
line_owner d n = writes_wrong d (class_of_line d n) (statement_at d n) || carries_wrong d (statement_at d n)

abbrev pub node_owner : Description → ℕ → Bool
node_owner d x = takes_name (node_at d x) && some_upto (takes_wrong d x) (length d.lines)
