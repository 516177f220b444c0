-- The fields of lines: each has one of its values, and names records that are there.
use Rattle.std.specs.Prelude.{Bool, false, cond, not, ◌&&◌, ◌||◌, ℕ, eqb, leb, Option, Some, None}
use Rattle.records.specs.Statements.{statement}
use Rattle.records.specs.declared.counts.Counts.{Counts}
use Rattle.records.specs.declared.records.Line.{Line}
use Rattle.records.specs.declared.statements.ReadLine.{ReadLine}
use Rattle.records.specs.declared.statements.UseLine.{UseLine}
use Rattle.records.specs.declared.statements.Statement.{Statement}
use Rattle.records.specs.declared.statements.Statement.TheVariants.{Read, Assign, MapRead, Use, If, While}
use Rattle.fields.specs.Values.{names_one, names_one_or_none, is_alignment}

-- the nodes of a read: only the width is compulsory
abbrev pub read_nodes_fine : Counts → ReadLine → Bool
read_nodes_fine counts l =
    names_one l.width counts.nodes && names_one_or_none l.count counts.nodes && names_one_or_none l.lowest counts.nodes
    && names_one_or_none l.highest counts.nodes

-- its name, alignment and look-ahead
abbrev pub read_rest_fine : Counts → ReadLine → Bool
read_rest_fine counts l = names_one_or_none l.name counts.names && is_alignment l.alignment && leb l.ahead 1

abbrev pub assign_fine : Counts → (name node : ℕ) → Bool
assign_fine counts name node = names_one name counts.names && names_one node counts.nodes

abbrev pub map_read_fine : Counts → (map name : ℕ) → Bool
map_read_fine counts map name = names_one map counts.maps && names_one_or_none name counts.names

-- least and most are 0 where a count node stands
abbrev pub limits_fine : UseLine → Bool
limits_fine l = eqb l.count 0 || eqb l.least 0 && eqb l.most 0

-- both names or neither
abbrev pub carry_fine : Counts → UseLine → Bool
carry_fine counts l =
    cond (eqb l.carried 0) (eqb l.receiving 0) (names_one l.carried counts.names && names_one l.receiving counts.names)

abbrev pub use_fine : Counts → UseLine → Bool
use_fine counts l = names_one l.class counts.classes && names_one_or_none l.count counts.nodes

-- a while has at least one round
abbrev pub while_fine : Counts → (node rounds : ℕ) → Bool
while_fine counts node rounds = names_one node counts.nodes && not (eqb rounds 0)

-- the fields that a line's kind has
abbrev pub statement_fine : Counts → Option Statement → Bool
statement_fine counts (Some (Read fields)) = read_nodes_fine counts fields && read_rest_fine counts fields
statement_fine counts (Some (Assign name node)) = assign_fine counts name node
statement_fine counts (Some (MapRead map name)) = map_read_fine counts map name
statement_fine counts (Some (Use fields)) = use_fine counts fields && limits_fine fields && carry_fine counts fields
statement_fine counts (Some (If node first second)) = names_one node counts.nodes
statement_fine counts (Some (While node lines rounds)) = while_fine counts node rounds
statement_fine counts None = false

-- how many of the seven fields they are
abbrev pub used_fields : Option Statement → ℕ
used_fields (Some (Read fields)) = 7
used_fields (Some (Assign name node)) = 2
used_fields (Some (MapRead map name)) = 2
used_fields (Some (Use fields)) = 6
used_fields (Some (If node first second)) = 3
used_fields (Some (While node lines rounds)) = 3
used_fields None = 0

-- the fields after the first `used` are 0
abbrev pub rest_unused : Line → (used : ℕ) → Bool
rest_unused l used =
    (leb 3 used || eqb l.c 0) && (leb 4 used || eqb l.d 0) && (leb 5 used || eqb l.e 0) && (leb 6 used || eqb l.f 0)
    && (leb 7 used || eqb l.g 0)

abbrev pub line_fine : Counts → Line → Bool
line_fine counts l = statement_fine counts (statement l) && rest_unused l (used_fields (statement l))
