-- A line with its fields by name.
use Rattle.std.specs.Prelude.{ℕ, Bool, true, false, cond, ◌==◌, Option, Some, None}
use Rattle.records.specs.declared.records.Line.{Line}
use Rattle.records.specs.declared.statements.ReadLine.{ReadLine}
use Rattle.records.specs.declared.statements.UseLine.{UseLine}
use Rattle.records.specs.declared.statements.Statement.{Statement}
use Rattle.records.specs.declared.statements.Statement.TheVariants.{Read, Assign, MapRead, Use, If, While}

-- the number of each kind of line
abbrev pub statement_kind : Statement → ℕ
statement_kind (Read fields) = cond fields.signed 2 1
statement_kind (Assign name node) = 3
statement_kind (MapRead map name) = 4
statement_kind (Use fields) = 5
statement_kind (If node first second) = 6
statement_kind (While node lines rounds) = 7

-- the name that a line writes, 0 if none
abbrev pub written : Option Statement → ℕ
written (Some (Read fields)) = fields.name
written (Some (Assign name node)) = name
written (Some (MapRead map name)) = name
written (Some (Use fields)) = fields.receiving
written (Some (If node first second)) = 0
written (Some (While node lines rounds)) = 0
written None = 0

-- the fields of a read, and of a use
abbrev pub read_line : Bool → Line → ReadLine
read_line signed l =
    record { signed = signed; width = l.a; name = l.b; count = l.c; alignment = l.d; ahead = l.e; lowest = l.f; highest = l.g }

abbrev pub use_line : Line → UseLine
use_line l = record { class = l.a; count = l.b; least = l.c; most = l.d; carried = l.e; receiving = l.f }

-- the fields by the names that they have at the line's kind, if there is such a kind
abbrev pub statement : Line → Option Statement
statement l =
    cond (l.kind == 1) (Some (Read (read_line false l)))
    (cond (l.kind == 2) (Some (Read (read_line true l)))
    (cond (l.kind == 3) (Some (Assign l.a l.b))
    (cond (l.kind == 4) (Some (MapRead l.a l.b))
    (cond (l.kind == 5) (Some (Use (use_line l)))
    (cond (l.kind == 6) (Some (If l.a l.b l.c))
    (cond (l.kind == 7) (Some (While l.a l.b l.c))
    None))))))
