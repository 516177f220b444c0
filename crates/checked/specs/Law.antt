-- What the first fault is, in the words of the rules: some rule names that record, and what else any rule names comes
-- no earlier.
use Rattle.std.specs.Prelude.{◌≡◌, ℕ, ◌<◌, ◌≤◌, Bool, true, ◌⊎◌, List, [], ◌∷◌, length, Some, None, Option}
use Rattle.records.specs.Causes.{cause_number, table_number}
use Rattle.records.specs.declared.faults.Cause.{Cause}
use Rattle.records.specs.declared.faults.Cause.TheVariants.{Field, Stretch, Depth, Rank, Owner, Place}
use Rattle.records.specs.declared.faults.Table.{Table}
use Rattle.records.specs.declared.faults.Table.TheVariants.{File, Classes, Names, Extensions, Lines, Nodes, Maps, Rows}
use Rattle.records.specs.declared.faults.Fault.{Fault}
use Rattle.table.specs.Description.{Description}
use Rattle.table.specs.Fields.{top_field, class_field, name_field, extension_field, line_field, node_field, map_field}
use Rattle.blocks.specs.Stretches.{line_stretch, line_depth, node_depth}
use Rattle.owners.specs.Ranks.{line_rank}
use Rattle.owners.specs.Names.{line_owner, node_owner}
use Rattle.places.specs.Classes.{class_place}
use Rattle.places.specs.Uses.{top_place, extension_place, line_place}
use Rattle.places.specs.Rows.{row_place}

-- a rule on the records of one table, and which of them it names
pub record Rule : Type 1 where
  pub cause : Cause
  pub table : Table
  pub names : ℕ → Type 0

-- of the records 1 to `count` those that break it
abbrev pub each : Cause → Table → (count : ℕ) → (broken : ℕ → Bool) → Rule
each cause table count broken = record { cause = cause; table = table; names = λ n. (0 < n) × (n ≤ count) × (broken n ≡ true) }

-- the top class is the file's, record 0
abbrev pub top : Cause → Bool → Rule
top cause broken = record { cause = cause; table = File; names = λ n. (n ≡ 0) × (broken ≡ true) }

-- every rule: by cause, and by table
abbrev pub rules : Description → List Rule
rules d =
    top Field (top_field d) ∷
    each Field Classes (length d.classes) (class_field d) ∷
    each Field Names (length d.names) (name_field d) ∷
    each Field Extensions (length d.extensions) (extension_field d) ∷
    each Field Lines (length d.lines) (line_field d) ∷
    each Field Nodes (length d.nodes) (node_field d) ∷
    each Field Maps (length d.maps) (map_field d) ∷
    each Stretch Lines (length d.lines) (line_stretch d) ∷
    each Depth Lines (length d.lines) (line_depth d) ∷
    each Depth Nodes (length d.nodes) (node_depth d) ∷
    each Rank Lines (length d.lines) (line_rank d) ∷
    each Owner Lines (length d.lines) (line_owner d) ∷
    each Owner Nodes (length d.nodes) (node_owner d) ∷
    top Place (top_place d) ∷
    each Place Classes (length d.classes) (class_place d) ∷
    each Place Extensions (length d.extensions) (extension_place d) ∷
    each Place Lines (length d.lines) (line_place d) ∷
    each Place Rows (length d.rows) (row_place d) ∷ []

-- one of the rules has this cause, and names record n of this table
abbrev pub Breaks : List Rule → Cause → Table → (n : ℕ) → Type 0
Breaks [] cause table n = ⊥
Breaks (r ∷ rs) cause table n = ((r.cause ≡ cause) × (r.table ≡ table) × r.names n) ⊎ Breaks rs cause table n

-- the smaller number of a cause first, then the earlier table, then the earlier record
abbrev pub NoLater : Fault → Cause → Table → (n : ℕ) → Type 0
NoLater f cause table n =
    (cause_number f.cause < cause_number cause) ⊎
    ((cause_number f.cause ≡ cause_number cause) ×
    ((table_number f.table < table_number table) ⊎ ((table_number f.table ≡ table_number table) × (f.«record» ≤ n))))

pub record First (rs : List Rule) (f : Fault) : Type 0 where
  pub broken : Breaks rs f.cause f.table f.«record»
  pub first : (cause : Cause) (table : Table) (n : ℕ) → Breaks rs cause table n → NoLater f cause table n

-- an answer is the first fault of these rules, or none is broken
abbrev pub Says : List Rule → Option Fault → Type 0
Says rs (Some f) = First rs f
Says rs None = (cause : Cause) (table : Table) (n : ℕ) → Breaks rs cause table n → ⊥
