-- A description without a fault: no rule is broken at any record. What that says of blocks and names.
use Rattle.std.specs.Prelude.{◌≡◌, ℕ, ◌<◌, ◌≤◌, Bool, true, false, length, None}
use Rattle.records.specs.Statements.{written}
use Rattle.fields.specs.Nodes.{takes_name}
use Rattle.table.specs.Description.{Description, class_at, extension_at, statement_at, node_at}
use Rattle.table.specs.Fields.{top_field, class_field, name_field, extension_field, line_field, node_field, map_field}
use Rattle.blocks.specs.Nesting.{block_sound}
use Rattle.blocks.specs.Stretches.{line_stretch, line_depth, node_depth, in_class, in_extension}
use Rattle.owners.specs.Lines.{class_of_line}
use Rattle.owners.specs.Ranks.{line_rank}
use Rattle.owners.specs.Names.{owned_by, line_owner, node_owner}
use Rattle.owners.specs.Reach.{reaches, line_has}
use Rattle.places.specs.Classes.{class_place}
use Rattle.places.specs.Uses.{top_place, extension_place, line_place}
use Rattle.places.specs.Rows.{row_place}
use Rattle.checked.specs.Check.{first_fault}

-- none of the records 1 to `count` breaks the rule
abbrev pub Unbroken : ℕ → (ℕ → Bool) → Type 0
Unbroken count broken = (n : ℕ) → 0 < n → n ≤ count → broken n ≡ false

pub record Faultless (d : Description) : Type 0 where
  pub top_there : top_field d ≡ false
  pub class_fields : Unbroken (length d.classes) (class_field d)
  pub name_fields : Unbroken (length d.names) (name_field d)
  pub extension_fields : Unbroken (length d.extensions) (extension_field d)
  pub line_fields : Unbroken (length d.lines) (line_field d)
  pub node_fields : Unbroken (length d.nodes) (node_field d)
  pub map_fields : Unbroken (length d.maps) (map_field d)
  pub line_stretches : Unbroken (length d.lines) (line_stretch d)
  pub line_depths : Unbroken (length d.lines) (line_depth d)
  pub node_depths : Unbroken (length d.nodes) (node_depth d)
  pub line_ranks : Unbroken (length d.lines) (line_rank d)
  pub line_owners : Unbroken (length d.lines) (line_owner d)
  pub node_owners : Unbroken (length d.nodes) (node_owner d)
  pub top_no_member : top_place d ≡ false
  pub class_places : Unbroken (length d.classes) (class_place d)
  pub extension_places : Unbroken (length d.extensions) (extension_place d)
  pub line_places : Unbroken (length d.lines) (line_place d)
  pub row_places : Unbroken (length d.rows) (row_place d)

-- each stretch is a sound block: the blocks of its lines lie inside what holds them, nested at most 8 deep
pub record Nests (d : Description) : Type 0 where
  pub class_nests :
      (c : ℕ) → 0 < c → c ≤ length d.classes → block_sound d (class_at d c).first (class_at d c).number 0 ≡ true
  pub extension_nests :
      (e : ℕ) → 0 < e → e ≤ length d.extensions → block_sound d (extension_at d e).first (extension_at d e).number 0 ≡ true

-- a line of a stretch has the class of that stretch; what it writes, and what the nodes that it reaches take, belongs
-- to that class or its base
pub record Owns (d : Description) : Type 0 where
  pub of_class :
      (n c : ℕ) → 0 < n → n ≤ length d.lines → 0 < c → c ≤ length d.classes → in_class d n c ≡ true → class_of_line d n ≡ c
  pub of_extension :
      (n e : ℕ) → 0 < n → n ≤ length d.lines → 0 < e → e ≤ length d.extensions → in_extension d n e ≡ true →
      class_of_line d n ≡ (extension_at d e).class
  pub writes :
      (n : ℕ) → 0 < n → n ≤ length d.lines → 0 < written (statement_at d n) →
      owned_by d (class_of_line d n) (written (statement_at d n)) ≡ true
  pub takes :
      (n x : ℕ) → 0 < n → n ≤ length d.lines → 0 < x → x ≤ length d.nodes → takes_name (node_at d x) ≡ true →
      line_has (reaches d x) (statement_at d n) ≡ true → owned_by d (class_of_line d n) (node_at d x).a ≡ true

abbrev pub FaultlessLaw : Type 0
FaultlessLaw = (d : Description) → first_fault d ≡ None → Faultless d

abbrev pub NestsLaw : Type 0
NestsLaw = (d : Description) → first_fault d ≡ None → Nests d

abbrev pub OwnsLaw : Type 0
OwnsLaw = (d : Description) → first_fault d ≡ None → Owns d
