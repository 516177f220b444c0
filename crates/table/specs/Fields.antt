-- A field outside its values, or naming records that are not there: which records, and whether the top class.
use Rattle.std.specs.Prelude.{ℕ, Bool, false, not, List}
use Rattle.records.specs.declared.counts.Counts.{Counts}
use Rattle.records.specs.declared.records.Class.{Class}
use Rattle.records.specs.declared.records.Name.{Name}
use Rattle.records.specs.declared.records.Extension.{Extension}
use Rattle.records.specs.declared.records.Line.{Line}
use Rattle.records.specs.declared.records.Node.{Node}
use Rattle.records.specs.declared.records.Map.{Map}
use Rattle.records.specs.declared.records.Row.{Row}
use Rattle.fields.specs.Tables.{class_fine, name_fine, extension_fine, map_fine, top_fine}
use Rattle.fields.specs.Lines.{line_fine}
use Rattle.fields.specs.Nodes.{node_fine}
use Rattle.table.specs.Description.{Description, entry, counts_of, no_class, no_name, no_extension, no_line, no_node, no_map}

-- the rule for one record of each kind; only a node's asks for its number, and any row will do
abbrev pub class_broken : Counts → ℕ → Class → Bool
class_broken counts n c = not (class_fine counts c)

abbrev pub name_broken : Counts → ℕ → Name → Bool
name_broken counts n m = not (name_fine counts m)

abbrev pub extension_broken : Counts → ℕ → Extension → Bool
extension_broken counts n e = not (extension_fine counts e)

abbrev pub line_broken : Counts → ℕ → Line → Bool
line_broken counts n l = not (line_fine counts l)

abbrev pub node_broken : Counts → ℕ → Node → Bool
node_broken counts n x = not (node_fine counts n x)

abbrev pub map_broken : Counts → ℕ → Map → Bool
map_broken counts n m = not (map_fine counts m)

abbrev pub row_broken : Counts → ℕ → Row → Bool
row_broken counts n r = false

-- record number n of a table breaks the rule
abbrev pub broken_at : {R : Type 0} → (ℕ → R → Bool) → (none : R) → List R → ℕ → Bool
broken_at broken none table n = broken n (entry table n none)

-- the same of each table of a description, and of its top class
abbrev pub top_field : Description → Bool
top_field d = not (top_fine (counts_of d) d.top)

abbrev pub class_field : Description → ℕ → Bool
class_field d = broken_at (class_broken (counts_of d)) no_class d.classes

abbrev pub name_field : Description → ℕ → Bool
name_field d = broken_at (name_broken (counts_of d)) no_name d.names

abbrev pub extension_field : Description → ℕ → Bool
extension_field d = broken_at (extension_broken (counts_of d)) no_extension d.extensions

abbrev pub line_field : Description → ℕ → Bool
line_field d = broken_at (line_broken (counts_of d)) no_line d.lines

abbrev pub node_field : Description → ℕ → Bool
node_field d = broken_at (node_broken (counts_of d)) no_node d.nodes

abbrev pub map_field : Description → ℕ → Bool
map_field d = broken_at (map_broken (counts_of d)) no_map d.maps
