-- The seven kinds of record: the numbers that make one, in the order of the file.
use Rattle.std.specs.Prelude.{ℕ, List, slice_index}
use Rattle.records.specs.declared.records.Class.{Class}
use Rattle.records.specs.declared.records.Name.{Name}
use Rattle.records.specs.declared.records.Extension.{Extension}
use Rattle.records.specs.declared.records.Line.{Line}
use Rattle.records.specs.declared.records.Node.{Node}
use Rattle.records.specs.declared.records.Map.{Map}
use Rattle.records.specs.declared.records.Row.{Row}

abbrev pub class_of : List ℕ → Class
class_of f =
    record {
      kind = slice_index f 0;
      base = slice_index f 1;
      abstracted = slice_index f 2;
      greatest = slice_index f 3;
      width = slice_index f 4;
      from = slice_index f 5;
      to = slice_index f 6;
      rank = slice_index f 7;
      first = slice_index f 8;
      number = slice_index f 9;
    }

abbrev pub name_of : List ℕ → Name
name_of f = record { owner = slice_index f 0 }

abbrev pub extension_of : List ℕ → Extension
extension_of f = record { class = slice_index f 0; first = slice_index f 1; number = slice_index f 2 }

abbrev pub line_of : List ℕ → Line
line_of f =
    record {
      kind = slice_index f 0;
      a = slice_index f 1;
      b = slice_index f 2;
      c = slice_index f 3;
      d = slice_index f 4;
      e = slice_index f 5;
      f = slice_index f 6;
      g = slice_index f 7;
    }

abbrev pub node_of : List ℕ → Node
node_of f = record { op = slice_index f 0; a = slice_index f 1; b = slice_index f 2 }

abbrev pub map_of : List ℕ → Map
map_of f = record { width = slice_index f 0; first = slice_index f 1; number = slice_index f 2 }

abbrev pub row_of : List ℕ → Row
row_of f = record { index = slice_index f 0; high = slice_index f 1; low = slice_index f 2 }
