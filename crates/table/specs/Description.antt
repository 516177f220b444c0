-- A description: the top class and seven tables of records, counted from 1; 0 says none. Look-ups are total.
use Rattle.std.specs.Prelude.{ℕ, zero, suc, List, length, vec_items, slice_index_or, Option}
use Rattle.records.specs.Statements.{statement}
use Rattle.records.specs.declared.counts.Counts.{Counts}
use Rattle.records.specs.declared.statements.Statement.{Statement}
use Rattle.records.specs.declared.records.Class.{Class}
use Rattle.records.specs.declared.records.Name.{Name}
use Rattle.records.specs.declared.records.Extension.{Extension}
use Rattle.records.specs.declared.records.Line.{Line}
use Rattle.records.specs.declared.records.Node.{Node}
use Rattle.records.specs.declared.records.Map.{Map}
use Rattle.records.specs.declared.records.Row.{Row}
use Rattle.table.specs.declared.loaded.Loaded.{Loaded}

pub record Description : Type 0 where
  pub top : ℕ
  pub classes : List Class
  pub names : List Name
  pub extensions : List Extension
  pub lines : List Line
  pub nodes : List Node
  pub maps : List Map
  pub rows : List Row

-- record number n of a table, or `none`
unfoldable pub entry : {A : Type 0} → List A → ℕ → A → A
entry xs zero none = none
entry xs (suc n) none = slice_index_or xs n none

-- what stands for a record that is not there
abbrev pub no_class : Class
no_class =
    record { kind = 0; base = 0; abstracted = 0; greatest = 0; width = 0; from = 0; to = 0; rank = 0; first = 0; number = 0 }

abbrev pub no_name : Name
no_name = record { owner = 0 }

abbrev pub no_extension : Extension
no_extension = record { class = 0; first = 0; number = 0 }

abbrev pub no_line : Line
no_line = record { kind = 0; a = 0; b = 0; c = 0; d = 0; e = 0; f = 0; g = 0 }

abbrev pub no_node : Node
no_node = record { op = 0; a = 0; b = 0 }

abbrev pub no_map : Map
no_map = record { width = 0; first = 0; number = 0 }

abbrev pub no_row : Row
no_row = record { index = 0; high = 0; low = 0 }

-- the record of a number in each table
abbrev pub class_at : Description → ℕ → Class
class_at d n = entry d.classes n no_class

abbrev pub name_at : Description → ℕ → Name
name_at d n = entry d.names n no_name

abbrev pub extension_at : Description → ℕ → Extension
extension_at d n = entry d.extensions n no_extension

abbrev pub line_at : Description → ℕ → Line
line_at d n = entry d.lines n no_line

abbrev pub node_at : Description → ℕ → Node
node_at d n = entry d.nodes n no_node

abbrev pub map_at : Description → ℕ → Map
map_at d n = entry d.maps n no_map

abbrev pub row_at : Description → ℕ → Row
row_at d n = entry d.rows n no_row

-- a line with its fields by name
unfoldable pub statement_at : Description → ℕ → Option Statement
statement_at d n = statement (line_at d n)

-- how many records each table has
abbrev pub counts_of : Description → Counts
counts_of d =
    record {
      classes = length d.classes;
      names = length d.names;
      extensions = length d.extensions;
      lines = length d.lines;
      nodes = length d.nodes;
      maps = length d.maps;
      rows = length d.rows;
    }

-- the description that is loaded
abbrev pub description : Loaded → Description
description l =
    record {
      top = l.top;
      classes = vec_items l.classes;
      names = vec_items l.names;
      extensions = vec_items l.extensions;
      lines = vec_items l.lines;
      nodes = vec_items l.nodes;
      maps = vec_items l.maps;
      rows = vec_items l.rows;
    }
