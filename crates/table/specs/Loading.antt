-- Loading a description: which fault a file has, or which tables it holds.
use Rattle.std.specs.Prelude.{◌≡◌, ℕ, ◌+◌, ◌*◌, Bool, cond, not, ◌&&◌, List, [], ◌∷◌, length, take, Some, None, Ok, Err, Option, Result, ◌==◌, nat_le}
use Rattle.std.specs.Str.{bytes_eq}
use Rattle.records.specs.declared.counts.Counts.{Counts}
use Rattle.records.specs.declared.faults.Cause.{Cause}
use Rattle.records.specs.declared.faults.Cause.TheVariants.{Mark, Version, Count, Length, Memory}
use Rattle.records.specs.declared.faults.Fault.{Fault}
use Rattle.table.specs.declared.loaded.Loaded.{Loaded}
use Rattle.records.specs.Causes.{of_file}
use Rattle.table.specs.Description.{Description, description}
use Rattle.table.specs.Kinds.{class_of, name_of, extension_of, line_of, node_of, map_of, row_of}
use Rattle.table.specs.Limits.{within_limits}
use Rattle.table.specs.Words.{word_at, records_at}

-- the bytes S, D, T
abbrev pub mark : List ℕ
mark = 83 ∷ 68 ∷ 84 ∷ []

abbrev pub has_mark : List ℕ → Bool
has_mark bytes = bytes_eq mark (take 3 bytes)

-- after the mark stands version 1
abbrev pub has_version : List ℕ → Bool
has_version bytes = nat_le 5 (length bytes) && word_at bytes 3 == 1

-- after the version stand the counts of the seven tables
abbrev pub counts_at : List ℕ → Counts
counts_at bytes =
    record {
      classes = word_at bytes 5;
      names = word_at bytes 7;
      extensions = word_at bytes 9;
      lines = word_at bytes 11;
      nodes = word_at bytes 13;
      maps = word_at bytes 15;
      rows = word_at bytes 17;
    }

abbrev pub counts_fit : Counts → Bool
counts_fit c = within_limits c.classes c.names c.extensions c.lines c.nodes c.maps c.rows

abbrev pub has_counts : List ℕ → Bool
has_counts bytes = nat_le 19 (length bytes) && counts_fit (counts_at bytes)

-- after the counts and the top class the tables follow one another: where each begins, and where the last ends
abbrev pub names_from : Counts → ℕ
names_from c = 21 + c.classes * 20

abbrev pub extensions_from : Counts → ℕ
extensions_from c = names_from c + c.names * 2

abbrev pub lines_from : Counts → ℕ
lines_from c = extensions_from c + c.extensions * 6

abbrev pub nodes_from : Counts → ℕ
nodes_from c = lines_from c + c.lines * 16

abbrev pub maps_from : Counts → ℕ
maps_from c = nodes_from c + c.nodes * 6

abbrev pub rows_from : Counts → ℕ
rows_from c = maps_from c + c.maps * 6

abbrev pub file_length : Counts → ℕ
file_length c = rows_from c + c.rows * 6

-- the top class and the tables that stand in the file
abbrev pub description_at : List ℕ → Counts → Description
description_at bytes c =
    record {
      top = word_at bytes 19;
      classes = records_at class_of 10 bytes 21 c.classes;
      names = records_at name_of 1 bytes (names_from c) c.names;
      extensions = records_at extension_of 3 bytes (extensions_from c) c.extensions;
      lines = records_at line_of 8 bytes (lines_from c) c.lines;
      nodes = records_at node_of 3 bytes (nodes_from c) c.nodes;
      maps = records_at map_of 3 bytes (maps_from c) c.maps;
      rows = records_at row_of 3 bytes (rows_from c) c.rows;
    }

-- the first thing wrong with the file: its mark, its version, a count, its length
abbrev pub file_fault : List ℕ → Option Cause
file_fault bytes =
    cond (not (has_mark bytes)) (Some Mark)
    (cond (not (has_version bytes)) (Some Version)
    (cond (not (has_counts bytes)) (Some Count)
    (cond (not (length bytes == file_length (counts_at bytes))) (Some Length) None)))

-- a fault of the file as a whole, or the description that it holds
abbrev pub loaded_or : Option Cause → Description → Result Description Fault
loaded_or (Some cause) d = Err (of_file cause)
loaded_or None d = Ok d

abbrev pub loaded : List ℕ → Result Description Fault
loaded bytes = loaded_or (file_fault bytes) (description_at bytes (counts_at bytes))

-- An answer is what the file gives; for a file without a fault it may also be want of memory.
abbrev pub Loads : Result Description Fault → Result Loaded Fault → Type 0
Loads (Ok d) (Ok l) = description l ≡ d
Loads (Ok d) (Err f) = f ≡ of_file Memory
Loads (Err f) (Ok l) = ⊥
Loads (Err f) (Err g) = g ≡ f
