-- What is printed of counts and of a fault.
use Rattle.std.specs.Prelude.{ℕ, List, ◌++◌, codes, decimal}
use Rattle.records.specs.declared.counts.Counts.{Counts}
use Rattle.records.specs.declared.faults.Fault.{Fault}
use Rattle.records.specs.Causes.{cause_number, table_number}

-- a text, a space, and another
abbrev pub spaced : List ℕ → List ℕ → List ℕ
spaced a b = a ++ (codes " " ++ b)

-- seven numbers, in the order of the file
abbrev pub counts_text : Counts → List ℕ
counts_text c = spaced (decimal c.classes) (spaced (decimal c.names) (spaced (decimal c.extensions) (spaced (decimal c.lines) (spaced (decimal c.nodes) (spaced (decimal c.maps) (decimal c.rows))))))

-- three numbers: cause, table, record
abbrev pub fault_text : Fault → List ℕ
fault_text f = spaced (decimal (cause_number f.cause)) (spaced (decimal (table_number f.table)) (decimal f.record))
