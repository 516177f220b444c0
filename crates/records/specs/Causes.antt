-- The numbers of the causes and tables, and the faults of a file as a whole.
use Rattle.std.specs.Prelude.{ℕ}
use Rattle.records.specs.declared.faults.Cause.{Cause}
use Rattle.records.specs.declared.faults.Cause.TheVariants.{Mark, Version, Count, Length, Field, Stretch, Depth, Rank, Owner, Place, Memory}
use Rattle.records.specs.declared.faults.Table.{Table}
use Rattle.records.specs.declared.faults.Table.TheVariants.{File, Classes, Names, Extensions, Lines, Nodes, Maps, Rows}
use Rattle.records.specs.declared.faults.Fault.{Fault}

-- the number by which users know a cause; 90 is want of memory
abbrev pub cause_number : Cause → ℕ
cause_number Mark = 1
cause_number Version = 2
cause_number Count = 3
cause_number Length = 4
cause_number Field = 5
cause_number Stretch = 6
cause_number Depth = 7
cause_number Rank = 8
cause_number Owner = 9
cause_number Place = 10
cause_number Memory = 90

-- the tables in the order of the file; 0 is the file as a whole, or its top class
abbrev pub table_number : Table → ℕ
table_number File = 0
table_number Classes = 1
table_number Names = 2
table_number Extensions = 3
table_number Lines = 4
table_number Nodes = 5
table_number Maps = 6
table_number Rows = 7

-- a fault that names record n of a table
abbrev pub fault : Cause → Table → ℕ → Fault
fault cause table n = record { cause = cause; table = table; «record» = n }

-- a fault of the file as a whole names no record
abbrev pub of_file : Cause → Fault
of_file cause = fault cause File 0
