-- The fault that a broken rule makes.
use Rattle.std.specs.Prelude.{ℕ, Bool, Some, None, Option}
use Rattle.records.specs.Causes.{fault}
use Rattle.records.specs.declared.faults.Cause.{Cause}
use Rattle.records.specs.declared.faults.Table.{Table}
use Rattle.records.specs.declared.faults.Table.TheVariants.{File}
use Rattle.records.specs.declared.faults.Fault.{Fault}
use Rattle.table.specs.First.{when}

-- a rule's first broken record of a table, as a fault
abbrev pub named : Cause → Table → Option ℕ → Option Fault
named cause table (Some n) = Some (fault cause table n)
named cause table None = None

-- the top class stands in no table: its faults are the file's
abbrev pub of_top : Cause → Bool → Option Fault
of_top cause broken = named cause File (when broken 0)
