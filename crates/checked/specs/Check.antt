-- The check of a description: its first fault.
use Rattle.std.specs.Prelude.{Option}
use Rattle.records.specs.declared.faults.Fault.{Fault}
use Rattle.table.specs.Description.{Description}
use Rattle.table.specs.First.{or_else}
use Rattle.blocks.specs.Faults.{stretch_fault, depth_fault}
use Rattle.owners.specs.Faults.{rank_fault, owner_fault}
use Rattle.places.specs.Faults.{place_fault}
use Rattle.checked.specs.Fields.{field_fault}

-- the first fault: the smallest number of a cause, then the earliest table and record
abbrev pub first_fault : Description → Option Fault
first_fault d =
    or_else (field_fault d)
    (or_else (stretch_fault d) (or_else (depth_fault d) (or_else (rank_fault d) (or_else (owner_fault d) (place_fault d)))))
