-- The first fault of what is where it does not belong.
use Rattle.std.specs.Prelude.{length, Option}
use Rattle.records.specs.declared.faults.Fault.{Fault}
use Rattle.records.specs.declared.faults.Cause.TheVariants.{Place}
use Rattle.records.specs.declared.faults.Table.TheVariants.{Classes, Extensions, Lines, Rows}
use Rattle.table.specs.Description.{Description}
use Rattle.table.specs.First.{or_else, first_upto}
use Rattle.passes.specs.Naming.{named, of_top}
use Rattle.places.specs.Classes.{class_place}
use Rattle.places.specs.Uses.{top_place, extension_place, line_place}
use Rattle.places.specs.Rows.{row_place}

abbrev pub top_place_fault : Description → Option Fault
top_place_fault d = of_top Place (top_place d)

abbrev pub class_place_fault : Description → Option Fault
class_place_fault d = named Place Classes (first_upto (class_place d) (length d.classes))

abbrev pub extension_place_fault : Description → Option Fault
extension_place_fault d = named Place Extensions (first_upto (extension_place d) (length d.extensions))

abbrev pub line_place_fault : Description → Option Fault
line_place_fault d = named Place Lines (first_upto (line_place d) (length d.lines))

abbrev pub row_place_fault : Description → Option Fault
row_place_fault d = named Place Rows (first_upto (row_place d) (length d.rows))

abbrev pub place_fault : Description → Option Fault
place_fault d =
    or_else (top_place_fault d)
    (or_else (class_place_fault d) (or_else (extension_place_fault d) (or_else (line_place_fault d) (row_place_fault d))))
