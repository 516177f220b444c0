-- The first fault of a field outside its values, or naming records that are not there.
use Rattle.std.specs.Prelude.{length, Option}
use Rattle.records.specs.declared.faults.Fault.{Fault}
use Rattle.records.specs.declared.faults.Cause.TheVariants.{Field}
use Rattle.records.specs.declared.faults.Table.TheVariants.{Classes, Names, Extensions, Lines, Nodes, Maps}
use Rattle.table.specs.Description.{Description}
use Rattle.table.specs.First.{or_else, first_upto}
use Rattle.table.specs.Fields.{top_field, class_field, name_field, extension_field, line_field, node_field, map_field}
use Rattle.passes.specs.Naming.{named, of_top}

abbrev pub top_field_fault : Description → Option Fault
top_field_fault d = of_top Field (top_field d)

abbrev pub class_field_fault : Description → Option Fault
class_field_fault d = named Field Classes (first_upto (class_field d) (length d.classes))

abbrev pub name_field_fault : Description → Option Fault
name_field_fault d = named Field Names (first_upto (name_field d) (length d.names))

abbrev pub extension_field_fault : Description → Option Fault
extension_field_fault d = named Field Extensions (first_upto (extension_field d) (length d.extensions))

abbrev pub line_field_fault : Description → Option Fault
line_field_fault d = named Field Lines (first_upto (line_field d) (length d.lines))

abbrev pub node_field_fault : Description → Option Fault
node_field_fault d = named Field Nodes (first_upto (node_field d) (length d.nodes))

abbrev pub map_field_fault : Description → Option Fault
map_field_fault d = named Field Maps (first_upto (map_field d) (length d.maps))

abbrev pub field_fault : Description → Option Fault
field_fault d =
    or_else (top_field_fault d)
    (or_else (class_field_fault d)
    (or_else (name_field_fault d)
    (or_else (extension_field_fault d)
    (or_else (line_field_fault d)
    (or_else (node_field_fault d) (map_field_fault d))))))
