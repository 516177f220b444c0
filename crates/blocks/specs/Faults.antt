-- The first faults of stretches and blocks, and of what nests too deep.
use Rattle.std.specs.Prelude.{not, length, Option}
use Rattle.records.specs.declared.faults.Fault.{Fault}
use Rattle.records.specs.declared.faults.Cause.TheVariants.{Stretch, Depth}
use Rattle.records.specs.declared.faults.Table.TheVariants.{Lines, Nodes}
use Rattle.table.specs.Description.{Description}
use Rattle.table.specs.First.{or_else, first_upto}
use Rattle.passes.specs.Naming.{named}
use Rattle.blocks.specs.Stretches.{in_one, line_stretch, line_depth, node_depth}

-- the first line that is not in exactly one stretch
abbrev pub outside_fault : Description → Option Fault
outside_fault d = named Stretch Lines (first_upto (λ n. not (in_one d n)) (length d.lines))

abbrev pub stretch_fault : Description → Option Fault
stretch_fault d = named Stretch Lines (first_upto (line_stretch d) (length d.lines))

abbrev pub line_depth_fault : Description → Option Fault
line_depth_fault d = named Depth Lines (first_upto (line_depth d) (length d.lines))

abbrev pub node_depth_fault : Description → Option Fault
node_depth_fault d = named Depth Nodes (first_upto (node_depth d) (length d.nodes))

abbrev pub depth_fault : Description → Option Fault
depth_fault d = or_else (line_depth_fault d) (node_depth_fault d)
