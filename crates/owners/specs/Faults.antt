-- The first faults of ranks, and of names.
use Rattle.std.specs.Prelude.{length, Option}
use Rattle.records.specs.declared.faults.Fault.{Fault}
use Rattle.records.specs.declared.faults.Cause.TheVariants.{Rank, Owner}
use Rattle.records.specs.declared.faults.Table.TheVariants.{Lines, Nodes}
use Rattle.table.specs.Description.{Description}
use Rattle.table.specs.First.{or_else, first_upto}
use Rattle.passes.specs.Naming.{named}
use Rattle.owners.specs.Ranks.{line_rank}
use Rattle.owners.specs.Names.{line_owner, node_owner}

abbrev pub rank_fault : Description → Option Fault
rank_fault d = named Rank Lines (first_upto (line_rank d) (length d.lines))

abbrev pub line_owner_fault : Description → Option Fault
line_owner_fault d = named Owner Lines (first_upto (line_owner d) (length d.lines))

abbrev pub node_owner_fault : Description → Option Fault
node_owner_fault d = named Owner Nodes (first_upto (node_owner d) (length d.nodes))

abbrev pub owner_fault : Description → Option Fault
owner_fault d = or_else (line_owner_fault d) (node_owner_fault d)
