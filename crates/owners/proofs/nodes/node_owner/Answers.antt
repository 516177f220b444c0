use Rattle.std.proofs.Common.{sym}
use Rattle.table.specs.Description.{description}
use Rattle.owners.proofs.Reached.{taker_there}
use Rattle.owners.proofs.nodes.node_owner.Goals as goal

pub taken_wrongly-requires : goal.taken_wrongly-requires
taken_wrongly-requires c =
    taker_there (description c.args.classes.now.loaded.now) c.args.x (rw (← c.node.ensures) (sym c.if-takes_name.ensures))
