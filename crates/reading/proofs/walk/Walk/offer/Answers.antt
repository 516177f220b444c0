use Rattle.std.proofs.Common.{◌∙◌, sym}
use Rattle.table.specs.Description.{description}
use Rattle.reading.proofs.Taking.{offered_alone}
use Rattle.reading.proofs.walk.Walk.offer.Goals as goal

pub returns : goal.returns
returns g c =
    offered_alone (description c.args.tables.now) c.args.self.now c.requires.sound (g.S.Source.bits c.args.source.now) c.args.wanted c.attempt.result c.attempt.new.self
    (sym c.hands_on.ensures ∙ c.if-hands_on.false) c.attempt.ensures
