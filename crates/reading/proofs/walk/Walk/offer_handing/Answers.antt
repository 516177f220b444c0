use Rattle.std.proofs.Common.{arith}
use Rattle.std.proofs.lemmas.List.{get_or_default}
use Rattle.table.specs.Description.{description}
use Rattle.reading.specs.Walks.{no_object}
use Rattle.reading.proofs.Taking.{declined_both}
use Rattle.reading.proofs.walk.Walk.offer_handing.Goals as goal

pub returns : goal.returns
returns g c =
    let v = c.args.self.now in
    declined_both (description c.args.tables.now) v c.requires.sound (g.S.Source.bits c.args.source.now) c.args.wanted c.attempt.new.self _ _ c.requires.handing (omega arith)
    (get_or_default v.objects c.saturating_sub-around.result c.index-self-around.result no_object (omega arith)) (rw c.if-attempt.false at c.attempt.ensures)
