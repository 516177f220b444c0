use Rattle.std.proofs.Common.{arith}
use Rattle.table.specs.Description.{description}
use Rattle.reading.proofs.Enclosing.{not_begun_from, walked_from}
use Rattle.reading.proofs.Stepping.{none_open, not_begun_ahead}
use Rattle.reading.proofs.walk.Walk.step.Goals as goal

pub finish-requires : goal.finish-requires
finish-requires g c =
    record { begun = c.if-not-self.false; none = none_open c.args.self.now (omega arith); count = c.length-count.ensures }

pub returns-then-not-self-clause-moved : goal.returns-then-not-self-clause-moved
returns-then-not-self-clause-moved g c =
    let d = description c.args.tables.now in
    let w = c.args.self.now in
    walked_from d (g.S.Source.bits c.args.source.now) _ 0 _ c.start.result c.start.new.self (not_begun_from w c.if-not-self.true)
    (λ B long. (0, not_begun_ahead d B w c.if-not-self.true)) (λ h. tt) c.start.ensures
