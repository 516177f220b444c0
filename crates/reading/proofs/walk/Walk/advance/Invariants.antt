use Rattle.table.specs.Description.{description}
use Rattle.reading.specs.Offers.{Silent}
use Rattle.objects.specs.Passed.{passes}
use Rattle.reading.specs.Walks.{walk_ahead}
use Rattle.reading.proofs.walk.Walk.advance.Given as goal

abbrev pub invariant-loop-answer : goal.invariant-loop-answer
invariant-loop-answer g l = Silent (description l.tables) (g.S.Source.bits l.source) l.initial.self l.self

abbrev pub decreases-loop-answer : goal.decreases-loop-answer
decreases-loop-answer g l = passes (walk_ahead (description l.tables) (g.S.Source.bits l.source) l.self)
