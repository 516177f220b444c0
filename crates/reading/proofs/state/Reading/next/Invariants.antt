use Rattle.std.proofs.Common.{◌≡◌, None}
use Rattle.reading.specs.Calls.{Keeps}
use Rattle.objects.specs.Passed.{passes}
use Rattle.reading.specs.Reads.{ahead, skipped}
use Rattle.reading.proofs.state.Reading.next.Given as goal

abbrev pub invariant-loop-answer : goal.invariant-loop-answer
invariant-loop-answer g l =
    (l.self.fault ≡ None) × (skipped (ahead g.S.Source.bits l.self) ≡ skipped (ahead g.S.Source.bits l.initial.self))
    × (l.self.last ≡ l.initial.self.last) × Keeps g.S.Source.bits l.initial.self l.self

abbrev pub decreases-loop-answer : goal.decreases-loop-answer
decreases-loop-answer g l = passes (ahead g.S.Source.bits l.self)
