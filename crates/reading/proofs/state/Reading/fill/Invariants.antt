use Rattle.reading.specs.Calls.{Keeps}
use Rattle.reading.specs.Reads.{ahead}
use Rattle.reading.proofs.Filling.{Filling}
use Rattle.reading.proofs.state.Reading.fill.Given as goal

abbrev pub invariant-loop-count : goal.invariant-loop-count
invariant-loop-count g l =
    Filling (ahead g.S.Source.bits l.initial.self) l.initial.self.last l.initial.table l.count l.table (ahead g.S.Source.bits l.self) l.self.last
    × Keeps g.S.Source.bits l.initial.self l.self
