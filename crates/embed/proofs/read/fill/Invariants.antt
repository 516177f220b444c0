use Rattle.reading.specs.Reads.{ahead}
use Rattle.embed.proofs.Storing.{Storing}
use Rattle.embed.proofs.read.fill.Given as goal

abbrev pub invariant-loop-count : goal.invariant-loop-count
invariant-loop-count g l =
    Storing (ahead g.S.Source.bits l.initial.reading) l.initial.table l.count l.table (ahead g.S.Source.bits l.reading)
