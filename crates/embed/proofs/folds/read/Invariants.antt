use Rattle.reading.specs.Reads.{ahead}
use Rattle.embed.proofs.Counting.{Taking}
use Rattle.embed.proofs.folds.read.Given as goal

abbrev pub invariant-loop-items : goal.invariant-loop-items
invariant-loop-items g l =
    Taking g.F.Fold.step g.F.Fold.start (ahead g.S.Source.bits l.initial.reading) l.items (g.F.Fold.so_far l.fold) (ahead g.S.Source.bits l.reading)
