use Rattle.std.proofs.Common.{◌≡◌}
use Rattle.embed.specs.Gets.{rounds_swept}
use Rattle.embed.proofs.gets.sweep.Given as goal

abbrev pub invariant-loop-round : goal.invariant-loop-round
invariant-loop-round g l = l.all ≡ rounds_swept (g.S.Source.bits l.source) l.round
