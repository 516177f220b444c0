use Rattle.std.proofs.Common.{◌≡◌, drop}
use Rattle.writing.specs.Ready.{some_ahead}
use Rattle.writing.proofs.lines.some_ahead.Given as goal

abbrev pub invariant-loop-i : goal.invariant-loop-i
invariant-loop-i l = some_ahead l.lines ≡ some_ahead (drop l.i l.lines)
