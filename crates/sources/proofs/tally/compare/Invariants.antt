use Rattle.std.proofs.Common.{◌+◌, ◌*◌, ◌≤◌}
use Rattle.sources.proofs.tally.compare.Given as goal

-- each turn compares one answer more
abbrev pub invariant-loop-n : goal.invariant-loop-n
invariant-loop-n g l = l.different ≤ l.widths * l.p + l.n

abbrev pub invariant-loop-p : goal.invariant-loop-p
invariant-loop-p g l = l.different ≤ l.widths * l.p
