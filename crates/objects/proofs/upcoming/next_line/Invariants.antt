use Rattle.std.proofs.Common.{◌≡◌, ◌<◌}
use Rattle.rules.specs.Code.{code}
use Rattle.objects.proofs.upcoming.next_line.Given as goal

abbrev pub invariant-loop-left : goal.invariant-loop-left
invariant-loop-left l = (code l.lines l.initial.at l.initial.count ≡ code l.lines l.line l.left) × (l.line < 4294967296)

abbrev pub decreases-loop-left : goal.decreases-loop-left
decreases-loop-left l = l.left
