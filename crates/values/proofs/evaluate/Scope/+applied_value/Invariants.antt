use Rattle.std.proofs.Common.{◌+◌, ◌*◌}
use Rattle.values.proofs.evaluate.Scope.+applied_value.Given as goal

abbrev pub decreases-applied : goal.decreases-applied
decreases-applied l = 2 * l.k

abbrev pub decreases-value : goal.decreases-value
decreases-value l = 2 * l.k + 1
