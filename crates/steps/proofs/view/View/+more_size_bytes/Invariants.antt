use Rattle.std.proofs.Common.{◌+◌, ◌*◌}
use Rattle.steps.proofs.view.View.+more_size_bytes.Given as goal

abbrev pub decreases-size_bytes : goal.decreases-size_bytes
decreases-size_bytes g l = 2 * l.left

abbrev pub decreases-more_bytes : goal.decreases-more_bytes
decreases-more_bytes g l = 2 * l.left + 1
