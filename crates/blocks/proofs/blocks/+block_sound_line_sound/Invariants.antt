use Rattle.std.proofs.Common.{◌+◌, ◌*◌}
use Rattle.blocks.proofs.blocks.+block_sound_line_sound.Given as goal

abbrev pub decreases-block_sound : goal.decreases-block_sound
decreases-block_sound l = 2 * l.count + 1

abbrev pub decreases-line_sound : goal.decreases-line_sound
decreases-line_sound l = 2 * l.room
