use Rattle.std.proofs.Common.{refl}
use Rattle.objects.specs.Frames.{frames}
use Rattle.objects.specs.declared.frame.Frame.TheVariants.{Lines}
use Rattle.objects.proofs.Stacks.{stack_none}
use Rattle.objects.proofs.frames.Frames.clear.Goals as goal

pub returns : goal.returns
unfolding frames
returns c = stack_none (Lines 0 0) c.args.self.now.room 0 20 refl
