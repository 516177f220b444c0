use Rattle.std.proofs.Common.{◌<◌, arith}
use Rattle.objects.specs.Frames.{frames}
use Rattle.objects.specs.declared.frame.Frame.TheVariants.{Lines}
use Rattle.objects.proofs.Stacks.{stack_push, stack_room}
use Rattle.objects.proofs.frames.Frames.push.Goals as goal

pub offset_bounds-self-self : goal.offset_bounds-self-self
unfolding frames
offset_bounds-self-self c = let h = stack_room (Lines 0 0) c.args.self.now.room c.args.self.now.depth 20 c.requires in omega arith

pub bounds-self-self : goal.bounds-self-self
unfolding frames
bounds-self-self c = let h = stack_room (Lines 0 0) c.args.self.now.room c.args.self.now.depth 20 c.requires in omega arith

pub overflow_add-self : goal.overflow_add-self
unfolding frames
overflow_add-self c = let h = stack_room (Lines 0 0) c.args.self.now.room c.args.self.now.depth 20 c.requires in omega arith

pub returns : goal.returns
unfolding frames
returns c =
    let h : c.args.self.now.depth < 20 = stack_room (Lines 0 0) c.args.self.now.room c.args.self.now.depth 20 c.requires in
    stack_push (Lines 0 0) c.args.self.now.room c.args.self.now.depth 20 c.args.frame h (omega arith)
