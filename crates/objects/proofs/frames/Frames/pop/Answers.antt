use Rattle.std.proofs.Common.{◌≡◌, suc, ◌-◌, min, arith}
use Rattle.objects.specs.Frames.{frames}
use Rattle.objects.specs.declared.frame.Frame.TheVariants.{Lines}
use Rattle.objects.proofs.Stacks.{stack_none, stack_pop}
use Rattle.objects.proofs.frames.Frames.pop.Goals as goal

pub returns-then-self-eq0 : goal.returns-then-self-eq0
unfolding frames
returns-then-self-eq0 c =
    let e = stack_none (Lines 0 0) c.args.self.now.room c.args.self.now.depth 20 (omega arith) in (e, e)

pub returns : goal.returns
unfolding frames
returns c =
    let h : min c.args.self.now.depth 20 ≡ suc (c.min-top.result - 1) = omega (arith, c.min-top.ensures, c.if-self-eq0.false) in
    stack_pop (Lines 0 0) c.args.self.now.room c.args.self.now.depth 20 (c.min-top.result - 1) h
