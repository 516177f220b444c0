use Rattle.std.proofs.Common.{◌<◌, ◌≤◌, subst}
use Rattle.writing.proofs.Aheads.{ahead-here, ahead_not, ahead_end}
use Rattle.writing.proofs.lines.some_ahead.Goals as goal

pub returns-then-looks_ahead-gt0 : goal.returns-then-looks_ahead-gt0
returns-then-looks_ahead-gt0 c =
    ahead-here c.args.lines.now c.loop-i.i c.loop-i-test.true (subst (λ n. 0 < n) c.looks_ahead.ensures c.if-looks_ahead-gt0.true) c.loop-i.invariant

pub loop-i-preserved : goal.loop-i-preserved
loop-i-preserved c =
    ahead_not c.args.lines.now c.loop-i.i c.loop-i-test.true (subst (λ n. n ≤ 0) c.looks_ahead.ensures c.if-looks_ahead-gt0.false) c.loop-i.invariant

pub returns : goal.returns
returns c = ahead_end c.args.lines.now c.loop-i.i c.loop-i-test.false c.loop-i.invariant
