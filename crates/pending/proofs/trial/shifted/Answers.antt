use Rattle.std.proofs.Common.{arith}
use Rattle.pending.proofs.Trials.{shift_out, shift_off}
use Rattle.pending.proofs.trial.shifted.Goals as goal

pub returns-then-up-ge64 : goal.returns-then-up-ge64
returns-then-up-ge64 c = shift_out c.args.value c.args.q c.args.end c.if-up-ge64.true

pub returns-then-down-ge64 : goal.returns-then-down-ge64
returns-then-down-ge64 c = shift_off c.args.value c.args.q c.args.end (omega arith) c.if-down-ge64.true
