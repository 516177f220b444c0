use Rattle.std.proofs.Common.{arith}
use Rattle.bits.specs.Bits.{length-limited}
use Rattle.pending.proofs.Trials.{length_trial}
use Rattle.pending.proofs.trial.TrialSource.length.Goals as goal

pub returns : goal.returns
returns c = rw (length-limited, length_trial) (omega arith)
