use Rattle.std.proofs.Common.{arith}
use Rattle.std.proofs.lemmas.List.{length-append}
use Rattle.bits.specs.Bits.{length-limited}
use Rattle.bits.proofs.join.JoinSource.length.Goals as goal

pub returns : goal.returns
returns g c = rw (length-limited, length-append) (omega arith)
