use Rattle.std.proofs.Common.{arith}
use Rattle.reading.proofs.BitAt.{bit_past, bit_got}
use Rattle.reading.proofs.positions.bit_at.Goals as goal

pub returns-then-p-length : goal.returns-then-p-length
returns-then-p-length g c = bit_past (g.S.Source.bits c.args.source.now) c.args.p (omega arith)

pub returns-in-Ok : goal.returns-in-Ok
returns-in-Ok g c = bit_got (g.S.Source.bits c.args.source.now) c.args.p c.in-Ok.bit (omega arith) c.in-Ok.ensures
