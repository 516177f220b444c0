use Rattle.std.proofs.Common.{replicate, false, arith}
use lib.ListN.{length-replicate}
use Rattle.bits.proofs.Gets.{placed, got}
use Rattle.streaming.proofs.Bits.{zeros_part}
use Rattle.streaming.proofs.zeros.ZerosSource.get.Goals as goal

pub returns : goal.returns
returns c =
    let n = c.args.self.now.count in
    let at = placed c.from.result c.args.p c.args.n c.in_ok-check_place.field-0 c.in_ok-check_place.ensures in
    let long = length-replicate n false in
    got (replicate n false) c.args.p c.args.n 0 at.0 (omega (arith, at.1)) (zeros_part n c.args.p c.args.n)
