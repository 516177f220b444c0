use Rattle.std.proofs.Common.{refl, arith}
use Rattle.pending.proofs.Codes.{joined_bits, joined_small}
use Rattle.pending.proofs.headers.joined.Goals as goal

pub returns : goal.returns
returns c =
    let h = c.args.high in
    let l = c.args.low in
    record {
      bits = joined_bits h.width l.width h.value l.value (omega arith) c.requires.high c.requires.low;
      width = refl;
      small = joined_small h.width l.width h.value l.value (omega arith) c.requires.high c.requires.low;
    }
