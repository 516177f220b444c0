use Rattle.std.proofs.Common.{◌/◌, ◌^◌, arith}
use Rattle.bits.proofs.Puts.{masked, own_le, swapped, with_piece_lt}
use Rattle.bits.proofs.put.with_piece.Goals as goal

pub overflow_sub-result : goal.overflow_sub-result
overflow_sub-result c = rw (c.from-old.ensures, masked (c.args.byte / 2 ^ c.args.tail) c.args.m c.args.tail (omega arith)) (own_le c.args.byte c.args.m c.args.tail)

pub overflow_cast-result : goal.overflow_cast-result
overflow_cast-result c =
    rw (c.from-old.ensures, masked (c.args.byte / 2 ^ c.args.tail) c.args.m c.args.tail (omega arith), masked c.args.x c.args.m c.args.tail (omega arith), swapped c.args.byte c.args.m c.args.tail c.args.x)
    (record { fits = with_piece_lt c.args.byte c.args.m c.args.tail c.args.x (omega arith) (omega arith) })

pub returns : goal.returns
returns c =
    rw (c.from-old.ensures, masked (c.args.byte / 2 ^ c.args.tail) c.args.m c.args.tail (omega arith), masked c.args.x c.args.m c.args.tail (omega arith)) (swapped c.args.byte c.args.m c.args.tail c.args.x)
