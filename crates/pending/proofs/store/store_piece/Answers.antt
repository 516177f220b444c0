use Rattle.std.proofs.Common.{◌≡◌, ◌+◌, ◌-◌, ◌*◌, true, length, is_ok, ap, ◌∙◌, arith}
use Rattle.bits.specs.Put.{with_bits}
use Rattle.bits.proofs.Gets.{answered}
use Rattle.pending.specs.Store.{with_part}
use Rattle.pending.proofs.Stores.{can_put, part_more}
use Rattle.pending.proofs.store.store_piece.Goals as goal

pub returns-in-Ok : goal.returns-in-Ok
returns-in-Ok g c = λ l from first long before.
    let s = g.S.Source.bits c.args.source.now in
    let at = c.args.at in
    let n = c.args.to - at in
    let got = answered s at n c.in-Ok.piece c.in-Ok.ensures in
    let ok : is_ok c.put_bits.result ≡ true = ap is_ok c.put_bits.ensures.answer ∙ can_put (length c.args.buffer.now * 8) at n (omega arith) (omega arith) in
    let stored = rw ok at c.put_bits.ensures.stored in
    let all : at + n ≡ c.args.to = omega arith in
    stored ∙ (ap (λ t. with_bits t at n c.in-Ok.piece) before ∙ (part_more l s from at n c.in-Ok.piece first (omega arith) (omega arith) got.2 ∙ ap (with_part l s from) all))
