use Rattle.std.proofs.Common.{◌≡◌, ◌+◌, ◌-◌, ◌*◌, ◌%◌, max, length, ◌∙◌, ap, arith}
use Rattle.bits.specs.Bits.{bits_all, length-bits_all}
use Rattle.pending.specs.Store.{with_part}
use Rattle.pending.proofs.Stores.{part_none}
use Rattle.pending.proofs.store.store_bits.Goals as goal

pub returns-then-to-from-le-WIDEST-clause-stored : goal.returns-then-to-from-le-WIDEST-clause-stored
returns-then-to-from-le-WIDEST-clause-stored g c =
    let l = bits_all 8 c.args.buffer.now in
    c.store_piece.ensures l c.args.from (omega arith) (length-bits_all 8 c.args.buffer.now) (part_none l (g.S.Source.bits c.args.source.now) c.args.from)

pub loop-start-init : goal.loop-start-init
loop-start-init g c =
    let first : max c.args.from (c.args.from - c.args.from % 8) ≡ c.args.from = omega arith in
    (omega arith, rw first (part_none (bits_all 8 c.args.buffer.now) (g.S.Source.bits c.args.source.now) c.args.from))

pub loop-start-preserved : goal.loop-start-preserved
loop-start-preserved g c =
    let from = c.args.from in
    let start = c.loop-start.start in
    let l = bits_all 8 c.args.buffer.now in
    let s = g.S.Source.bits c.args.source.now in
    let here : max from start ≡ c.max.result = omega arith in
    let next : c.min.result ≡ max from (start + 32) = omega arith in
    let long : length l ≡ length c.loop-start.buffer * 8 = length-bits_all 8 c.args.buffer.now ∙ omega arith in
    (omega arith, c.store_piece-in-loop-start.ensures l from (omega arith) long (c.loop-start.invariant.1 ∙ ap (with_part l s from) here) ∙ ap (with_part l s from) next)

pub returns-else-to-from-le-WIDEST-2-clause-stored : goal.returns-else-to-from-le-WIDEST-2-clause-stored
returns-else-to-from-le-WIDEST-2-clause-stored g c =
    let from = c.args.from in
    let start = c.loop-start.start in
    let l = bits_all 8 c.args.buffer.now in
    let s = g.S.Source.bits c.args.source.now in
    let here : max from start ≡ c.max.result = omega arith in
    let all : c.min.result ≡ c.args.to = omega arith in
    let long : length l ≡ length c.loop-start.buffer * 8 = length-bits_all 8 c.args.buffer.now ∙ omega arith in
    c.store_piece-in-loop-start.ensures l from (omega arith) long (c.loop-start.invariant.1 ∙ ap (with_part l s from) here) ∙ ap (with_part l s from) all
