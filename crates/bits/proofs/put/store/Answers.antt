use Rattle.std.proofs.Common.{◌≡◌, ◌+◌, ◌-◌, ◌*◌, ◌/◌, ◌%◌, ◌^◌, ◌≤◌, length, set, sym, ap, ◌∙◌, arith}
use Rattle.bits.specs.Bits.{bits_all, length-bits_all}
use Rattle.bits.specs.Put.{with_bits}
use Rattle.bits.proofs.Puts.{put_piece, put_more, put_none}
use Rattle.bits.proofs.put.store.Goals as goal

pub loop-i-preserved : goal.loop-i-preserved
loop-i-preserved c =
    let xs = c.loop-i.bytes in
    let i = c.loop-i.i in
    let from = c.loop-i.at in
    let v = c.args.value in
    let m = c.min-m.result in
    let k = c.loop-i.left - m in
    let room = 8 - from % 8 in
    let l = bits_all 8 xs in
    let here : i * 8 + from % 8 ≡ from = omega arith in
    let left : m + k ≡ c.loop-i.left = omega arith in
    let inside : from + m + k ≤ length l = rw length-bits_all (omega arith) in
    let stored : bits_all 8 (set xs i c.with_piece.result) ≡ with_bits l from m (v / 2 ^ k) =
    ap (λ t. bits_all 8 (set xs i t)) c.with_piece.ensures ∙ (put_piece xs i (from % 8) m (room - m) (v / 2 ^ k) (omega arith) (omega arith) ∙ ap (λ t. with_bits l t m (v / 2 ^ k)) here) in
    let before = rw (← left) at c.loop-i.invariant.1.1 in
    (omega arith, (omega arith, rw stored (put_more l from m k v inside ∙ before)))

pub returns : goal.returns
returns c =
    let l = bits_all 8 c.loop-i.bytes in
    let none : c.loop-i.left ≡ 0 = omega arith in
    sym (put_none l c.loop-i.at c.args.value) ∙ rw none at c.loop-i.invariant.1.1
