use Rattle.std.proofs.Common.{◌≡◌, ◌+◌, ◌-◌, true, false, ◌∙◌, arith}
use Rattle.std.proofs.lemmas.Bool.{eq-eqb, ne_eqb}
use Rattle.bits.specs.Bits.{part}
use Rattle.bits.specs.Zero.{all_zero}
use Rattle.bits.proofs.Gets.{ended}
use Rattle.bits.proofs.Zeros.{zero_none, zero_got, zero_more, zero_not, zero_told}
use Rattle.bits.proofs.zero.is_zero.Goals as goal

pub loop-at-init : goal.loop-at-init
loop-at-init g c =
    (omega arith, omega arith, zero_none (g.S.Source.bits c.args.source.now) c.args.from _ (omega arith))

pub returns-then-branch-ne0 : goal.returns-then-branch-ne0
returns-then-branch-ne0 g c =
    let l = g.S.Source.bits c.args.source.now in
    let at = c.loop-at.at in
    let n = c.min.result in
    let inside = ended c.from.result c.args.from c.args.count c.in_ok-check_end.field-0 c.in_ok-check_end.ensures in
    let other : all_zero (part l at n) ≡ false = zero_got l at n c.in_ok-get.field-0 c.in_ok-get.ensures ∙ ne_eqb c.in_ok-get.field-0 0 c.if-branch-ne0.true in
    zero_told l c.args.from c.args.count false (omega arith) (zero_not l c.args.from c.args.count at n (omega arith) (omega arith) other)

pub loop-at-preserved : goal.loop-at-preserved
loop-at-preserved g c =
    let l = g.S.Source.bits c.args.source.now in
    let at = c.loop-at.at in
    let n : c.min.result ≡ 32 = omega arith in
    let more : all_zero (part l at 32) ≡ true = rw n at (zero_got l at c.min.result c.in_ok-get.field-0 c.in_ok-get.ensures ∙ eq-eqb c.in_ok-get.field-0 0 (omega arith)) in
    (omega arith, omega arith, zero_more l c.args.from at 32 (omega arith) c.loop-at.invariant.2 more)

pub returns-else-branch-ne0 : goal.returns-else-branch-ne0
returns-else-branch-ne0 g c =
    let l = g.S.Source.bits c.args.source.now in
    let at = c.loop-at.at in
    let n = c.min.result in
    let inside = ended c.from.result c.args.from c.args.count c.in_ok-check_end.field-0 c.in_ok-check_end.ensures in
    let more : all_zero (part l at n) ≡ true = zero_got l at n c.in_ok-get.field-0 c.in_ok-get.ensures ∙ eq-eqb c.in_ok-get.field-0 0 (omega arith) in
    let all : at + n - c.args.from ≡ c.args.count = omega arith in
    zero_told l c.args.from c.args.count true (omega arith) (rw all at (zero_more l c.args.from at n (omega arith) c.loop-at.invariant.2 more))
