use Rattle.std.proofs.Common.{◌+◌, ◌-◌, ◌++◌, sym, ap, ◌∙◌, arith}
use Rattle.std.proofs.lemmas.List.{length-append}
use Rattle.bits.specs.Bits.{number, part}
use Rattle.bits.specs.Get.{get_answer}
use Rattle.bits.proofs.Numbers.{across}
use Rattle.bits.proofs.Gets.{get_limited, get_front, get_back, got, answered, refused, placed_joined}
use Rattle.bits.proofs.join.JoinSource.get.Goals as goal

pub returns-then-p-n : goal.returns-then-p-n
returns-then-p-n g c =
    let a = g.S.Source.bits c.args.self.now.front in
    let b = g.T.Source.bits c.args.self.now.back in
    let p = c.args.p in
    let n = c.args.n in
    let at = placed_joined a b c.from.result p n c.in_ok-check_place.field-0 (c.from.ensures ∙ c.length.ensures) c.in_ok-check_place.ensures in
    c.get.ensures ∙ sym (get_limited (a ++ b) p n at.1 ∙ get_front a b p n (omega arith))

pub returns-then-p-middle : goal.returns-then-p-middle
returns-then-p-middle g c =
    let a = g.S.Source.bits c.args.self.now.front in
    let b = g.T.Source.bits c.args.self.now.back in
    let p = c.args.p in
    let n = c.args.n in
    let at = placed_joined a b c.from.result p n c.in_ok-check_place.field-0 (c.from.ensures ∙ c.length.ensures) c.in_ok-check_place.ensures in
    c.get-then-p-middle.ensures ∙ (ap (λ t. get_answer b (p - t) n) c.length-middle.ensures ∙ sym (get_limited (a ++ b) p n at.1 ∙ get_back a b p n (omega arith)))

pub returns-in_err-low : goal.returns-in_err-low
returns-in_err-low g c =
    let a = g.S.Source.bits c.args.self.now.front in
    let b = g.T.Source.bits c.args.self.now.back in
    let p = c.args.p in
    let n = c.args.n in
    let at = placed_joined a b c.from.result p n c.in_ok-check_place.field-0 (c.from.ensures ∙ c.length.ensures) c.in_ok-check_place.ensures in
    let low = refused b 0 (p + n - c.length-middle.result) c.in_err-low.field-0.0 (omega arith) c.in_err-low.ensures in
    absurd (omega arith)

pub returns : goal.returns
returns g c =
    let a = g.S.Source.bits c.args.self.now.front in
    let b = g.T.Source.bits c.args.self.now.back in
    let p = c.args.p in
    let n = c.args.n in
    let at = placed_joined a b c.from.result p n c.in_ok-check_place.field-0 (c.from.ensures ∙ c.length.ensures) c.in_ok-check_place.ensures in
    let past = p + n - c.length-middle.result in
    let high = answered a p (c.length-middle.result - p) c.in_ok-high.high c.in_ok-high.ensures in
    let low = answered b 0 past c.in_ok-low.low c.in_ok-low.ensures in
    let whole = across a b p n past c.in_ok-high.high c.in_ok-low.low (omega arith) (omega arith) (omega arith) (omega arith) (high.2 ∙ ap (λ t. number (part a p (t - p))) c.length-middle.ensures) low.2 in
    got (a ++ b) p n _ at.0 (rw length-append at.2) whole ∙ sym (get_limited (a ++ b) p n at.1)
