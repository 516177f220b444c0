use Rattle.std.proofs.Common.{◌+◌, ◌-◌, ◌≤◌, length, sym, ◌∙◌, arith}
use Rattle.std.proofs.lemmas.List.{length-take}
use Rattle.bits.specs.Bits.{part}
use Rattle.bits.proofs.Gets.{placed, get_window, got, number_none}
use Rattle.bits.proofs.window.WindowSource.get.Goals as goal

pub returns-then-n-eq0 : goal.returns-then-n-eq0
returns-then-n-eq0 g c =
    let w = c.args.self.now in
    let l = part (g.S.Source.bits w.inner) w.first (w.end - w.first) in
    let at = placed c.from.result c.args.p c.args.n c.in_ok-check_place.field-0 c.in_ok-check_place.ensures in
    got l c.args.p c.args.n 0 at.0 (rw (← c.length.ensures, ← c.from.ensures) at.1) (number_none l c.args.p c.args.n (omega arith))

pub returns : goal.returns
returns g c =
    let w = c.args.self.now in
    let l = g.S.Source.bits w.inner in
    let at = placed c.from.result c.args.p c.args.n c.in_ok-check_place.field-0 c.in_ok-check_place.ensures in
    let inside : c.args.p + c.args.n ≤ length (part l w.first (w.end - w.first)) = rw (← c.length.ensures, ← c.from.ensures) at.1 in
    let short : length (part l w.first (w.end - w.first)) ≤ w.end - w.first = rw length-take (omega arith) in
    c.get.ensures ∙ sym (get_window l w.first (w.end - w.first) c.args.p c.args.n (omega arith) (omega arith))
