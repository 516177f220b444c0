use Rattle.std.proofs.Common.{◌≡◌, ◌+◌, ◌-◌, ◌*◌, length, sym, ◌∙◌, arith}
use Rattle.bits.specs.Units.{units_bits, length-units_bits}
use Rattle.bits.proofs.Numbers.{number-part}
use Rattle.bits.proofs.units.read.Goals as goal

pub returns : goal.returns
returns g c =
    let xs = c.args.units.now in
    let w = g.U.Unit.BITS in
    let l = units_bits w g.U.Unit.value xs in
    let inside = c.requires.inside in
    let past = length xs * w - c.args.p - c.args.n in
    let whole : c.args.p + c.args.n + past ≡ length l = rw length-units_bits (omega arith) in
    c.field.ensures ∙ (rw (c.BITS.ensures, c.gather.ensures) (sym (number-part l c.args.p c.args.n past whole)))
