use Rattle.std.proofs.Common.{◌*◌, length, sym, ap, ◌∙◌}
use Rattle.bits.specs.Units.{length-units_bits}
use Rattle.bits.proofs.units.UnitsSource.length.Goals as goal

pub returns : goal.returns
returns g c =
    let xs = c.args.self.now.units.now in
    ap (λ w. length xs * w) c.BITS.ensures ∙ sym (length-units_bits g.U.Unit.BITS g.U.Unit.value xs)
