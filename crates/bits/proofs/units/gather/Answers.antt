use Rattle.std.proofs.Common.{◌≡◌, ◌-◌, ◌/◌, ◌*◌, ◌<◌, length, take, drop, ap, ◌∙◌, arith}
use Rattle.std.proofs.lemmas.List.{take_rest, length-drop}
use Rattle.bits.specs.Bits.{number}
use Rattle.bits.specs.Units.{units_bits}
use Rattle.bits.proofs.UnitBits.{half_narrow, gather_halves}
use Rattle.bits.proofs.units.gather.Goals as goal

pub overflow_shl-result : goal.overflow_shl-result
overflow_shl-result g c =
    let xs = c.args.units.now in
    rw (take_rest, length-drop, c.BITS.ensures) (half_narrow g.U.Unit.BITS (length xs) g.met.U.Unit.width c.requires)

pub returns : goal.returns
returns g c =
    let xs = c.args.units.now in
    let w = g.U.Unit.BITS in
    let value = g.U.Unit.value in
    let half = length xs / 2 in
    let low : c.gather_half-2.result ≡ number (units_bits w value (drop half xs)) = c.gather_half-2.ensures ∙ ap (λ t. number (units_bits w value t)) (take_rest xs half) in
    rw (take_rest, c.BITS.ensures) (gather_halves w value xs half c.gather_half.result c.gather_half-2.result (omega arith) c.requires c.gather_half.ensures low)
