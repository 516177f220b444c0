use Rattle.std.proofs.Common.{◌≡◌, ◌-◌, length, sym, ◌∙◌, subst, arith}
use Rattle.bits.specs.Zero.{all_zero}
use Rattle.bits.specs.Bits.{part}
use Rattle.reading.proofs.Endings.{zero_told, past_end, near_end}
use Rattle.reading.proofs.ending.at_end.Goals as goal

pub returns-then-p-count : goal.returns-then-p-count
returns-then-p-count g c = past_end (g.S.Source.bits c.args.source.now) c.args.p (omega arith)

pub returns : goal.returns
returns g c =
    let bits = g.S.Source.bits c.args.source.now in
    let z : all_zero (part bits c.args.p (length bits - c.args.p)) ≡ c.unwrap_or.result =
    subst (λ n. all_zero (part bits c.args.p (n - c.args.p)) ≡ c.unwrap_or.result) c.requires
    (zero_told bits c.args.p (c.args.count - c.args.p) c.is_zero.result c.is_zero.ensures (omega arith) ∙ sym c.unwrap_or.ensures) in
    near_end bits c.args.p (omega arith) c.unwrap_or.result z
