use Rattle.std.proofs.Common.{sym, refl, subst, arith}
use Rattle.rules.specs.declared.items.Kind.{Kind}
use Rattle.bits.specs.Bits.{bits_of}
use Rattle.table.specs.Description.{description}
use Rattle.roundtrip.specs.Own.{item_bits, SensibleBy}
use Rattle.pending.specs.Owned.{Gives}
use Rattle.pending.proofs.own.own_bits.Goals as goal

pub returns-in-Close : goal.returns-in-Close
unfolding bits_of
returns-in-Close c =
    let d = description c.args.tables.now in
    let i = c.args.item in
    let P : Kind → Type 0 = λ k. Gives (item_bits d k i.line i.value i.length) (SensibleBy d k i.line i.value i.length) (record { width = 0; value = 0 }) in
    subst P (sym c.in-Close.is) (record { bits = refl; short = omega arith; small = omega arith; sense = tt })
