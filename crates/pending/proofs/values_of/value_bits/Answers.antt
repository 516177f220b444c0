use Rattle.std.proofs.Common.{sym, ap, ◌∙◌, subst, to_z-of_z, Option, Some}
use Rattle.records.specs.declared.statements.Statement.{Statement}
use Rattle.table.specs.Description.{description, statement_at}
use Rattle.roundtrip.specs.Own.{value_bits, SensibleValue}
use Rattle.pending.specs.Owned.{Answers}
use Rattle.pending.proofs.Senses.{no_value}
use Rattle.pending.proofs.values_of.value_bits.Goals as goal

pub returns-in_err-statement : goal.returns-in_err-statement
unfolding value_bits SensibleValue statement_at
returns-in_err-statement c =
    let d = description c.args.tables.now in
    let P : Option Statement → Type 0 = λ s. Answers (value_bits d s c.args.value c.args.length) (SensibleValue d s c.args.value c.args.length) c.from_residual.result in
    subst P (c.in_err-statement.ensures) (rw c.from_residual.ensures (λ h. h))

pub returns-in-Read : goal.returns-in-Read
unfolding value_bits SensibleValue statement_at
returns-in-Read c =
    let d = description c.args.tables.now in
    let f = c.ranges.value in
    let P : Option Statement → Type 0 = λ s. Answers (value_bits d s c.args.value c.args.length) (SensibleValue d s c.args.value c.args.length) c.read_bits.result in
    subst P (ap Some (sym c.in-Read.is) ∙ c.in_ok-statement.ensures) (simp to_z-of_z at c.read_bits.ensures)

pub returns-in-MapRead : goal.returns-in-MapRead
unfolding value_bits SensibleValue statement_at
returns-in-MapRead c =
    let d = description c.args.tables.now in
    let f = c.ranges.value in
    let P : Option Statement → Type 0 = λ s. Answers (value_bits d s c.args.value c.args.length) (SensibleValue d s c.args.value c.args.length) c.map_bits.result in
    subst P (ap Some (sym c.in-MapRead.is) ∙ c.in_ok-statement.ensures) (simp (to_z-of_z, c.map.ensures) at c.map_bits.ensures)

pub returns-in_default : goal.returns-in_default
unfolding statement_at
returns-in_default c = λ h.
    let d = description c.args.tables.now in
    no_value d c.in_ok-statement.field-0 c.args.value c.args.length c.in_default.not-Read c.in_default.not-MapRead
    (subst (λ (s : Option Statement). SensibleValue d s c.args.value c.args.length) (sym (c.in_ok-statement.ensures)) h)
