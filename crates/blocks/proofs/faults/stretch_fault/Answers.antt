use Rattle.std.proofs.Common.{ℕ, Option, sym, ap, ◌∙◌}
use Rattle.records.specs.declared.faults.Cause.TheVariants.{Stretch}
use Rattle.records.specs.declared.faults.Table.TheVariants.{Lines}
use Rattle.table.specs.Description.{description}
use Rattle.passes.specs.Naming.{named}
use Rattle.blocks.proofs.Fits.{only_outside}
use Rattle.blocks.proofs.faults.stretch_fault.Goals as goal

pub returns : goal.returns
returns c =
    c.outside_fault.ensures ∙ ap (λ (o : Option ℕ). named Stretch Lines o) (only_outside (description c.args.loaded.now) (sym c.if-some_unsound.ensures))
