use Rattle.std.proofs.Common.{rules}
use Rattle.records.specs.declared.stretches.Stretch.{Stretch}
use Rattle.table.specs.Description.{description}
use Rattle.blocks.specs.Stretches.{past_in}
use Rattle.blocks.proofs.holders.past.Goals as goal

pub returns : goal.returns
returns c =
    c.some_stretch.ensures (λ (s : Stretch). past_in (description c.args.loaded.now) s.first s.number c.args.n) (λ s r e. search rules)
