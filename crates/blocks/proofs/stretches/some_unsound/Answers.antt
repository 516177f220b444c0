use Rattle.std.proofs.Common.{rules, not}
use Rattle.records.specs.declared.stretches.Stretch.{Stretch}
use Rattle.table.specs.Description.{description}
use Rattle.blocks.specs.Nesting.{block_sound}
use Rattle.blocks.proofs.stretches.some_unsound.Goals as goal

pub returns : goal.returns
returns c =
    c.some_stretch.ensures (λ (s : Stretch). not (block_sound (description c.args.loaded.now) s.first s.number 0)) (λ s r e. search rules)
