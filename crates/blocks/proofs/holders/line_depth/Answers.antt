use Rattle.std.proofs.Common.{rules}
use Rattle.records.specs.declared.stretches.Stretch.{Stretch}
use Rattle.table.specs.Description.{description}
use Rattle.blocks.specs.Stretches.{deep_in}
use Rattle.blocks.proofs.holders.line_depth.Goals as goal

pub returns-then-has_blocks : goal.returns-then-has_blocks
returns-then-has_blocks c =
    let t = c.some_stretch.ensures (λ (s : Stretch). deep_in (description c.args.loaded.now) s.first s.number c.args.n) (λ s r e. search rules) in
    search rules
