use Rattle.std.specs.Prelude.{length}
use Rattle.std.proofs.Common.{◌∙◌}
use Rattle.bits.specs.Make.{most_words}
use Rattle.bits.specs.Units.{units_bits}
use Rattle.embed.specs.Sources.{too_long}
use Rattle.embed.proofs.Sources.{units_give}
use Rattle.embed.proofs.Swept.{swept_by}
use Rattle.embed.proofs.gets.jilafotra_gets_words.Goals as goal

pub returns : goal.returns
returns c =
    c.gets.ensures
    ∙ swept_by _ (units_bits 32 (λ w. w) c.args.words.now) (too_long most_words (length c.args.words.now)) c.args.rounds c.new.result
    (units_give _ c.new.result (units_bits 32 (λ w. w) c.args.words.now) (length c.args.words.now) most_words c.new.ensures)
