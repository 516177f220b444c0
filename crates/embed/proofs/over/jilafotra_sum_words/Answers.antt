use Rattle.std.specs.Prelude.{length}
use Rattle.bits.specs.Make.{most_words}
use Rattle.bits.specs.Units.{units_bits}
use Rattle.table.specs.Loading.{loaded}
use Rattle.embed.specs.Folding.{sum_with}
use Rattle.embed.specs.Sources.{too_long}
use Rattle.embed.specs.Told.{Unfolded, FoldedThrough}
use Rattle.embed.proofs.Sources.{units_give}
use Rattle.embed.proofs.Told.{stream_told}
use Rattle.embed.proofs.over.jilafotra_sum_words.Goals as goal

pub returns : goal.returns
returns c =
    stream_told (Unfolded c.folded.result) (FoldedThrough sum_with 0 c.folded.result) _ (units_bits 32 (λ x. x) c.args.words.now)
    (too_long most_words (length c.args.words.now)) (loaded c.args.description.now) c.load.result c.new.result c.load.ensures
    (units_give _ c.new.result (units_bits 32 (λ x. x) c.args.words.now) (length c.args.words.now) most_words c.new.ensures) c.folded.ensures
