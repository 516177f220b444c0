use Rattle.std.specs.Prelude.{length}
use Rattle.bits.specs.Make.{most_bytes}
use Rattle.table.specs.Loading.{loaded}
use Rattle.embed.specs.Folding.{sum_with}
use Rattle.embed.specs.Sources.{byte_bits, too_long}
use Rattle.embed.specs.Told.{Unfolded, FoldedThrough}
use Rattle.embed.proofs.Sources.{units_give}
use Rattle.embed.proofs.Told.{stream_told}
use Rattle.embed.proofs.folds.jilafotra_sum.Goals as goal

pub returns : goal.returns
returns c =
    stream_told (Unfolded c.folded.result) (FoldedThrough sum_with 0 c.folded.result) _ (byte_bits c.args.stream.now)
    (too_long most_bytes (length c.args.stream.now)) (loaded c.args.description.now) c.load.result c.new.result c.load.ensures
    (units_give _ c.new.result (byte_bits c.args.stream.now) (length c.args.stream.now) most_bytes c.new.ensures) c.folded.ensures
