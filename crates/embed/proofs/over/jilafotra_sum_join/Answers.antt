use Rattle.std.specs.Prelude.{◌+◌, ◌++◌, length}
use Rattle.bits.specs.Make.{most_bytes}
use Rattle.table.specs.Loading.{loaded}
use Rattle.embed.specs.Folding.{sum_with}
use Rattle.embed.specs.Sources.{byte_bits, too_long}
use Rattle.embed.specs.Told.{Unfolded, FoldedThrough}
use Rattle.embed.proofs.Told.{stream_told}
use Rattle.embed.proofs.over.jilafotra_sum_join.Goals as goal

pub returns : goal.returns
returns c =
    stream_told (Unfolded c.folded.result) (FoldedThrough sum_with 0 c.folded.result) _ (byte_bits c.args.front.now ++ byte_bits c.args.back.now)
    (too_long most_bytes (length c.args.front.now + length c.args.back.now)) (loaded c.args.description.now) c.load.result c.join.result c.load.ensures c.join.ensures c.folded.ensures
