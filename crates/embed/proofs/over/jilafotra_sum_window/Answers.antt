use Rattle.std.specs.Prelude.{length}
use Rattle.bits.specs.Bits.{part}
use Rattle.table.specs.Loading.{loaded}
use Rattle.embed.specs.Folding.{sum_with}
use Rattle.embed.specs.Sources.{byte_bits, no_window}
use Rattle.embed.specs.Told.{Unfolded, FoldedThrough}
use Rattle.embed.proofs.Told.{stream_told}
use Rattle.embed.proofs.over.jilafotra_sum_window.Goals as goal

pub returns : goal.returns
returns c =
    stream_told (Unfolded c.folded.result) (FoldedThrough sum_with 0 c.folded.result) _ (part (byte_bits c.args.bytes.now) c.args.first c.args.count)
    (no_window (length c.args.bytes.now) c.args.first c.args.count) (loaded c.args.description.now) c.load.result c.window.result c.load.ensures c.window.ensures c.folded.ensures
