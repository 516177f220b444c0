use Rattle.std.specs.Prelude.{length}
use Rattle.std.proofs.Common.{◌∙◌}
use Rattle.bits.specs.Bits.{part}
use Rattle.embed.specs.Sources.{byte_bits, no_window}
use Rattle.embed.proofs.Swept.{swept_by}
use Rattle.embed.proofs.gets.jilafotra_gets_window.Goals as goal

pub returns : goal.returns
returns c =
    c.gets.ensures
    ∙ swept_by _ (part (byte_bits c.args.bytes.now) c.args.first c.args.count) (no_window (length c.args.bytes.now) c.args.first c.args.count) c.args.rounds c.window.result c.window.ensures
