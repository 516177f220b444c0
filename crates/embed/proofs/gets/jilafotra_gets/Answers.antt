use Rattle.std.specs.Prelude.{length}
use Rattle.std.proofs.Common.{◌∙◌}
use Rattle.bits.specs.Make.{most_bytes}
use Rattle.embed.specs.Sources.{byte_bits, too_long}
use Rattle.embed.proofs.Sources.{units_give}
use Rattle.embed.proofs.Swept.{swept_by}
use Rattle.embed.proofs.gets.jilafotra_gets.Goals as goal

pub returns : goal.returns
returns c =
    c.gets.ensures
    ∙ swept_by _ (byte_bits c.args.bytes.now) (too_long most_bytes (length c.args.bytes.now)) c.args.rounds c.new.result
    (units_give _ c.new.result (byte_bits c.args.bytes.now) (length c.args.bytes.now) most_bytes c.new.ensures)
