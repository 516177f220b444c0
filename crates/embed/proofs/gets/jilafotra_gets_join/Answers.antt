use Rattle.std.specs.Prelude.{◌+◌, ◌++◌, length}
use Rattle.std.proofs.Common.{◌∙◌}
use Rattle.bits.specs.Make.{most_bytes}
use Rattle.embed.specs.Sources.{byte_bits, too_long}
use Rattle.embed.proofs.Swept.{swept_by}
use Rattle.embed.proofs.gets.jilafotra_gets_join.Goals as goal

pub returns : goal.returns
returns c =
    c.gets.ensures
    ∙ swept_by _ (byte_bits c.args.front.now ++ byte_bits c.args.back.now) (too_long most_bytes (length c.args.front.now + length c.args.back.now)) c.args.rounds c.join.result c.join.ensures
