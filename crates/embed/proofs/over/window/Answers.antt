use Rattle.embed.proofs.Sources.{window_gives}
use Rattle.embed.proofs.over.window.Goals as goal

pub returns : goal.returns
returns c = window_gives _ c.new-2.result _ c.args.bytes.now c.args.first c.args.count c.in_ok-new.ensures.0 c.in_ok-new.ensures.1 c.new-2.ensures
