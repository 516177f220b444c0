use Rattle.embed.proofs.Sources.{join_gives}
use Rattle.embed.proofs.over.join.Goals as goal

pub returns : goal.returns
returns c = join_gives _ c.new-3.result c.args.front.now c.args.back.now _ _ c.in_ok-new.ensures.0 c.in_ok-new-2.ensures.0 c.new-3.ensures
