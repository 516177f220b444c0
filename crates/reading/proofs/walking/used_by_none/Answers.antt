use Rattle.reading.proofs.Entering.{same_using}
use Rattle.reading.proofs.walking.used_by_none.Goals as goal

pub returns : goal.returns
returns c = same_using 0 c.args.class 0 0 0 _ _
