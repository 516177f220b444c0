use Rattle.bits.proofs.ListLaws.{laws}
use Rattle.bits.proofs.laws.laws_hold.Goals as goal

pub returns : goal.returns
returns c = laws
