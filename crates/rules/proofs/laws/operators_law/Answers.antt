use Rattle.std.proofs.Common.{refl}
use Rattle.rules.proofs.Ranges.{operators_law}
use Rattle.rules.proofs.laws.operators_law.Goals as goal

pub returns : goal.returns
returns c = record { answer = refl; law = operators_law }
