use Rattle.std.proofs.Common.{refl}
use Rattle.rules.proofs.Samples.{cases_hold}
use Rattle.rules.proofs.laws.cases_hold.Goals as goal

pub returns : goal.returns
returns c = record { answer = refl; law = cases_hold }
