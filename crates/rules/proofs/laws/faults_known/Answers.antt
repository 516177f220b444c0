use Rattle.std.proofs.Common.{refl}
use Rattle.rules.proofs.Fines.{faults_known}
use Rattle.rules.proofs.laws.faults_known.Goals as goal

pub returns : goal.returns
returns c = record { answer = refl; law = faults_known }
