use Rattle.std.proofs.Common.{refl}
use Rattle.rules.proofs.Tidily.{tidy_law}
use Rattle.rules.proofs.laws.tidy_law.Goals as goal

pub returns : goal.returns
returns c = record { answer = refl; law = tidy_law }
