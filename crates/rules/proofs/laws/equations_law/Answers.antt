use Rattle.std.proofs.Common.{refl}
use Rattle.rules.proofs.Equations.{code_step, value_step}
use Rattle.rules.proofs.laws.equations_law.Goals as goal

pub returns : goal.returns
returns c = record { answer = refl; code = code_step; values = value_step }
