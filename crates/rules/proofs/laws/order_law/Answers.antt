use Rattle.std.proofs.Common.{refl, ap}
use Rattle.rules.specs.Reading.{reading}
use Rattle.rules.proofs.WholeBytes.{bytes}
use Rattle.rules.proofs.Orderly.{order_law, window_law}
use Rattle.rules.proofs.laws.order_law.Goals as goal

pub returns : goal.returns
returns c = record { answer = refl; items = order_law; windows = window_law; bytes = bytes; alone = λ d _ _ e. ap (reading d) e }
