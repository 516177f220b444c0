use Rattle.std.proofs.Common.{refl}
use Rattle.rules.proofs.ByTests.{grown_means}
use Rattle.rules.proofs.Objects.{growth_law, copy_law}
use Rattle.rules.proofs.Depths.{depth_law}
use Rattle.rules.proofs.Parts.{parts_law}
use Rattle.rules.proofs.laws.growth_law.Goals as goal

pub returns : goal.returns
returns c = record { answer = refl; means = grown_means; whole = growth_law; parts = parts_law; copies = copy_law; depth = depth_law }
