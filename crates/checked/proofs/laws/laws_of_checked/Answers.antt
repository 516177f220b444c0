use Rattle.checked.proofs.Chained.{chained}
use Rattle.checked.proofs.Held.{faultless}
use Rattle.checked.proofs.Nest.{nests}
use Rattle.checked.proofs.Owned.{owns}
use Rattle.checked.proofs.Sounds.{sound}
use Rattle.checked.proofs.Ranks.{ranked}
use Rattle.checked.proofs.laws.laws_of_checked.Goals as goal

pub returns : goal.returns
returns c =
    record { faultless = faultless; nests = nests; owns = owns; sound = sound; ranked = ranked; chains = chained }
