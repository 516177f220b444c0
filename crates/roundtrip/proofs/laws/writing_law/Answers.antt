use Rattle.std.proofs.Common.{refl}
use Rattle.roundtrip.proofs.Lifted.{standing_law}
use Rattle.roundtrip.proofs.Local.{local_law}
use Rattle.roundtrip.proofs.Bridge.{rule_law, finish_law, newer_law}
use Rattle.roundtrip.proofs.Agree.{least, looks}
use Rattle.roundtrip.proofs.Trials.{trial_holds}
use Rattle.roundtrip.proofs.Round.{writing_law, test_law}
use Rattle.roundtrip.proofs.laws.writing_law.Goals as goal

pub returns : goal.returns
returns c = record { answer = refl; unseen = local_law; standing = standing_law; tested = test_law; written = writing_law; ruled = rule_law; finished = finish_law; newer = newer_law; fewest = least; looks = looks; tried = trial_holds }
