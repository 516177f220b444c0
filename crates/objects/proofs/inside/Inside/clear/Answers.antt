use Rattle.objects.proofs.Begins.{zeros}
use Rattle.objects.proofs.Sames.{same-inner}
use Rattle.objects.proofs.inside.Inside.clear.Goals as goal

pub returns : goal.returns
returns c = same-inner c.clear.ensures (zeros 128)
