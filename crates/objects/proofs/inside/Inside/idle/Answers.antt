use Rattle.objects.proofs.Begins.{zeros}
use Rattle.objects.proofs.Sames.{same-inner}
use Rattle.objects.proofs.inside.Inside.idle.Goals as goal

pub returns : goal.returns
returns c = same-inner c.new.ensures (zeros 128)
