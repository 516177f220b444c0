use Rattle.std.proofs.Common.{refl, arith}
use Rattle.objects.specs.Tops.{tops}
use Rattle.reading.specs.Walks.{objects_of, AllFit, Sound}
use Rattle.reading.proofs.walk.Walk.new.Goals as goal

pub returns : goal.returns
unfolding Sound objects_of AllFit tops
returns c = ((λ d bits. refl), (λ d. (tt, omega arith)), refl)
