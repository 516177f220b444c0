use Rattle.std.proofs.Common.{rules, refl}
use Rattle.passes.proofs.Searches.{ones, found}
use Rattle.passes.proofs.first.first.Goals as goal

pub returns : goal.returns
returns g c = λ p h. found c.args.count c.map.result (ones c.args.count _ refl refl _ _ (search rules) c.map.result c.map.ensures.runs) _ _ p (search rules) c.find.result c.find.ensures.runs
