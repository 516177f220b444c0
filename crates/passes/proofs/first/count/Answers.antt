use Rattle.std.proofs.Common.{rules, refl}
use Rattle.passes.proofs.Searches.{ones, passed}
use Rattle.passes.proofs.first.count.Goals as goal

pub returns-clause-value : goal.returns-clause-value
returns-clause-value g c = λ p h. passed c.args.count c.map.result (ones c.args.count _ refl refl _ _ (search rules) c.map.result c.map.ensures.runs) _ _ p (search rules) c.count.result c.filter.result c.count.ensures.runs c.filter.ensures.runs
