use Rattle.std.proofs.Common.{◌∙◌}
use Rattle.growth.proofs.Stands.{begins_with}
use Rattle.growth.proofs.same.stands.Goals as goal

pub returns : goal.returns
returns g c =
    c.starts_with.ensures.value ∙ begins_with g.R.PartialEq.eq g.R.Fields.fields g.met.R.Fields.equal c.args.older.now c.args.newer.now
