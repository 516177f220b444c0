use Rattle.std.proofs.Common.{Err, sym, ap, ◌∙◌, arith}
use Rattle.steps.proofs.Takes.{taken_short, taken_told}
use Rattle.steps.proofs.view.View.taken.Goals as goal

pub returns-then-from : goal.returns-then-from
returns-then-from g c = record { bound = tt; value = ap Err c.ends.ensures ∙ sym (taken_short (g.S.Source.bits c.args.self.now.source.now) c.args.self.now.window c.args.n c.args.p (omega arith)) }

pub returns : goal.returns
returns g c =
    let t = taken_told (g.S.Source.bits c.args.self.now.source.now) c.args.self.now.window c.args.n c.args.p c.get.result c.map_err.result _ c.get.ensures c.requires.narrow (omega arith) c.args.self.now.within c.map_err.ensures.cases in
    record { value = t.0; bound = t.1 }
