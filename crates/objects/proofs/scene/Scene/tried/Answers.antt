use Rattle.std.proofs.Common.{of_calls, rules}
use Rattle.objects.proofs.Tries.{told_at}
use Rattle.objects.proofs.scene.Scene.tried.Goals as goal

pub returns : goal.returns
returns g c = told_at c.args.line c.args.self.now.place c.args.step c.map_err.result _ (λ f y q. search (rules, of_calls)) c.map_err.ensures.cases
