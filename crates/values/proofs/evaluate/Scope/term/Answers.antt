use Rattle.std.proofs.Common.{◌≡◌, None, sym, refl, ap, ◌∙◌}
use Rattle.rules.specs.Terms.{term}
use Rattle.table.specs.Description.{no_node}
use Rattle.values.proofs.evaluate.Scope.term.Goals as goal

none_is : None ≡ term no_node
unfolding term
none_is = refl

pub returns-in_err-numbered : goal.returns-in_err-numbered
returns-in_err-numbered c = rw c.from_residual.ensures (none_is ∙ sym (ap term (c.in_err-numbered.ensures no_node)))
