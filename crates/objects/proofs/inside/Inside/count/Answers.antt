use Rattle.std.proofs.Common.{rules, ap, ◌∙◌, w64, SFits, to_z-of_z}
use Rattle.std.specs.Option.{ok_or}
use Rattle.std.proofs.lemmas.Result.{err_from_is_err_and}
use Rattle.rules.specs.Checks.{then}
use Rattle.rules.specs.Steps.{natural}
use Rattle.steps.proofs.Naturals.{counted}
use Rattle.objects.proofs.inside.Inside.count.Goals as goal

pub returns : goal.returns
returns g c =
    let f : SFits w64 c.in_ok-value.field-0 = search rules in
    let t = simp (to_z-of_z f) at c.try_from.ensures in
    let r = c.ok_or.ensures.value ∙ λ i. ok_or (c.ok.ensures.value i) (c.into.ensures i) in
    counted c.in_ok-value.field-0 c.try_from.result t r ∙ ap (natural 65535) c.in_ok-value.ensures

pub returns-in_err-value : goal.returns-in_err-value
unfolding natural then
returns-in_err-value g c =
    let p = err_from_is_err_and c.from_residual.result c.from_residual.ensures.1 in
    rw (p.1, p.2) (ap (natural 65535) c.in_err-value.ensures)
