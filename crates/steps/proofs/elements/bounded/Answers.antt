use Rattle.std.proofs.Common.{Err, sym, ap, ◌∙◌, arith, rules, to_z-of_z, w64, SFits}
use Rattle.std.proofs.lemmas.Result.{err_from_is_err_and}
use Rattle.values.specs.Scopes.{value_in}
use Rattle.steps.proofs.Bounds.{bound_fails, bound_broken, bound_kept}
use Rattle.steps.proofs.elements.bounded.Goals as goal

pub returns-in_err-value : goal.returns-in_err-value
returns-in_err-value g c = λ kept a.
    let p = err_from_is_err_and c.from_residual.result c.from_residual.ensures.1 in
    rw (p.1, p.2) (bound_fails c.args.node (value_in c.args.scope.now c.args.node) kept (omega arith) _ c.in_err-value.ensures)

pub returns-then-call : goal.returns-then-call
returns-then-call g c = λ kept a.
    let f : SFits w64 c.in_ok-value.field-0 = search rules in
    bound_kept c.args.node (value_in c.args.scope.now c.args.node) kept (omega arith) _ c.in_ok-value.ensures (ap kept (sym (to_z-of_z f)) ∙ sym (a _ _ c.call.ensures) ∙ c.if-call.true)

pub returns : goal.returns
returns g c = λ kept a.
    let f : SFits w64 c.in_ok-value.field-0 = search rules in
    ap Err c.into.ensures
    ∙ bound_broken c.args.node (value_in c.args.scope.now c.args.node) kept (omega arith) _ c.in_ok-value.ensures (ap kept (sym (to_z-of_z f)) ∙ sym (a _ _ c.call.ensures) ∙ c.if-call.false)
