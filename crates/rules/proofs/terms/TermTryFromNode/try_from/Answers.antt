use Rattle.std.proofs.Common.{◌≡◌, ℕ, Some, None, Option, Ok, Err, arith}
use Rattle.std.specs.Option.{ok_or}
use Rattle.std.proofs.lemmas.Bool.Decides.{nat_tests}
use Rattle.std.proofs.lemmas.Result.{err_from_is_err_and}
use Rattle.rules.specs.declared.terms.Operator.{Operator}
use Rattle.rules.specs.declared.terms.Term.TheVariants.{Apply}
use Rattle.rules.specs.declared.terms.UnknownOperator.{UnknownOperator}
use Rattle.rules.specs.Numbers.{operator_with}
use Rattle.rules.specs.Terms.{term, applying}
use Rattle.rules.proofs.terms.TermTryFromNode.try_from.Goals as goal

at_some : (a b : ℕ) (o : Option Operator) (x : Operator) (u : UnknownOperator) → Ok x ≡ ok_or o u → Ok (Apply x a b) ≡ ok_or (applying o a b) u
at_some a b (Some y) x u e = grind arith
at_some a b None x u e = grind arith

at_none : (a b : ℕ) (o : Option Operator) (f u : UnknownOperator) → Err f ≡ ok_or o u → Err f ≡ ok_or (applying o a b) u
at_none a b (Some y) f u e = grind arith
at_none a b None f u e = grind arith

pub returns-in-1 : goal.returns-in-1
unfolding term
returns-in-1 c = grind (arith, nat_tests)

pub returns-in-2 : goal.returns-in-2
unfolding term
returns-in-2 c = grind (arith, nat_tests)

pub returns-in-3 : goal.returns-in-3
unfolding term
returns-in-3 c = grind (arith, nat_tests)

pub returns-in_err-try_from-in_default : goal.returns-in_err-try_from-in_default
unfolding term
returns-in_err-try_from-in_default c =
    let p = err_from_is_err_and c.from_residual.result c.from_residual.ensures.1 in
    let e = at_none c.args.node.a c.args.node.b (operator_with c.args.node.op) _ _ c.in_err-try_from-in_default.ensures in
    rw (p.1, p.2) (grind (arith, nat_tests, e))

pub returns-in_ok-try_from-in_default : goal.returns-in_ok-try_from-in_default
unfolding term
returns-in_ok-try_from-in_default c =
    let e = at_some c.args.node.a c.args.node.b (operator_with c.args.node.op) _ _ c.in_ok-try_from-in_default.ensures in
    grind (arith, nat_tests, e)
