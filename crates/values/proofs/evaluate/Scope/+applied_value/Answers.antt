use Rattle.std.proofs.Common.{of_calls, ◌≡◌, ℕ, ℤ, pos, Some, None, Option, Ok, Err, sym, ap, arith, ◌∙◌, to_z-of_z, w64, SFits, rules}
use Rattle.std.proofs.lemmas.Result.{err_from_is_err_and}
use Rattle.std.specs.Result.{MatchResult, IsErrAnd}
use Rattle.std.specs.Option.{ok_or}
use Rattle.rules.specs.declared.faults.ReadingCause.{ReadingCause}
use Rattle.rules.specs.declared.faults.ReadingCause.TheVariants.{Unchecked}
use Rattle.rules.specs.declared.faults.Failure.{Failure}
use Rattle.rules.specs.declared.terms.Term.{Term}
use Rattle.rules.specs.Checks.{Check, then}
use Rattle.rules.specs.Values.{Worked, of_node}
use Rattle.values.specs.Names.{named_by}
use Rattle.values.proofs.Steps.{at_constant, at_named, at_size, at_none, at_apply, left_missing, left_fails, right_missing, both_come}
use Rattle.values.proofs.evaluate.Scope.+applied_value.Goals as goal

mapped : (k : ℕ) (r : Worked) (m : Check ℤ) (Gives : ReadingCause → Failure → Type 0) → ((e : ReadingCause) (y : Failure) → Gives e y → y ≡ record { cause = e; node = k }) →
    MatchResult r (λ x. m ≡ Ok x) (λ e. IsErrAnd m (Gives e)) → m ≡ of_node k r
mapped k (Ok v) m Gives to h = h
mapped k (Err e) m Gives to h = let p = err_from_is_err_and m h in p.1 ∙ ap Err (to e _ p.2)

pub applied-returns-then-left-k : goal.applied-returns-then-left-k
applied-returns-then-left-k t c =
    ap Err c.into.ensures ∙ left_missing c.args.self.now.nodes.now c.args.self.now.size (named_by c.args.self.now.names.now) c.args.k c.args.operator c.args.left c.args.right c.if-left-k.true

pub applied-returns-in_err-x : goal.applied-returns-in_err-x
applied-returns-in_err-x t c =
    let p = err_from_is_err_and c.from_residual.result c.from_residual.ensures.1 in
    rw (p.1, p.2) (left_fails c.args.self.now.nodes.now c.args.self.now.size (named_by c.args.self.now.names.now) c.args.k c.args.operator c.args.left c.args.right c.if-left-k.false c.in_err-x.ensures)

pub applied-returns-then-right-k : goal.applied-returns-then-right-k
applied-returns-then-right-k t c =
    ap Err c.into-then-right-k.ensures ∙ right_missing c.args.self.now.nodes.now c.args.self.now.size (named_by c.args.self.now.names.now) c.args.k c.args.operator c.args.left c.args.right c.if-left-k.false c.in_ok-x.ensures c.if-right-k.true

pub applied-returns-in_err-y : goal.applied-returns-in_err-y
unfolding then
applied-returns-in_err-y t c =
    let p = err_from_is_err_and c.from_residual-in_err-y.result c.from_residual-in_err-y.ensures.1 in
    rw (p.1, p.2) (both_come c.args.self.now.nodes.now c.args.self.now.size (named_by c.args.self.now.names.now) c.args.k c.args.operator c.args.left c.args.right c.if-left-k.false c.in_ok-x.ensures c.if-right-k.false c.in_err-y.ensures)

pub applied-returns : goal.applied-returns
unfolding then
applied-returns t c =
    let fx : SFits w64 c.in_ok-x.x = search rules in
    let fy : SFits w64 c.in_ok-y.y = search rules in
    let b = both_come c.args.self.now.nodes.now c.args.self.now.size (named_by c.args.self.now.names.now) c.args.k c.args.operator c.args.left c.args.right c.if-left-k.false c.in_ok-x.ensures c.if-right-k.false c.in_ok-y.ensures in
    let e = simp (to_z-of_z fx, to_z-of_z fy) at c.apply.ensures in
    mapped c.args.k c.apply.result c.map_err.result _ (λ e y q. search (rules, of_calls)) c.map_err.ensures.cases ∙ ap (of_node c.args.k) e ∙ b

failed : (e cause : ReadingCause) (o : Option Term) → Err e ≡ ok_or o cause → e ≡ cause
failed e cause (Some t) h = grind arith
failed e cause None h = grind arith

pub value-returns-in-Constant : goal.value-returns-in-Constant
value-returns-in-Constant t c =
    let f : SFits w64 c.from.result = search rules in
    let e : c.from.result ≡ pos c.in-Constant.value = search rules in
    ap Ok (to_z-of_z f ∙ e) ∙ at_constant c.args.self.now.nodes.now c.args.self.now.size (named_by c.args.self.now.names.now) c.args.k _ (ap Some (sym c.in-Constant.is) ∙ sym c.in_ok-value.ensures.ok_part ∙ c.term.ensures)

pub value-returns-in-Named : goal.value-returns-in-Named
value-returns-in-Named t c =
    let f : SFits w64 c.name_at.result = search rules in
    ap Ok (to_z-of_z f ∙ c.name_at.ensures) ∙ at_named c.args.self.now.nodes.now c.args.self.now.size (named_by c.args.self.now.names.now) c.args.k _ (ap Some (sym c.in-Named.is) ∙ sym c.in_ok-value.ensures.ok_part ∙ c.term.ensures)

pub value-returns-in-OwnSize : goal.value-returns-in-OwnSize
value-returns-in-OwnSize t c =
    let f : SFits w64 c.from-in-OwnSize.result = search rules in
    let e : c.from-in-OwnSize.result ≡ pos c.args.self.now.size = search rules in
    ap Ok (to_z-of_z f ∙ e) ∙ at_size c.args.self.now.nodes.now c.args.self.now.size (named_by c.args.self.now.names.now) c.args.k (ap Some (sym c.in-OwnSize.is) ∙ sym c.in_ok-value.ensures.ok_part ∙ c.term.ensures)

pub value-returns-in-Apply : goal.value-returns-in-Apply
value-returns-in-Apply t c =
    c.applied.ensures ∙ at_apply c.args.self.now.nodes.now c.args.self.now.size (named_by c.args.self.now.names.now) c.args.k c.in-Apply.operator c.in-Apply.left c.in-Apply.right (ap Some (sym c.in-Apply.is) ∙ sym c.in_ok-value.ensures.ok_part ∙ c.term.ensures)

pub value-returns-in_err-value : goal.value-returns-in_err-value
value-returns-in_err-value t c =
    let p = err_from_is_err_and c.from_residual.result c.from_residual.ensures.1 in
    let e = c.in_err-value.ensures.ok_part in
    rw (p.1, p.2, failed _ Unchecked c.term.result c.in_err-value.ensures.value)
    (at_none c.args.self.now.nodes.now c.args.self.now.size (named_by c.args.self.now.names.now) c.args.k (sym e ∙ c.term.ensures))
