use Rattle.std.proofs.Common.{◌≡◌, ◌-◌, Ok, Err, Result, sym, ap, ◌∙◌, arith}
use Rattle.steps.proofs.Takes.{zero_told, aligned_short, none_zero, aligned_zero, aligned-set}
use Rattle.steps.proofs.view.View.aligned.Goals as goal

ok_injective : {A E : Type 0} {x y : A} → ◌≡◌ {A = Result A E} (Ok x) (Ok y) → x ≡ y
ok_injective e = grind arith

pub returns-then-q-self : goal.returns-then-q-self
returns-then-q-self g c =
    let e = c.next_multiple-q.ensures.value in
    record {
      value =
          ap Err c.ends.ensures
          ∙ sym (aligned_short (g.S.Source.bits c.args.self.now.source.now) c.args.self.now.window c.args.to c.args.p (rw (← e) c.next_multiple-q.ensures.bound) (rw (← e) c.if-q-self.true));
      bound = tt;
    }

pub returns-then-q-p : goal.returns-then-q-p
returns-then-q-p g c =
    let bits = g.S.Source.bits c.args.self.now.source.now in
    let e = c.next_multiple-q.ensures.value in
    record {
      value =
          ap Ok e
          ∙ sym (aligned_zero bits c.args.self.now.window c.args.to c.args.p (rw (← e) c.next_multiple-q.ensures.bound) (rw (← e) c.if-q-self.false)
          (rw (← e) (none_zero bits c.args.p (c.next_multiple-q.result - c.args.p) (omega arith))));
      bound = (c.next_multiple-q.ensures.bound, c.if-q-self.false);
    }

pub returns-then-branch : goal.returns-then-branch
returns-then-branch g c =
    let bits = g.S.Source.bits c.args.self.now.source.now in
    let e = c.next_multiple-q.ensures.value in
    let within = c.args.self.now.within in
    let later = c.next_multiple-q.ensures.bound in
    let z = zero_told (g.S.Source.bits c.args.self.now.source.now) c.args.p (c.next_multiple-q.result - c.args.p) c.is_zero.result c.map_err.result _ c.is_zero.ensures (omega arith) c.map_err.ensures.cases in
    record {
      value =
          ap Ok e
          ∙ sym (aligned_zero bits c.args.self.now.window c.args.to c.args.p (rw (← e) c.next_multiple-q.ensures.bound) (rw (← e) c.if-q-self.false)
          (rw (← e) (sym (ok_injective (sym c.in_ok-map_err.was ∙ z)) ∙ c.if-branch.true)));
      bound = (c.next_multiple-q.ensures.bound, c.if-q-self.false);
    }

pub returns-else-branch : goal.returns-else-branch
returns-else-branch g c =
    let bits = g.S.Source.bits c.args.self.now.source.now in
    let e = c.next_multiple-q.ensures.value in
    let within = c.args.self.now.within in
    let later = c.next_multiple-q.ensures.bound in
    let z = zero_told (g.S.Source.bits c.args.self.now.source.now) c.args.p (c.next_multiple-q.result - c.args.p) c.is_zero.result c.map_err.result _ c.is_zero.ensures (omega arith) c.map_err.ensures.cases in
    record {
      value =
          ap Err c.into.ensures ∙
          sym (aligned-set bits c.args.self.now.window c.args.to c.args.p (rw (← e) c.next_multiple-q.ensures.bound) (rw (← e) c.if-q-self.false)
          (rw (← e) (sym (ok_injective (sym c.in_ok-map_err.was ∙ z)) ∙ c.if-branch.false)));
      bound = tt;
    }
