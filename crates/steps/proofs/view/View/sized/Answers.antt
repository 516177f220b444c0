use Rattle.std.proofs.Common.{Err, sym, ap, ◌∙◌, arith}
use Rattle.std.proofs.lemmas.Result.{err_from_is_err_and}
use Rattle.steps.proofs.Sizes.{sized_none, sized_fails, sized_large, sized_past, sized_fits}
use Rattle.steps.proofs.view.View.sized.Goals as goal

pub returns-then-greatest-eq0 : goal.returns-then-greatest-eq0
returns-then-greatest-eq0 g c =
    record {
      value = sym (sized_none (g.S.Source.bits c.args.self.now.source.now) c.args.self.now.window c.args.greatest c.args.p c.if-greatest-eq0.true);
      bound = (omega arith, omega arith, omega arith);
    }

pub returns-in_err-size : goal.returns-in_err-size
returns-in_err-size g c =
    let p = err_from_is_err_and c.from_residual.result c.from_residual.ensures.1 in
    rw (p.1, p.2) (record { value = sized_fails (g.S.Source.bits c.args.self.now.source.now) c.args.self.now.window c.args.greatest c.args.p (omega arith) _ c.in_err-size.ensures.value; bound = tt })

pub returns-then-size-greatest : goal.returns-then-size-greatest
returns-then-size-greatest g c =
    record {
      value = ap Err c.into.ensures ∙ sized_large (g.S.Source.bits c.args.self.now.source.now) c.args.self.now.window c.args.greatest c.args.p (omega arith) c.in_ok-size.size c.in_ok-size.after c.in_ok-size.ensures.value c.if-size-greatest.true;
      bound = tt;
    }

pub returns-then-after-size : goal.returns-then-after-size
returns-then-after-size g c =
    record {
      value = ap Err c.into-then-after-size.ensures ∙ sized_past (g.S.Source.bits c.args.self.now.source.now) c.args.self.now.window c.args.greatest c.args.p (omega arith) c.in_ok-size.size c.in_ok-size.after c.in_ok-size.ensures.value c.if-size-greatest.false c.if-after-size.true;
      bound = tt;
    }

pub returns : goal.returns
returns g c =
    record {
      value = sized_fits (g.S.Source.bits c.args.self.now.source.now) c.args.self.now.window c.args.greatest c.args.p (omega arith) c.in_ok-size.size c.in_ok-size.after c.in_ok-size.ensures.value c.if-size-greatest.false c.if-after-size.false;
      bound = (c.if-size-greatest.false, c.in_ok-size.ensures.bound.1, c.if-after-size.false);
    }
