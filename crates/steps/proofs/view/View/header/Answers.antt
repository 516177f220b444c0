use Rattle.std.proofs.Common.{arith}
use Rattle.std.proofs.lemmas.Result.{err_from_is_err_and}
use Rattle.steps.proofs.Sizes.{header_unaligned, header_no_id, header_no_size, header_whole}
use Rattle.steps.proofs.view.View.header.Goals as goal

pub returns-in_err-place : goal.returns-in_err-place
returns-in_err-place g c =
    let p = err_from_is_err_and c.from_residual.result c.from_residual.ensures.1 in
    let e = rw c.alignment.ensures at c.in_err-place.ensures.value in
    rw (p.1, p.2) (record { value = header_unaligned (g.S.Source.bits c.args.self.now.source.now) c.args.self.now.window c.args.declared c.args.greatest c.args.p _ e; bound = tt })

pub returns-in_err-id : goal.returns-in_err-id
returns-in_err-id g c =
    let p = err_from_is_err_and c.from_residual-in_err-id.result c.from_residual-in_err-id.ensures.1 in
    let e = rw c.alignment.ensures at c.in_ok-place.ensures.value in
    let t = rw c.id_width-width.ensures.value at c.in_err-id.ensures.value in
    rw (p.1, p.2) (record { value = header_no_id (g.S.Source.bits c.args.self.now.source.now) c.args.self.now.window c.args.declared c.args.greatest c.args.p c.in_ok-place.place e _ t; bound = tt })

pub returns-in_err-size : goal.returns-in_err-size
returns-in_err-size g c =
    let p = err_from_is_err_and c.from_residual-in_err-size.result c.from_residual-in_err-size.ensures.1 in
    let e = rw c.alignment.ensures at c.in_ok-place.ensures.value in
    let t = rw c.id_width-width.ensures.value at c.in_ok-id.ensures.value in
    let s = rw c.id_width-width.ensures.value at c.in_err-size.ensures.value in
    rw (p.1, p.2) (record { value = header_no_size (g.S.Source.bits c.args.self.now.source.now) c.args.self.now.window c.args.declared c.args.greatest c.args.p c.in_ok-place.place e c.in_ok-id.field-0 t _ s; bound = tt })

pub returns : goal.returns
returns g c =
    let e = rw c.alignment.ensures at c.in_ok-place.ensures.value in
    let t = rw c.id_width-width.ensures.value at c.in_ok-id.ensures.value in
    let s = rw c.id_width-width.ensures.value at c.in_ok-size.ensures.value in
    let b = c.in_ok-size.ensures.bound in
    record {
      value = header_whole (g.S.Source.bits c.args.self.now.source.now) c.args.self.now.window c.args.declared c.args.greatest c.args.p c.in_ok-place.place e c.in_ok-id.field-0 t c.in_ok-size.size c.in_ok-size.after s;
      bound = (c.in_ok-place.ensures.bound.0, omega (arith, b.1), b.2);
    }
