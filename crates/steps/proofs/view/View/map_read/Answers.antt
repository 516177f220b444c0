use Rattle.std.proofs.Common.{arith, to_z-of_z, w64, SFits, rules}
use Rattle.std.proofs.lemmas.Result.{err_from_is_err_and}
use Rattle.rules.specs.Lookups.{find_row}
use Rattle.steps.proofs.MapRead.{mapped_no_index, mapped_no_row, mapped_got}
use Rattle.steps.proofs.view.View.map_read.Goals as goal

pub returns-in_err-index : goal.returns-in_err-index
returns-in_err-index g c =
    let p = err_from_is_err_and c.from_residual.result c.from_residual.ensures.1 in
    let t = rw c.from-length.ensures at c.in_err-index.ensures.value in
    rw (p.1, p.2) (record { value = λ d e. mapped_no_index (g.S.Source.bits c.args.self.now.source.now) c.args.self.now.window c.args.map.width (find_row d c.args.map.first c.args.map.number) c.args.p _ t; bound = tt })

pub returns-in_err-value : goal.returns-in_err-value
returns-in_err-value g c =
    let p = err_from_is_err_and c.from_residual-in_err-value.result c.from_residual-in_err-value.ensures.1 in
    let t = rw c.from-length.ensures at c.in_ok-index.ensures.value in
    rw (p.1, p.2) (record { value = λ d e. mapped_no_row (g.S.Source.bits c.args.self.now.source.now) c.args.self.now.window c.args.map.width (find_row d c.args.map.first c.args.map.number) c.args.p c.in_ok-index.index t _ (rw c.from.ensures at c.in_err-value.ensures d e); bound = tt })

pub returns : goal.returns
returns g c =
    let t = rw c.from-length.ensures at c.in_ok-index.ensures.value in
    let fv : SFits w64 c.in_ok-value.value = search rules in
    rw c.from-length.ensures (simp to_z-of_z (record {
      value = λ d e. mapped_got (g.S.Source.bits c.args.self.now.source.now) c.args.self.now.window c.args.map.width (find_row d c.args.map.first c.args.map.number) c.args.p c.in_ok-index.index t c.in_ok-value.value (rw c.from.ensures at c.in_ok-value.ensures d e);
      bound = record {
        ahead = omega arith;
        kept = omega arith;
        most = omega arith;
        within = omega (arith, c.from-length.ensures, c.in_ok-index.ensures.bound.1);
      };
    }))
