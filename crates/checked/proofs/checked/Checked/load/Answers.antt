use Rattle.std.proofs.lemmas.Result.{err_from_is_err_and}
use Rattle.table.specs.Loading.{loaded}
use Rattle.checked.proofs.Loaded.{not_loaded, then_checked}
use Rattle.checked.proofs.checked.Checked.load.Goals as goal

pub returns-in_err-load : goal.returns-in_err-load
returns-in_err-load c =
    let p = err_from_is_err_and c.from_residual.result c.from_residual.ensures.1 in
    rw (p.1, p.2) (not_loaded (loaded c.args.bytes.now) _ c.in_err-load.ensures)

pub returns : goal.returns
returns c = then_checked (loaded c.args.bytes.now) c.in_ok-load.field-0 c.new.result c.in_ok-load.ensures c.new.ensures
