use Rattle.std.proofs.Common.{◌+◌, ◌*◌, ◌<◌, ◌≤◌, length, ◌∙◌}
use Rattle.std.proofs.lemmas.Result.{err_from_is_err_and}
use Rattle.std.proofs.lemmas.Bool.{le-ltb, lt-ltb}
use Rattle.bits.specs.Bits.{longest, length-bits_all}
use Rattle.bits.specs.Make.{most_bytes}
use Rattle.sources.proofs.joined.get_joined.Goals as goal

pub returns-in_err-both : goal.returns-in_err-both
returns-in_err-both c =
    let xs = c.args.front.now in
    let ys = c.args.back.now in
    let a = c.in_ok-first.ensures in
    let b = c.in_ok-second.ensures in
    let why = c.in_err-both.ensures in
    let e = err_from_is_err_and c.from_residual-in_err-both.result c.from_residual-in_err-both.ensures.1 in
    let many : longest < length xs * 8 + length ys * 8 = rw (a.0, b.0, length-bits_all 8 xs, length-bits_all 8 ys) at why.1 in
    rw (e.1, e.2, why.0, le-ltb most_bytes (length xs) a.1, le-ltb most_bytes (length ys) b.1, lt-ltb longest (length xs * 8 + length ys * 8) many)

pub returns : goal.returns
returns c =
    let xs = c.args.front.now in
    let ys = c.args.back.now in
    let a = c.in_ok-first.ensures in
    let b = c.in_ok-second.ensures in
    let j = c.in_ok-both.ensures in
    let few : length xs * 8 + length ys * 8 ≤ longest = rw (a.0, b.0, length-bits_all 8 xs, length-bits_all 8 ys) at j.1 in
    c.get.ensures ∙ rw (j.0, a.0, b.0, le-ltb most_bytes (length xs) a.1, le-ltb most_bytes (length ys) b.1, le-ltb longest (length xs * 8 + length ys * 8) few)
