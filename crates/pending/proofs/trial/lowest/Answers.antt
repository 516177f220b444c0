use Rattle.std.proofs.Common.{◌^◌, ◌<◌, ◌≤◌, sym, mod-eq_of_lt, arith, pow_mono}
use Rattle.std.proofs.lemmas.Nat.{one_shl, and_mask}
use Rattle.pending.proofs.trial.lowest.Goals as goal

pub returns-in-None : goal.returns-in-None
returns-in-None c =
    let wide : c.args.n < 64 → ⊥ = c.in-None.ensures in
    let h : 2 ^ 64 ≤ 2 ^ c.args.n = pow_mono (let k : 64 ≤ c.args.n = grind arith in k) in
    sym (mod-eq_of_lt (omega arith))

pub returns-in-Some : goal.returns-in-Some
returns-in-Some c =
    let told = c.in-Some.ensures in
    rw (told.1, one_shl c.args.n 64 told.0) (and_mask c.args.value c.args.n)
