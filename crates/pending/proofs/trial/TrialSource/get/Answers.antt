use Rattle.std.proofs.Common.{◌≡◌, ◌+◌, ◌-◌, ◌*◌, ◌/◌, ◌%◌, ◌^◌, min, ap, ◌∙◌, arith}
use Rattle.bits.specs.Bits.{longest, length-limited}
use Rattle.bits.proofs.Gets.{placed}
use Rattle.pending.specs.Trial.{trial_bits}
use Rattle.pending.proofs.Trials.{length_trial, trial_got}
use Rattle.pending.proofs.trial.TrialSource.get.Goals as goal

pub returns : goal.returns
returns c =
    let t = c.args.self.now in
    let w = t.own.width in
    let v = t.own.value in
    let q = c.args.p + c.args.n in
    let end = t.place + w in
    let at = placed c.from.result c.args.p c.args.n c.in_ok-check_place.field-0 c.in_ok-check_place.ensures in
    let long : c.length.result ≡ min longest t.length = c.length.ensures ∙ (length-limited (trial_bits t.length t.place w v) ∙ ap (min longest) (length_trial t.length t.place w v)) in
    let e : c.from-2.result + c.from-3.result ≡ end = omega arith in
    trial_got t.length t.place w v c.args.p c.args.n _ (omega arith) (omega arith)
    (c.lowest.ensures ∙ ap (λ x. x % 2 ^ c.args.n) (c.shifted.ensures
    ∙ ap (λ x. x * 2 ^ (c.from-4.result - (c.from-2.result + c.from-3.result)) / 2 ^ (c.from-2.result + c.from-3.result - c.from-4.result) % 2 ^ 64) c.lowest-own.ensures
    ∙ ap (λ x. v % 2 ^ w * 2 ^ (x - (c.from-2.result + c.from-3.result)) / 2 ^ (c.from-2.result + c.from-3.result - x) % 2 ^ 64) c.from-4.ensures
    ∙ ap (λ x. v % 2 ^ w * 2 ^ (q - x) / 2 ^ (x - q) % 2 ^ 64) e))
