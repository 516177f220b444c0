use Rattle.std.proofs.Common.{rules, ◌≡◌, true, false, ◌&&◌, ℤ, pos, nat_abs, Ok, Err, sym, ap, ◌∙◌, to_z-of_z, w64, SFits}
use lib.Signed.{le_z}
use Rattle.steps.proofs.Naturals.{natural_in, natural_out}
use Rattle.steps.proofs.numbers.natural.Goals as goal

pub returns-then-contains-clause-value : goal.returns-then-contains-clause-value
returns-then-contains-clause-value c =
    let f : SFits w64 c.args.value = search rules in
    let within : (le_z (pos 0) c.args.value && le_z c.args.value (pos c.args.most)) ≡ true = search rules in
    ap (λ (z : ℤ). Ok (nat_abs z)) (to_z-of_z f) ∙ sym (natural_in c.args.most c.args.value within)

pub returns-else-contains-clause-value : goal.returns-else-contains-clause-value
returns-else-contains-clause-value c =
    let without : (le_z (pos 0) c.args.value && le_z c.args.value (pos c.args.most)) ≡ false = search rules in
    ap Err c.into.ensures ∙ sym (natural_out c.args.most c.args.value without)
