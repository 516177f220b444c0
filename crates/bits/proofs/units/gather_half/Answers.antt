use Rattle.std.proofs.Common.{rules, ◌≡◌, ◌*◌, ◌^◌, ◌<◌, ◌≤◌, ◌%◌, length, bit_or, subst, ◌∙◌, refl}
use Rattle.std.proofs.lemmas.Fn.{fold_over, fronts, slice_gives}
use Rattle.std.specs.Iterator.{AlwaysYields}
use Rattle.bits.specs.Bits.{number}
use Rattle.bits.specs.Units.{units_bits}
use Rattle.bits.proofs.UnitBits.{gather_push}
use Rattle.bits.proofs.units.gather_half.Goals as goal

pub returns : goal.returns
unfolding number
returns g c =
    let w = g.U.Unit.BITS in
    let value = g.U.Unit.value in
    fold_over fronts (λ y. y.now) _ (λ ys a. length ys * w ≤ 64 → a ≡ number (units_bits w value ys)) _
    (λ ys a x b f j k. (λ few. let is : (b ≡ bit_or ((a * 2 ^ w) % 2 ^ 64) (value x.now)) × (value x.now < 2 ^ w) = search rules in is.0 ∙ gather_push w value ys x.now a few is.1 j, refl))
    c.iter.result c.args.units.now 0 c.fold.result (subst (λ xs. AlwaysYields fronts (λ y. y.now) c.iter.result xs) c.iter.ensures.rest (slice_gives c.iter.result)) (λ _. refl) c.fold.ensures.ran c.requires
