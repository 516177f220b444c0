use Rattle.std.proofs.Common.{int_le, of_calls, to_z-of_z, w64, SFits, rules}
use Rattle.std.proofs.lemmas.Result.{err_from_is_err_and}
use Rattle.values.specs.Scopes.{value_in}
use Rattle.steps.proofs.Read.{element_unaligned, element_no_width, element_bad_width, element_no_bits, element_low, element_high, element_got}
use Rattle.steps.proofs.view.View.element.Goals as goal

pub returns-in_err-place : goal.returns-in_err-place
returns-in_err-place g c =
    let p = err_from_is_err_and c.from_residual.result c.from_residual.ensures.1 in
    rw (p.1, p.2) (record { value = element_unaligned (g.S.Source.bits c.args.self.now.source.now) c.args.self.now.window c.args.line (value_in c.args.scope.now c.args.line.width) (value_in c.args.scope.now c.args.line.lowest) (value_in c.args.scope.now c.args.line.highest) c.args.p _ c.in_err-place.ensures.value; bound = tt })

pub returns-in_err-value : goal.returns-in_err-value
returns-in_err-value g c =
    let p = err_from_is_err_and c.from_residual-in_err-value.result c.from_residual-in_err-value.ensures.1 in
    rw (p.1, p.2) (record { value = element_no_width (g.S.Source.bits c.args.self.now.source.now) c.args.self.now.window c.args.line (value_in c.args.scope.now c.args.line.width) (value_in c.args.scope.now c.args.line.lowest) (value_in c.args.scope.now c.args.line.highest) c.args.p c.in_ok-place.place c.in_ok-place.ensures.value _ c.in_err-value.ensures; bound = tt })

pub returns-in_err-length : goal.returns-in_err-length
returns-in_err-length g c =
    let p = err_from_is_err_and c.from_residual-in_err-length.result c.from_residual-in_err-length.ensures.1 in
    let fw : SFits w64 c.in_ok-value.field-0 = search rules in
    rw (p.1, p.2) (record { value = element_bad_width (g.S.Source.bits c.args.self.now.source.now) c.args.self.now.window c.args.line (value_in c.args.scope.now c.args.line.width) (value_in c.args.scope.now c.args.line.lowest) (value_in c.args.scope.now c.args.line.highest) c.args.p c.in_ok-place.place c.in_ok-place.ensures.value c.in_ok-value.field-0 c.in_ok-value.ensures _ (simp to_z-of_z at c.in_err-length.ensures.value); bound = tt })

pub returns-in_err-raw : goal.returns-in_err-raw
returns-in_err-raw g c =
    let p = err_from_is_err_and c.from_residual-in_err-raw.result c.from_residual-in_err-raw.ensures.1 in
    let fw : SFits w64 c.in_ok-value.field-0 = search rules in
    let nat = simp to_z-of_z at c.in_ok-length.ensures.value in
    rw (p.1, p.2) (record { value = element_no_bits (g.S.Source.bits c.args.self.now.source.now) c.args.self.now.window c.args.line (value_in c.args.scope.now c.args.line.width) (value_in c.args.scope.now c.args.line.lowest) (value_in c.args.scope.now c.args.line.highest) c.args.p c.in_ok-place.place c.in_ok-place.ensures.value c.in_ok-value.field-0 c.in_ok-value.ensures c.in_ok-length.length nat _ c.in_err-raw.ensures.value; bound = tt })

pub returns-in_err-bounded : goal.returns-in_err-bounded
returns-in_err-bounded g c =
    let p = err_from_is_err_and c.from_residual-in_err-bounded.result c.from_residual-in_err-bounded.ensures.1 in
    let fw : SFits w64 c.in_ok-value.field-0 = search rules in
    let nat = simp to_z-of_z at c.in_ok-length.ensures.value in
    let fv : SFits w64 c.read_value-value.result = search rules in
    rw (p.1, p.2) (record { value = element_low (g.S.Source.bits c.args.self.now.source.now) c.args.self.now.window c.args.line (value_in c.args.scope.now c.args.line.width) (value_in c.args.scope.now c.args.line.lowest) (value_in c.args.scope.now c.args.line.highest) c.args.p c.in_ok-place.place c.in_ok-place.ensures.value c.in_ok-value.field-0 c.in_ok-value.ensures c.in_ok-length.length nat c.in_ok-raw.raw c.in_ok-raw.ensures.value c.read_value-value.result c.read_value-value.ensures _ (c.in_err-bounded.ensures (λ b. int_le b c.read_value-value.result) (λ v r q. search (rules, of_calls))); bound = tt })

pub returns-in_err-bounded-2 : goal.returns-in_err-bounded-2
returns-in_err-bounded-2 g c =
    let p = err_from_is_err_and c.from_residual-in_err-bounded-2.result c.from_residual-in_err-bounded-2.ensures.1 in
    let fw : SFits w64 c.in_ok-value.field-0 = search rules in
    let nat = simp to_z-of_z at c.in_ok-length.ensures.value in
    let fv : SFits w64 c.read_value-value.result = search rules in
    let low = c.in_ok-bounded.ensures (λ b. int_le b c.read_value-value.result) (λ v r q. search (rules, of_calls)) in
    rw (p.1, p.2) (record { value = element_high (g.S.Source.bits c.args.self.now.source.now) c.args.self.now.window c.args.line (value_in c.args.scope.now c.args.line.width) (value_in c.args.scope.now c.args.line.lowest) (value_in c.args.scope.now c.args.line.highest) c.args.p c.in_ok-place.place c.in_ok-place.ensures.value c.in_ok-value.field-0 c.in_ok-value.ensures c.in_ok-length.length nat c.in_ok-raw.raw c.in_ok-raw.ensures.value c.read_value-value.result c.read_value-value.ensures low _ (c.in_err-bounded-2.ensures (λ b. int_le c.read_value-value.result b) (λ v r q. search (rules, of_calls))); bound = tt })

pub returns : goal.returns
returns g c =
    let fw : SFits w64 c.in_ok-value.field-0 = search rules in
    let nat = simp to_z-of_z at c.in_ok-length.ensures.value in
    let fv : SFits w64 c.read_value-value.result = search rules in
    let low = c.in_ok-bounded.ensures (λ b. int_le b c.read_value-value.result) (λ v r q. search (rules, of_calls)) in
    let high = c.in_ok-bounded-2.ensures (λ b. int_le c.read_value-value.result b) (λ v r q. search (rules, of_calls)) in
    record {
      value = simp to_z-of_z (element_got (g.S.Source.bits c.args.self.now.source.now) c.args.self.now.window c.args.line (value_in c.args.scope.now c.args.line.width) (value_in c.args.scope.now c.args.line.lowest) (value_in c.args.scope.now c.args.line.highest) c.args.p c.in_ok-place.place c.in_ok-place.ensures.value c.in_ok-value.field-0 c.in_ok-value.ensures c.in_ok-length.length nat c.in_ok-raw.raw c.in_ok-raw.ensures.value c.read_value-value.result c.read_value-value.ensures low high c.place_after.result c.place_after.ensures.value);
      bound = record {
        ahead = c.in_ok-place.ensures.bound.0;
        kept = c.place_after.ensures.bound.0;
        most = c.place_after.ensures.bound.1;
        within = c.in_ok-raw.ensures.bound.1;
      };
    }
