use Rattle.std.proofs.Common.{rules, pos, ◌*ℤ◌, SomeIff, ap, ◌∙◌, subst, w64, to_z, of_z, to_z-of_z, int_div}
use Rattle.std.specs.Int.{CanDivide}
use Rattle.values.proofs.Numbers.{given, quotient, power, shifted_by, or_of}
use Rattle.values.proofs.operators.apply.Goals as goal

pub returns-in_ok-divisor-in-Divide : goal.returns-in_ok-divisor-in-Divide
returns-in_ok-divisor-in-Divide c =
    let g = given _ _ (simp (to_z-of_z c.ranges.y) at c.in_ok-divisor-in-Divide.ensures) in
    let d = ap (λ d. to_z w64 (of_z w64 d)) g.1 ∙ to_z-of_z c.ranges.y in
    let s = subst (λ d. SomeIff c.quotient.result (CanDivide w64 c.args.x d) (int_div c.args.x d)) d (simp (to_z-of_z c.ranges.x) at c.quotient.ensures) in
    rw c.in-Divide.is (quotient c.args.x c.args.y c.quotient.result c.ranges.y g.0 s c.checked-in-Divide.ensures)

pub returns-in_ok-divisor-in-Remainder : goal.returns-in_ok-divisor-in-Remainder
returns-in_ok-divisor-in-Remainder c =
    let g = given _ _ c.in_ok-divisor-in-Remainder.ensures in
    search rules

pub returns-in_ok-shift-in-ShiftLeft : goal.returns-in_ok-shift-in-ShiftLeft
returns-in_ok-shift-in-ShiftLeft c =
    let g = given _ _ (simp (to_z-of_z c.ranges.y) at c.in_ok-shift-in-ShiftLeft.ensures.value) in
    let n = c.in_ok-shift-in-ShiftLeft.field-0 in
    let s = simp (power n c.in_ok-shift-in-ShiftLeft.ensures.bound, to_z-of_z c.ranges.x) at c.checked_mul-in-ShiftLeft.ensures in
    rw c.in-ShiftLeft.is (shifted_by (λ a m. a *ℤ pos m) c.args.x c.args.y n g.0 g.1 (c.checked-in-ShiftLeft.ensures _ s))

pub returns-in_ok-bits-in-BitOr-2 : goal.returns-in_ok-bits-in-BitOr-2
returns-in_ok-bits-in-BitOr-2 c =
    let g = given _ _ (simp (to_z-of_z c.ranges.x) at c.in_ok-bits-in-BitOr.ensures) in
    let h = given _ _ (simp (to_z-of_z c.ranges.y) at c.in_ok-bits-in-BitOr-2.ensures) in
    let s = simp (g.1, h.1) at c.ranged-in-BitOr.ensures in
    rw c.in-BitOr.is (or_of c.args.x c.args.y c.ranges.x c.ranges.y g.0 h.0 s)
