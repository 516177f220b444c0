-- Operands that a test lets through, and what operations on them give.
use Rattle.std.proofs.Common.{◌≡◌, ℕ, ◌*◌, ◌%◌, ◌^◌, ◌≤◌, Bool, true, false, cond, ◌||◌, ℤ, pos, negsuc, nat_abs, Ok, Err, Result, Some, None, Option, SomeIff, sym, refl, ap, ◌∙◌, subst, arith, pow_mono, w64, SFits, to_z, of_z, int_div}
use lib.Bits.{bit_or}
use lib.Signed.{lt_z}
use mir.Facts.{to_z_pos}
use Rattle.std.proofs.lemmas.Nat.{or_lt}
use Rattle.std.specs.Int.{CanDivide, IsNonZero}
use Rattle.rules.specs.declared.faults.ReadingCause.TheVariants.{ZeroDivisor, BadOperand}
use Rattle.rules.specs.Values.{Worked, ranged, divided, shifted, bitwise, is_zero}
use Rattle.values.specs.Operations.{Checked}

true_false : true ≡ false → ⊥
true_false e = subst (λ b. cond b (Unit {0}) ⊥) e tt

-- what a test lets through passes it, and is not changed
pub given : {A E : Type 0} (b : Bool) (e : E) {d y : A} → ◌≡◌ {A = Result A E} (Ok d) (cond b (Err e) (Ok y)) → (b ≡ false) × (d ≡ y)
given true e p = absurd (grind arith)
given false e p = (refl, grind arith)

not_zero : (y : ℤ) → SFits w64 y → is_zero y ≡ false → IsNonZero w64 y
not_zero (pos n) f e = grind arith
not_zero (negsuc n) f e = let l = f.sfits in omega arith

-- a quotient by a divisor
pub quotient : (x y : ℤ) (v : Option ℤ) {r : Worked} → SFits w64 y → is_zero y ≡ false → SomeIff v (CanDivide w64 x y) (int_div x y) → ((z : ℤ) → Checked v z → r ≡ ranged z) → r ≡ divided int_div x y
quotient x y None f e s h = h (int_div x y) (λ k. s (not_zero y f e, k)) ∙ ap (λ b. cond b (Err ZeroDivisor) (ranged (int_div x y))) (sym e)
quotient x y (Some z) f e s h = h (int_div x y) (s.0.1, s.1) ∙ ap (λ b. cond b (Err ZeroDivisor) (ranged (int_div x y))) (sym e)

-- a power of 2 as the code has it
pub power : (n : ℕ) → n ≤ 31 → to_z w64 ((1 * 2 ^ n) % 18446744073709551616) ≡ pos (2 ^ n)
power n l =
    let m : 2 ^ n ≤ 2147483648 = pow_mono l in
    ap (to_z w64) (omega arith) ∙ to_z_pos w64 (omega arith)

pub shifted_by : (by : ℤ → ℕ → ℤ) (x y : ℤ) (n : ℕ) {r : Worked} → (lt_z y (pos 0) || lt_z (pos 31) y) ≡ false → n ≡ nat_abs y → r ≡ ranged (by x (2 ^ n)) → r ≡ shifted by x y
shifted_by by x y n e k h = h ∙ ap (λ n. ranged (by x (2 ^ n))) k ∙ ap (λ b. cond b (Err BadOperand) (ranged (by x (2 ^ nat_abs y)))) (sym e)

or_back : (x y : ℤ) → SFits w64 x → SFits w64 y → lt_z x (pos 0) ≡ false → lt_z y (pos 0) ≡ false →
    to_z w64 (bit_or (of_z w64 x) (of_z w64 y)) ≡ pos (bit_or (nat_abs x) (nat_abs y))
or_back (pos m) (pos n) f g a b = to_z_pos w64 (or_lt 63 m n f.sfits g.sfits)
or_back (pos m) (negsuc n) f g a b = absurd (true_false b)
or_back (negsuc m) y f g a b = absurd (true_false a)

pub or_of : (x y : ℤ) {r : Worked} → SFits w64 x → SFits w64 y → lt_z x (pos 0) ≡ false → lt_z y (pos 0) ≡ false →
    r ≡ ranged (to_z w64 (bit_or (of_z w64 x) (of_z w64 y))) → r ≡ bitwise bit_or x y
or_of x y f g a b h =
    h ∙ ap ranged (or_back x y f g a b) ∙ λ i. cond (sym a i || sym b i) (Err BadOperand) (ranged (pos (bit_or (nat_abs x) (nat_abs y))))
