-- Widths and counts.
use Rattle.std.proofs.Common.{◌≡◌, ℕ, ◌<◌, ◌≤◌, Bool, true, false, ◌&&◌, leb, ℤ, pos, negsuc, nat_abs, Ok, Err, Result, None, Option, ok_or, sym, refl, ap, ◌∙◌, inl, inr, arith}
use lib.Signed.{le_z}
use Rattle.std.proofs.lemmas.Bool.Decides.{leb_tells}
use Rattle.std.proofs.lemmas.Int.{ints}
use Rattle.std.specs.Bool.{then_some}
use Rattle.std.specs.Int.{FitsUnsignedBits}
use Rattle.std.specs.Option.{MatchOption}
use Rattle.std.specs.Result.{OkIff, result_ok}
use Rattle.rules.specs.declared.faults.Failure.{Failure}
use Rattle.rules.specs.declared.faults.ReadingCause.TheVariants.{WidthOrCount}
use Rattle.rules.specs.Checks.{Check, then, ensure, fails}
use Rattle.rules.specs.Steps.{natural}

pub natural_in : (most : ℕ) (z : ℤ) → (le_z (pos 0) z && le_z z (pos most)) ≡ true → natural most (Ok z) ≡ Ok (nat_abs z)
unfolding natural then ensure
natural_in most z h = rw h

pub natural_out : (most : ℕ) (z : ℤ) → (le_z (pos 0) z && le_z z (pos most)) ≡ false → natural most (Ok z) ≡ fails WidthOrCount
unfolding natural then ensure
natural_out most z h = rw h

abbrev Failed : Failure
Failed = record { cause = WidthOrCount; node = 0 }

-- a number that is converted where it has 16 bits, and else fails
pub counted : {E : Type 0} (z : ℤ) (t : Result ℕ E) {r : Check ℕ} → OkIff t (FitsUnsignedBits 16 z) (nat_abs z) →
    r ≡ ok_or (result_ok t) Failed → r ≡ natural 65535 (Ok z)
counted (pos n) (Ok x) s q =
    let f = s.0 in
    let t : (le_z (pos 0) (pos n) && le_z (pos n) (pos 65535)) ≡ true = grind (arith, ints) in
    q ∙ ap Ok s.1 ∙ sym (natural_in 65535 (pos n) t)
counted (pos n) (Err e) s q =
    let past : 65536 ≤ n = elim (leb_tells 65536 n) [ inl t ↦ t.1 | inr t ↦ absurd (s (omega (arith, t.1))) ] in
    let t : (le_z (pos 0) (pos n) && le_z (pos n) (pos 65535)) ≡ false = grind (arith, ints) in
    q ∙ sym (natural_out 65535 (pos n) t)
counted (negsuc n) (Ok x) s q = absurd s.0
counted (negsuc n) (Err e) s q = q ∙ sym (natural_out 65535 (negsuc n) refl)
