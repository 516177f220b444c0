-- The lowest and the highest value of a read.
use Rattle.std.proofs.Common.{◌≡◌, ℕ, zero, suc, ◌<◌, Bool, true, false, ℤ, Ok, Err, sym, refl, ◌∙◌, arith}
use Rattle.rules.specs.declared.faults.Failure.{Failure}
use Rattle.rules.specs.declared.faults.ReadingCause.TheVariants.{OutsideBounds}
use Rattle.rules.specs.Checks.{Check, then, ensure, fails}
use Rattle.rules.specs.Steps.{bounded}

next : (n : ℕ) (bound : Check ℤ) (kept : ℤ → Bool) → 0 < n → bounded n bound kept ≡ then bound λ b. ensure (kept b) OutsideBounds
next zero bound kept h = absurd (omega arith)
next (suc n) bound kept h = refl

module _ (n : ℕ) (bound : Check ℤ) (kept : ℤ → Bool) (some : 0 < n) where
  pub bound_fails : (f : Failure) → Err f ≡ bound → Err f ≡ bounded n bound kept
  unfolding then
  bound_fails f e = sym (next n bound kept some ∙ rw (← e))

  pub bound_broken : (b : ℤ) → Ok b ≡ bound → kept b ≡ false → fails OutsideBounds ≡ bounded n bound kept
  unfolding then ensure
  bound_broken b e h = sym (next n bound kept some ∙ rw (← e, h))

  pub bound_kept : (b : ℤ) → Ok b ≡ bound → kept b ≡ true → Ok tt ≡ bounded n bound kept
  unfolding then ensure
  bound_kept b e h = sym (next n bound kept some ∙ rw (← e, h))
