-- Names that an array holds.
use Rattle.std.proofs.Common.{◌≡◌, ℕ, zero, suc, ◌-◌, ◌<◌, ◌≤◌, Bool, true, false, cond, eqb, ◌≢◌, List, length, get_or, set, ℤ, pos, refl, ap, ◌∙◌, arith, get_or-set_other, get_or-set_same}
use mathlib.Core.Path.{fun_ext}
use Rattle.std.proofs.lemmas.Bool.Decides.{nat_tests}
use Rattle.table.specs.Description.{entry}
use Rattle.rules.specs.Reading.{write}
use Rattle.values.specs.Names.{named_by}

module _ (xs : List ℤ) (n : ℕ) (v : ℤ) (h : n < length xs) where
  at_name : (m : ℕ) → named_by (set xs n v) m ≡ cond (eqb m (suc n)) v (named_by xs m)
  unfolding entry
  at_name zero = let e : eqb 0 (suc n) ≡ false = grind (arith, nat_tests) in rw e refl
  at_name (suc m) = go (eqb (suc m) (suc n)) refl
    where
      go : (b : Bool) → eqb (suc m) (suc n) ≡ b → get_or (set xs n v) m (pos 0) ≡ cond (eqb (suc m) (suc n)) v (get_or xs m (pos 0))
      go true e =
          let q : m ≡ n = grind (arith, nat_tests) in
          rw e (ap (λ k. get_or (set xs n v) k (pos 0)) q ∙ get_or-set_same xs n v (pos 0) h)
      go false e =
          let ne : m ≢ n = grind (arith, nat_tests) in
          rw e (get_or-set_other xs n m v (pos 0) ne)

  pub written : named_by (set xs n v) ≡ write (suc n) v (named_by xs)
  written = fun_ext at_name

pub write-at : (xs : List ℤ) (name : ℕ) (v : ℤ) → 0 < name → name ≤ length xs → named_by (set xs (name - 1) v) ≡ write name v (named_by xs)
write-at xs zero v s h = absurd (omega arith)
write-at xs (suc n) v s h = let e : suc n - 1 ≡ n = omega arith in rw e (written xs n v (omega arith))
