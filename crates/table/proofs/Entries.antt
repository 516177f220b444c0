-- The record of a number in a list, counted from 1.
use Rattle.std.proofs.Common.{◌≡◌, ℕ, zero, suc, ◌-◌, ◌<◌, ◌≤◌, inl, inr, List, length, get_or, refl, ap, arith}
use Rattle.std.proofs.lemmas.Bool.{cases_lt}
use lib.ListN.{get_or-eq_default}
use Rattle.table.specs.Description.{entry, Description, class_at, no_class}

pub entry_at : {A : Type 0} (xs : List A) (k : ℕ) (x : A) → 0 < k → entry xs k x ≡ get_or xs (k - 1) x
unfolding entry
entry_at xs zero x h = absurd (omega arith)
entry_at xs (suc k) x h = ap (λ i. get_or xs i x) (omega arith)

pub entry_none : {A : Type 0} (xs : List A) (x : A) → entry xs 0 x ≡ x
unfolding entry
entry_none xs x = refl

pub entry_past : {A : Type 0} (xs : List A) (k : ℕ) (x : A) → length xs < k → entry xs k x ≡ x
unfolding entry
entry_past xs zero x h = refl
entry_past xs (suc k) x h = get_or-eq_default xs x (omega arith)

-- a class of some kind is there
pub class_there : (d : Description) (c : ℕ) → 0 < (class_at d c).kind → (0 < c) × (c ≤ length d.classes)
class_there d zero k = let q = ap (λ c. c.kind) (entry_none d.classes no_class) in absurd (omega arith)
class_there d (suc c) k = elim (cases_lt (length d.classes) (suc c)) [
  | inl past ↦ (let q = ap (λ c. c.kind) (entry_past d.classes (suc c) no_class past) in absurd (omega arith))
  | inr l ↦ (omega arith, l)
]
