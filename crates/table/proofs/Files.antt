-- What a file without a fault has.
use Rattle.std.proofs.Common.{◌≡◌, ℕ, ◌≤◌, Bool, true, false, cond, not, ◌&&◌, eqb, leb, List, length, Some, None, refl, arith, eqb-true}
use Rattle.records.specs.declared.faults.Cause.TheVariants.{Mark, Version, Count, Length}
use Rattle.table.specs.Loading.{has_mark, has_version, counts_at, counts_fit, file_length, file_fault}

some_is_not_none : {A : Type 0} {x : A} → Some x ≡ None → ⊥
some_is_not_none e = let z : ◌≡◌ {A = ℕ} 0 1 = cc in omega arith

-- the last two tests of four, the third of which has two parts
passed : (m v a f l : Bool) → cond (not m) (Some Mark) (cond (not v) (Some Version) (cond (not (a && f)) (Some Count) (cond (not l) (Some Length) None))) ≡ None → (f ≡ true) × (l ≡ true)
passed false v a f l e = absurd (some_is_not_none e)
passed true false a f l e = absurd (some_is_not_none e)
passed true true false f l e = absurd (some_is_not_none e)
passed true true true false l e = absurd (some_is_not_none e)
passed true true true true false e = absurd (some_is_not_none e)
passed true true true true true e = (refl, refl)

pub faultless : (bytes : List ℕ) → file_fault bytes ≡ None → (file_length (counts_at bytes) ≤ length bytes) × (counts_fit (counts_at bytes) ≡ true)
faultless bytes e =
    let p = passed (has_mark bytes) (has_version bytes) (leb 19 (length bytes)) (counts_fit (counts_at bytes)) (eqb (length bytes) (file_length (counts_at bytes))) e in
    (omega (arith, eqb-true (length bytes) (file_length (counts_at bytes)) p.1), p.0)
