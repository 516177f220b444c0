-- A stack in a fixed room, through what is done to the room.
use Rattle.std.proofs.Common.{◌≡◌, ℕ, zero, suc, ◌+◌, ◌<◌, ◌≤◌, min, ◌≢◌, List, [], ◌∷◌, length, get_or, set, refl, ap, ap₂, arith, get_or-set_other, get_or-set_same}
use Rattle.objects.specs.Tops.{tops}

module _ {A : Type 0} (none : A) where
  pub tops_length : (xs : List A) (n : ℕ) → length (tops none xs n) ≡ n
  unfolding tops
  tops_length xs zero = refl
  tops_length xs (suc n) = ap suc (tops_length xs n)

  -- a write at or above the top changes nothing below
  pub tops_set : (xs : List A) (i : ℕ) (x : A) (n : ℕ) → n ≤ i → tops none (set xs i x) n ≡ tops none xs n
  unfolding tops
  tops_set xs i x zero h = refl
  tops_set xs i x (suc n) h =
      let ne : n ≢ i = omega arith in
      let le : n ≤ i = omega arith in
      ap₂ ◌∷◌ (get_or-set_other xs i n x none ne) (tops_set xs i x n le)

  -- with at most k seen
  pub stack_none : (xs : List A) (n k : ℕ) → n ≡ 0 → tops none xs (min n k) ≡ []
  unfolding tops
  stack_none xs n k e = let z : min n k ≡ 0 = omega arith in rw z refl

  pub stack_pop : (xs : List A) (n k m : ℕ) → min n k ≡ suc m → tops none xs (min n k) ≡ get_or xs m none ∷ tops none xs (min m k)
  unfolding tops
  stack_pop xs n k m e = let z : min m k ≡ m = omega arith in rw (e, z) refl

  pub stack_push : (xs : List A) (n k : ℕ) (x : A) → n < k → n < length xs → tops none (set xs n x) (min (n + 1) k) ≡ x ∷ tops none xs (min n k)
  unfolding tops
  stack_push xs n k x h l =
      let a : min (n + 1) k ≡ suc n = omega arith in
      let b : min n k ≡ n = omega arith in
      let le : n ≤ n = omega arith in
      rw (a, b) (ap₂ ◌∷◌ (get_or-set_same xs n x none l) (tops_set xs n x n le))

  pub stack_room : (xs : List A) (n k : ℕ) → length (tops none xs (min n k)) < k → n < k
  stack_room xs n k h = let e = tops_length xs (min n k) in omega arith
