-- Facts on rows of records.
use Rattle.std.proofs.Common.{◌≡◌, ℕ, ◌+◌, List, [], ◌∷◌, ◌++◌, map, sym, ◌∙◌, arith}
use Rattle.std.proofs.lemmas.List.FromFn.{map-range_with_len_more}
use Rattle.std.specs.List.{range_with_len}

-- A row that f gives, with one more.
pub pushed : {R : Type 0} (f : ℕ → R) (i : ℕ) (xs ys : List R) (x : R) → xs ≡ map f (range_with_len 0 i) → x ≡ f i → ys ≡ xs ++ (x ∷ []) → ys ≡ map f (range_with_len 0 (i + 1))
pushed f i xs ys x p q e = e ∙ rw (p, q) (sym (map-range_with_len_more f 0 i i (omega arith)))
