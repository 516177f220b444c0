-- The first so many of a list, the last of them first: what a stack in a fixed room holds.
use Rattle.std.specs.Prelude.{ℕ, zero, suc, List, [], ◌∷◌, slice_index_or}

unfoldable pub tops : {A : Type 0} → A → List A → ℕ → List A
tops none xs zero = []
tops none xs (suc n) = slice_index_or xs n none ∷ tops none xs n
