-- Two lists of numbers compared, number by number.
use Rattle.std.specs.Prelude.{◌≡◌, ℕ, Bool, true, false, ◌&&◌, List, [], ◌∷◌, ◌==◌, refl}
use Rattle.rules.specs.Growth.{same_numbers}

pub same_last : (x y : ℕ) → same_numbers (x ∷ []) (y ∷ []) ≡ (x == y)
unfolding same_numbers
same_last x y = go (x == y)
  where
    go : (b : Bool) → (b && true) ≡ b
    go true = refl
    go false = refl

pub same_more : (x y z w : ℕ) (zs ws : List ℕ) →
    same_numbers (x ∷ z ∷ zs) (y ∷ w ∷ ws) ≡ (x == y && same_numbers (z ∷ zs) (w ∷ ws))
unfolding same_numbers
same_more x y z w zs ws = refl
