-- Records that stand unchanged in place are where the older table begins the newer.
use Rattle.std.proofs.Common.{◌≡◌, ℕ, Bool, ◌&&◌, List, [], ◌∷◌, length, take, refl}
use lib.Pointwise.{pointwise}
use Rattle.rules.specs.Growth.{same_numbers, stands}

pub begins_with : {A : Type 0} (eq : A → A → Bool) (fields : A → List ℕ) →
    ((a b : A) → eq a b ≡ same_numbers (fields a) (fields b)) →
    (xs ys : List A) → pointwise eq xs (take (length xs) ys) ≡ stands fields xs ys
unfolding stands
begins_with eq fields law [] ys = refl
begins_with eq fields law (x ∷ xs) [] = refl
begins_with eq fields law (x ∷ xs) (y ∷ ys) = λ i. law x y i && begins_with eq fields law xs ys i
