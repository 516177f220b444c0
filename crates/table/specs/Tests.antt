-- What a test of numbers, stretches or values answers.
use Rattle.std.specs.Prelude.{◌≡◌, Bool}

-- what the test `f`, whose calls have the results that `post` says, answers of x is p x
abbrev pub Answers : {F X : Type 0} → (post : F → X → Bool → Type 0) → F → (p : X → Bool) → Type 0
Answers {F} {X} post f p = (x : X) (r : Bool) → post f x r → r ≡ p x
