-- A test as a type, and what the test then equals.
use Rattle.std.proofs.Common.{◌≡◌, Bool, true, false, not, T, refl}

pub true_of : (b : Bool) → T b → b ≡ true
true_of true t = refl
true_of false t = absurd t

pub false_of : (b : Bool) → T (not b) → b ≡ false
false_of true t = absurd t
false_of false t = refl
