-- A test as a type, and the two ways that it leads.
use Rattle.std.proofs.Common.{Bool, true, false, not, T}
use Rattle.rules.specs.Checks.{pick}

-- one of two ways, with what the test says
pub decide : {P : Type 0} (b : Bool) → (T b → P) → (T (not b) → P) → P
decide true x y = x tt
decide false x y = y tt

pub pick_is : {A : Type 0} (P : A → Type 0) (b : Bool) (x y : Unit {0} → A) → (T b → P (x tt)) → (T (not b) → P (y tt)) → P (pick b x y)
pick_is P true x y f g = f tt
pick_is P false x y f g = g tt
