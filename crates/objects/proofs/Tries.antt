-- What a step of a line tells.
use Rattle.std.proofs.Common.{◌≡◌, ℕ, Ok, Err, Result, ap, ◌∙◌, arith}
use Rattle.std.specs.Result.{MatchResult, IsErrAnd}
use Rattle.std.proofs.lemmas.Result.{err_from_is_err_and}
use Rattle.rules.specs.declared.faults.Failure.{Failure}
use Rattle.rules.specs.declared.faults.ReadingFault.{ReadingFault}
use Rattle.rules.specs.Checks.{Check, fault}
use Rattle.objects.specs.Tries.{tried}

pub tried_ok : {A : Type 0} (line place : ℕ) (step : Check A) (a : A) → Ok a ≡ tried line place step → Ok a ≡ step
tried_ok line place (Ok b) a e = grind arith
tried_ok line place (Err f) a e = grind arith

pub tried_err : {A : Type 0} (line place : ℕ) (step : Check A) (f : ReadingFault) → Err f ≡ tried line place step → (g : Failure) × (Err g ≡ step) × (fault g.cause line g.node place ≡ f)
tried_err line place (Ok b) f e = absurd (grind arith)
tried_err line place (Err g) f e = (g, grind arith, grind arith)

-- a failure that is told as a fault, by a function that is handed over
pub told_at : {A : Type 0} (line place : ℕ) (step : Check A) (told : Result A ReadingFault) (Gives : Failure → ReadingFault → Type 0)
    → ((f : Failure) (y : ReadingFault) → Gives f y → y ≡ fault f.cause line f.node place)
    → MatchResult step (λ a. told ≡ Ok a) (λ f. IsErrAnd told (Gives f)) → told ≡ tried line place step
told_at line place (Ok a) told Gives to h = h
told_at line place (Err f) told Gives to h = let p = err_from_is_err_and told h in p.1 ∙ ap Err (to f _ p.2)
