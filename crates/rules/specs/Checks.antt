-- Steps that hand out nothing: each answers a value, or the cause (and node) of its failure.
use Rattle.std.specs.Prelude.{ℕ, Bool, true, false, Ok, Err, Result}
use Rattle.rules.specs.declared.faults.ReadingCause.{ReadingCause}
use Rattle.rules.specs.declared.faults.Failure.{Failure}
use Rattle.rules.specs.declared.faults.ReadingFault.{ReadingFault}
use Rattle.rules.specs.Trace.{Run, stop}

abbrev pub Check : Type 0 → Type 0
Check A = Result A Failure

-- one step after the other
unfoldable pub then : {A B : Type 0} → Check A → (A → Check B) → Check B
then (Ok a) k = k a
then (Err f) k = Err f

-- a failure that lies in no node
abbrev pub fails : {A : Type 0} → ReadingCause → Check A
fails cause = Err (record { cause = cause; node = 0 })

-- a step that fails unless a test is true
unfoldable pub ensure : Bool → ReadingCause → Check (Unit {0})
ensure true cause = Ok tt
ensure false cause = fails cause

-- the first where the test is true, else the second; the ways wait until it is made
abbrev pub pick : {A : Type 0} → Bool → (Unit {0} → A) → (Unit {0} → A) → A
pick true a b = a tt
pick false a b = b tt

abbrev pub fault : ReadingCause → (line node place : ℕ) → ReadingFault
fault cause line node place = record { cause = cause; line = line; node = node; place = place }

-- a step of a line; its failure is the reading's fault, at the place where the failing element began
unfoldable pub attempt : {A B : Type 0} → (line place : ℕ) → Check A → (A → Run B) → Run B
attempt line place (Ok a) k = k a
attempt line place (Err f) k = stop (fault f.cause line f.node place)
