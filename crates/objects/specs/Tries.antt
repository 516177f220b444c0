-- A step of a line, whose failure is the reading's fault at the place where it began.
use Rattle.std.specs.Prelude.{ℕ, Ok, Err, Result}
use Rattle.rules.specs.declared.faults.ReadingFault.{ReadingFault}
use Rattle.rules.specs.Checks.{Check, fault}

abbrev pub tried : {A : Type 0} → (line place : ℕ) → Check A → Result A ReadingFault
tried line place (Ok a) = Ok a
tried line place (Err f) = Err (fault f.cause line f.node place)
