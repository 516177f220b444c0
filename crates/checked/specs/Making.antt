-- What the check answers.
use Rattle.std.specs.Prelude.{◌≡◌, ◌⊎◌, Some, None, Ok, Err, Option, Result}
use Rattle.records.specs.Causes.{of_file}
use Rattle.records.specs.declared.faults.Cause.TheVariants.{Memory}
use Rattle.records.specs.declared.faults.Fault.{Fault}
use Rattle.table.specs.Description.{Description, description}
use Rattle.table.specs.declared.loaded.Loaded.{Loaded}
use Rattle.checked.specs.Check.{first_fault}
use Rattle.checked.specs.declared.checked.Checked.{Checked}

-- the first fault, or where there is none the loaded description as checked
abbrev pub Makes : Option Fault → Loaded → Result Checked Fault → Type 0
Makes (Some f) l (Err g) = g ≡ f
Makes (Some f) l (Ok c) = ⊥
Makes None l (Err g) = ⊥
Makes None l (Ok c) = c.loaded ≡ l

-- what loading and checking answer, by what the file gives: its fault, its description as checked, or that
-- description's first fault; for a file that is whole it may also be want of memory
abbrev pub Checks : Result Description Fault → Result Checked Fault → Type 0
Checks (Err f) (Err g) = g ≡ f
Checks (Err f) (Ok c) = ⊥
Checks (Ok d) (Err g) = (g ≡ of_file Memory) ⊎ (first_fault d ≡ Some g)
Checks (Ok d) (Ok c) = description c.loaded ≡ d
