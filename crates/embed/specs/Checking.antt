-- What checking a description answers, in numbers.
use Rattle.std.specs.Prelude.{◌≡◌, ◌⊎◌, Some, None, Ok, Err, Option, Result}
use Rattle.records.specs.Causes.{of_file}
use Rattle.records.specs.declared.faults.Cause.TheVariants.{Memory}
use Rattle.records.specs.declared.faults.Fault.{Fault}
use Rattle.table.specs.Description.{Description}
use Rattle.checked.specs.Check.{first_fault}
use Rattle.checked.specs.declared.checked.Checked.{Checked}
use Rattle.embed.specs.declared.answers.CheckAnswer.{CheckAnswer}
use Rattle.embed.specs.Numbers.{check_of}

-- the answer for a description that is accepted: three times 0
abbrev pub accepted : CheckAnswer
accepted = record { «record» = 0; cause = 0; table = 0 }

-- the numbers of a fault, if there is one
abbrev pub check_or_none : Option Fault → CheckAnswer
check_or_none (Some f) = check_of f
check_or_none None = accepted

abbrev pub answer_of : Result Checked Fault → CheckAnswer
answer_of (Ok c) = accepted
answer_of (Err f) = check_of f

-- by what the file gives: the numbers of the file's fault, or of the description's first; for a file that is whole it
-- may also be want of memory
abbrev pub CheckTold : Result Description Fault → CheckAnswer → Type 0
CheckTold (Err f) a = a ≡ check_of f
CheckTold (Ok d) a = (a ≡ check_of (of_file Memory)) ⊎ (a ≡ check_or_none (first_fault d))
