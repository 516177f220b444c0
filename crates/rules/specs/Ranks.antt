-- By the ranks at most 16 objects are open at once, so every fault of a reading has a number of the rules.
use Rattle.std.specs.Prelude.{◌≡◌, ◌≤◌, Bool, List}
use Rattle.table.specs.Description.{Description}
use Rattle.rules.specs.declared.faults.ReadingCause.{ReadingCause}
use Rattle.rules.specs.declared.faults.ReadingFault.{ReadingFault}
use Rattle.rules.specs.Numbers.{reading_cause_number}
use Rattle.rules.specs.Trace.{outcome, refused}
use Rattle.rules.specs.Reading.{reading}
use Rattle.rules.specs.Passed.{PassesCheck}

-- the causes that the bits send, alone or together with the description
abbrev pub Known : ReadingCause → Type 0
Known c = (11 ≤ reading_cause_number c) × (reading_cause_number c ≤ 25)

abbrev pub FaultsKnown : Type 0
FaultsKnown =
    (d : Description) (bits : List Bool) → PassesCheck d → (f : ReadingFault) → outcome (reading d bits) ≡ refused f → Known f.cause
