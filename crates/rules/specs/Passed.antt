-- A description in which the check finds no fault.
use Rattle.std.specs.Prelude.{◌≡◌, None}
use Rattle.table.specs.Description.{Description}
use Rattle.checked.specs.Check.{first_fault}

abbrev pub PassesCheck : Description → Type 0
PassesCheck d = first_fault d ≡ None
