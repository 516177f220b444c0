-- The indices at which rows of a map give a value.
use Rattle.std.specs.Prelude.{ℕ, ◌+◌, ℤ, ◌&&◌, Option, Some, None, is_err, if◌then◌else◌}
use Rattle.table.specs.Description.{Description, row_at}
use Rattle.rules.specs.Lookups.{output, find_row}
use Rattle.rules.specs.Values.{same}

-- of row i of a map whose first row is given, if it gives the value and no earlier row has the index
abbrev pub index_giving : Description → (first : ℕ) → ℤ → (i : ℕ) → Option ℕ
index_giving d first v i =
    if same (output (row_at d (first + i))) v && is_err (find_row d first i (row_at d (first + i)).index)
    then Some (row_at d (first + i)).index
    else None
