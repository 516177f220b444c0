-- The values of names, as a list holds them.
use Rattle.std.specs.Prelude.{List, ℤ, pos}
use Rattle.table.specs.Description.{entry}
use Rattle.rules.specs.Values.{Names}

-- name n has the value that stands at n, counted from 1, or 0
abbrev pub named_by : List ℤ → Names
named_by values n = entry values n (pos 0)
