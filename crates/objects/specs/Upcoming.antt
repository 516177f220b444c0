-- The next line of a kind that there is, among some lines.
use Rattle.std.specs.Prelude.{◌≡◌, ℕ, List, Some, None, Option}
use Rattle.records.specs.declared.records.Line.{Line}
use Rattle.records.specs.declared.statements.Statement.{Statement}
use Rattle.records.specs.Statements.{statement}
use Rattle.table.specs.Description.{entry, no_line}
use Rattle.rules.specs.Code.{finish, coded, code}
use Rattle.objects.specs.declared.upcoming.NextLine.{NextLine}

-- the next line whose kind there is: number `line`, with `after` lines after it
pub record IsNext (lines : List Line) (at count line after : ℕ) (s : Statement) : Type 0 where
  pub same : code lines at count ≡ coded (Some s) line after (code lines)
  pub is : statement (entry lines line no_line) ≡ Some s

abbrev pub Comes : List Line → (at count : ℕ) → Option NextLine → Type 0
Comes lines at count None = code lines at count ≡ finish
Comes lines at count (Some n) = IsNext lines at count n.at.line n.at.after n.statement
