-- The lines of code, by what they tell of the items that they hand out.
use Rattle.std.proofs.Common.{◌≡◌, ℕ, ◌+◌, sym, refl, ap, ◌∙◌, arith, Option, Some, None}
use Rattle.rules.proofs.Orderly.{use_declared}
use Rattle.records.specs.declared.statements.Statement.{Statement}
use Rattle.records.specs.declared.statements.Statement.TheVariants.{Read, Assign, MapRead, Use, If, While}
use Rattle.records.specs.Statements.{statement}
use Rattle.table.specs.Description.{Description, line_at}
use Rattle.rules.specs.Code.{code}
use Rattle.rules.specs.Order.{declared_at}
use Rattle.rules.proofs.Same.{Each, code_each}
use Rattle.roundtrip.specs.Writing.{looks_ahead, Straight}

-- what a line is to an item that it hands out
abbrev pub Tells : Description → Option Statement → ℕ → Type 0
Tells d (Some (Read fields)) line = (fields.ahead ≡ 0) × (statement (line_at d line) ≡ Some (Read fields))
Tells d (Some (Assign name node)) line = Unit {0}
Tells d (Some (MapRead m name)) line = statement (line_at d line) ≡ Some (MapRead m name)
Tells d (Some (Use fields)) line = declared_at d line ≡ fields.class
Tells d (Some (If node first second)) line = Unit {0}
Tells d (Some (While node lines rounds)) line = Unit {0}
Tells d None line = Unit {0}

pub tells_at : (d : Description) → Straight d → (at : ℕ) (st : Option Statement) → statement (line_at d at) ≡ st → Tells d st at
tells_at d s at (Some (Read fields)) e = (sym (ap looks_ahead e) ∙ s at, e)
tells_at d s at (Some (Assign name node)) e = tt
tells_at d s at (Some (MapRead m name)) e = e
tells_at d s at (Some (Use fields)) e = use_declared d at fields e
tells_at d s at (Some (If node first second)) e = tt
tells_at d s at (Some (While node lines rounds)) e = tt
tells_at d s at None e = tt

pub code_tells : (d : Description) → Straight d → (at n : ℕ) → Each (Tells d) (code d.lines at n)
unfolding code
code_tells d s at n = code_each (Tells d) d.lines 0 (at + n) (λ at x y. tells_at d s at (statement (line_at d at)) refl) n at n (omega arith) (omega arith)
