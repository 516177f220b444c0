-- At most 16 objects stand inside one another.
use Rattle.std.specs.Prelude.{◌≡◌, ℕ, ◌<◌, ◌≤◌, true, List, [], ◌∷◌, length, None, Option, Some}
use Rattle.records.specs.declared.statements.Statement.{Statement}
use Rattle.records.specs.declared.statements.Statement.TheVariants.{Read, Assign, MapRead, Use, If, While}
use Rattle.table.specs.Description.{Description, statement_at}
use Rattle.owners.specs.Lines.{class_of_line}
use Rattle.owners.specs.Ranks.{used_by}
use Rattle.checked.specs.Check.{first_fault}

-- a line can make an object whose lines are those of class u: u is the used class, or a member of it
abbrev pub MakesObject : Description → Option Statement → (u : ℕ) → Type 0
MakesObject d (Some (Read fields)) u = ⊥
MakesObject d (Some (Assign name node)) u = ⊥
MakesObject d (Some (MapRead map name)) u = ⊥
MakesObject d (Some (Use fields)) u = used_by d fields.class u ≡ true
MakesObject d (Some (If node first second)) u = ⊥
MakesObject d (Some (While node lines rounds)) u = ⊥
MakesObject d None u = ⊥

-- a line of class c does
abbrev pub Uses : Description → (c u : ℕ) → Type 0
Uses d c u = (n : ℕ) × (0 < n) × (n ≤ length d.lines) × (class_of_line d n ≡ c) × MakesObject d (statement_at d n) u

-- classes of which each is used by the one before it
abbrev pub Chain : Description → (c : ℕ) → List ℕ → Type 0
Chain d c [] = (0 < c) × (c ≤ length d.classes)
Chain d c (u ∷ us) = (0 < c) × (c ≤ length d.classes) × Uses d c u × Chain d u us

abbrev pub ChainsLaw : Type 0
ChainsLaw = (d : Description) → first_fault d ≡ None → (c : ℕ) (us : List ℕ) → Chain d c us → length (c ∷ us) ≤ 16
