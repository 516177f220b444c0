-- The law of writing: what can be put next, what is then appended, and what a reading makes of it.
use Rattle.std.specs.Prelude.{◌≡◌, ℕ, ◌-◌, ◌≤◌, Bool, false, List, [], ◌∷◌, ◌++◌, length, drop, replicate, Option, Some, None}
use Rattle.rules.specs.declared.items.Item.{Item}
use Rattle.records.specs.declared.statements.Statement.{Statement}
use Rattle.records.specs.declared.statements.Statement.TheVariants.{Read, Assign, MapRead, Use, If, While}
use Rattle.records.specs.Statements.{statement}
use Rattle.rules.specs.Growth.{Begins}
use Rattle.rules.specs.Trace.{items, outcome, ended}
use Rattle.table.specs.Description.{Description, line_at}
use Rattle.rules.specs.Tidy.{reading_by}
use Rattle.roundtrip.specs.Own.{own_bits, end_of, pending, Sensible}
use Rattle.rules.specs.Trace.{Run}
use Rattle.roundtrip.specs.Standing.{head, gives, Fam, Fits, Leads, Stands}

-- above 0 where a line looks ahead
abbrev pub looks_ahead : Option Statement → ℕ
looks_ahead (Some (Read fields)) = fields.ahead
looks_ahead (Some (Assign name node)) = 0
looks_ahead (Some (MapRead m name)) = 0
looks_ahead (Some (Use fields)) = 0
looks_ahead (Some (If node first second)) = 0
looks_ahead (Some (While node lines rounds)) = 0
looks_ahead None = 0

-- no line looks ahead
abbrev pub Straight : Description → Type 0
Straight d = (n : ℕ) → looks_ahead (statement (line_at d n)) ≡ 0

module _ (d : Description) (L : ℕ) (tidy : Bool) where
  -- after the items `is`, for which `w` was written, some bits make a reading hand out i next
  abbrev pub CanFollow : List Item → List Bool → Item → Type 0
  CanFollow is w i =
      (B : List Bool) × (length B ≡ L) × Begins w B × Begins (is ++ (i ∷ [])) (items (reading_by d B tidy))

  -- the items that were put, and what is written: 0 up to an item's place, and its own bits
  pub data Written : List Item → List Bool → Type 0 where
    fresh : Written [] []
    put : {is : List Item} {w : List Bool} (i : Item) → Written is w → CanFollow is w i →
        Written (is ++ (i ∷ [])) (w ++ (replicate (i.place - length w) false ++ own_bits d i))

-- wherever a writing stands:
pub record Writes (d : Description) (L : ℕ) (tidy : Bool) (is : List Item) (w : List Bool) : Type 0 where
  pub short : length w ≤ L
  -- over any bits that begin with what is written, a reading hands out the items first
  pub kept : (B : List Bool) → length B ≡ L → Begins w B → Begins is (items (reading_by d B tidy))
  -- an item that can follow is sensible, ends within, and follows over bits that are 0 but for its own
  pub guess : (i : Item) → CanFollow d L tidy is w i →
      (length w ≤ i.place) × (end_of d i ≤ L) × Sensible d i × Begins (is ++ (i ∷ [])) (items (reading_by d (w ++ drop (length w) (pending d L i)) tidy))
  -- if the reading can end here, it ends where the bits left are 0
  pub finish : (B : List Bool) → length B ≡ L → Begins w B → items (reading_by d B tidy) ≡ is → outcome (reading_by d B tidy) ≡ ended →
      (items (reading_by d (w ++ replicate (L - length w) false) tidy) ≡ is) × (outcome (reading_by d (w ++ replicate (L - length w) false) tidy) ≡ ended)

abbrev pub StandingLaw : Type 0
StandingLaw = (d : Description) → Straight d → (L : ℕ) (tidy : Bool) → Stands d L (λ (u : Unit {0}). L) L 0 (λ B. reading_by d B tidy)

abbrev pub WritingLaw : Type 0
WritingLaw =
    (d : Description) → Straight d → (L : ℕ) (tidy : Bool) (is : List Item) (w : List Bool) → Written d L tidy is w → Writes d L tidy is w

abbrev pub appended : Description → (p : ℕ) → Item → List Bool
appended d p i = replicate (i.place - p) false ++ own_bits d i

-- what lies ahead of a writing, as a writer's state says it for any bits
pub record Ahead (d : Description) (L : ℕ) (tidy : Bool) (is : List Item) (w : List Bool) (F : Fam (Unit {0})) : Type 0 where
  pub short : length w ≤ L
  pub stands : Stands d L (λ (u : Unit {0}). L) L (length w) F
  pub leads : (B : List Bool) → length B ≡ L → Begins w B → Leads is (reading_by d B tidy) (F B)

-- the test of an item is what comes next over the guess alone, whatever was written
pub record Tests (d : Description) (L : ℕ) (tidy : Bool) (is : List Item) (w : List Bool) (F : Fam (Unit {0})) : Type 0 where
  pub accepts : (i : Item) → CanFollow d L tidy is w i → (r : Run (Unit {0})) × (head (F (pending d L i)) ≡ gives i r)
  pub refuses : (i : Item) (r : Run (Unit {0})) → head (F (pending d L i)) ≡ gives i r → CanFollow d L tidy is w i
  pub moves : (i : Item) (G : Fam (Unit {0})) → CanFollow d L tidy is w i →
      ((B : List Bool) → length B ≡ L → Fits d (length w) i B → head (F B) ≡ gives i (G B)) →
      Stands d L (λ (u : Unit {0}). L) L (end_of d i) G →
      Ahead d L tidy (is ++ (i ∷ [])) (w ++ appended d (length w) i) G

abbrev pub TestLaw : Type 0
TestLaw =
    (d : Description) → Straight d → (L : ℕ) (tidy : Bool) →
    Ahead d L tidy [] [] (λ B. reading_by d B tidy) ×
    ((is : List Item) (w : List Bool) (F : Fam (Unit {0})) → Ahead d L tidy is w F → Tests d L tidy is w F)
