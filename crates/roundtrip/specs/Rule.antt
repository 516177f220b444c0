-- Putting an item, in the rule's own words, over the plain reading.
use Rattle.std.specs.Prelude.{◌≡◌, ℕ, ◌+◌, ◌-◌, ◌≤◌, Bool, true, false, List, [], ◌∷◌, ◌++◌, length, replicate}
use Rattle.rules.specs.declared.items.Item.{Item}
use Rattle.rules.specs.declared.items.Kind.{Kind}
use Rattle.rules.specs.declared.items.Kind.TheVariants.{Value, Open, Close}
use Rattle.rules.specs.Trace.{items, outcome, ended}
use Rattle.table.specs.Description.{Description}
use Rattle.rules.specs.Reading.{reading}
use Rattle.rules.specs.Tidy.{tidy_reading}
use Rattle.roundtrip.specs.Own.{own_bits}
use Rattle.roundtrip.specs.Standing.{Zeros}
use Rattle.roundtrip.specs.Writing.{Straight, Written}
use Rattle.rules.specs.Growth.{Begins, Grown}
use Rattle.rules.specs.Passed.{PassesCheck}

abbrev pub Closes : Kind → Type 0
Closes Value = ⊥
Closes Open = ⊥
Closes Close = Unit {0}

-- no class 0, and at most seven bits, all 0, between p and a close
pub record Neat (bits : List Bool) (p : ℕ) (i : Item) : Type 0 where
  pub known : i.class ≡ 0 → ⊥
  pub near : Closes i.kind → i.place ≤ p + 7
  pub zeros : Closes i.kind → Zeros bits p i.place

module _ (d : Description) (L : ℕ) where
  -- after the items `is`, for which `w` was written, some bits make a reading of this length hand out i next, neatly
  abbrev pub MayFollow : List Item → List Bool → Item → Type 0
  MayFollow is w i =
      (B : List Bool) × (length B ≡ L) × Begins w B × Begins (is ++ (i ∷ [])) (items (reading d B)) × Neat B (length w) i

  -- the items that were put by the rule, and what is then written: 0 up to an item's place, and its own bits
  pub data PutDown : List Item → List Bool → Type 0 where
    none : PutDown [] []
    more : {is : List Item} {w : List Bool} (i : Item) → PutDown is w → MayFollow is w i →
        PutDown (is ++ (i ∷ [])) (w ++ (replicate (i.place - length w) false ++ own_bits d i))

  -- all is put: some bits after those written let the reading end with just these items
  abbrev pub AllPut : List Item → List Bool → Type 0
  AllPut is w =
      (B : List Bool) × (length B ≡ L) × Begins w B × (items (reading d B) ≡ is) × (outcome (reading d B) ≡ ended)

  -- what is written, and then 0
  abbrev pub finished : List Bool → List Bool
  finished w = w ++ replicate (L - length w) false

-- what can be put by the rule is what can be put by the tidy reading
abbrev pub RuleLaw : Type 0
RuleLaw =
    (d : Description) → PassesCheck d → Straight d → (L : ℕ) (is : List Item) (w : List Bool) →
    (PutDown d L is w → Written d L true is w) × (Written d L true is w → PutDown d L is w)

-- where all is put, the reading of what is written and then 0 hands out just the items and ends, and so does the tidy
-- reading
pub record Finishes (d : Description) (L : ℕ) (is : List Item) (w : List Bool) : Type 0 where
  pub same : items (reading d (finished d L w)) ≡ is
  pub ends : outcome (reading d (finished d L w)) ≡ ended
  pub tidy_same : items (tidy_reading d (finished d L w)) ≡ is
  pub tidy_ends : outcome (tidy_reading d (finished d L w)) ≡ ended

abbrev pub FinishLaw : Type 0
FinishLaw =
    (d : Description) → PassesCheck d → Straight d → (L : ℕ) (is : List Item) (w : List Bool) → PutDown d L is w → AllPut d L is w →
    Finishes d L is w

-- what is written by an older description, a newer one that has grown from it reads as just the items that were put,
-- and ends
abbrev pub NewerLaw : Type 0
NewerLaw =
    (older newer : Description) → PassesCheck older → PassesCheck newer → Grown older newer → Straight older →
    (L : ℕ) (is : List Item) (w : List Bool) → PutDown older L is w → AllPut older L is w →
    (items (reading newer (finished older L w)) ≡ is) × (outcome (reading newer (finished older L w)) ≡ ended)
