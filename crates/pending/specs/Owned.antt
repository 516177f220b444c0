-- An item's own bits as a number.
use Rattle.std.specs.Prelude.{◌≡◌, ℕ, ◌^◌, ◌<◌, ◌≤◌, Bool, List, Some, None, Option}
use Rattle.bits.specs.Bits.{bits_of}
use Rattle.table.specs.Description.{Description, class_at, map_at}
use Rattle.pending.specs.declared.own.Own.{Own}

-- some bits as a number, of an item that makes sense
pub record Gives (own : List Bool) (Sense : Type 0) (o : Own) : Type 0 where
  pub bits : bits_of o.width o.value ≡ own
  pub short : o.width ≤ 48
  pub small : o.value < 2 ^ o.width
  pub sense : Sense

-- the bits, or none where the item makes no sense
abbrev pub Answers : (own : List Bool) → (Sense : Type 0) → Option Own → Type 0
Answers own Sense (Some o) = Gives own Sense o
Answers own Sense None = Sense → ⊥

-- ids and indices of maps have at most 16 bits
pub record Narrow (d : Description) : Type 0 where
  pub ids : (n : ℕ) → (class_at d n).width ≤ 16
  pub maps : (n : ℕ) → (map_at d n).width ≤ 16
