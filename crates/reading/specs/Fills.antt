-- How a table is filled with items.
use Rattle.std.specs.Prelude.{◌≡◌, ℕ, zero, suc, List, [], ◌∷◌, ◌++◌, length, drop}
use Rattle.rules.specs.declared.items.Item.{Item}
use Rattle.rules.specs.Trace.{Run, out, pass, stop, done}
use Rattle.reading.specs.declared.next.Filled.{Filled}
use Rattle.reading.specs.declared.next.Filled.TheVariants.{Full, End, Refused}

-- the first items of what lies ahead, at most so many
unfoldable pub first_items : ℕ → Run (Unit {0}) → List Item
first_items zero t = []
first_items (suc n) (out i t) = i ∷ first_items n t
first_items (suc n) (pass t) = first_items (suc n) t
first_items (suc n) (stop f) = []
first_items (suc n) (done u) = []

-- how it ends there
unfoldable pub ends_as : ℕ → Run (Unit {0}) → Filled
ends_as zero t = Full
ends_as (suc n) (out i t) = ends_as n t
ends_as (suc n) (pass t) = ends_as (suc n) t
ends_as (suc n) (stop f) = Refused f
ends_as (suc n) (done u) = End

-- what then lies ahead
unfoldable pub ahead_after : ℕ → Run (Unit {0}) → Run (Unit {0})
ahead_after zero t = t
ahead_after (suc n) (out i t) = ahead_after n t
ahead_after (suc n) (pass t) = ahead_after (suc n) t
ahead_after (suc n) (stop f) = stop f
ahead_after (suc n) (done u) = done tt

-- the table has the items first, and then what it had
pub record Fills (before : Run (Unit {0})) (table : List Item) (count : ℕ) (how : Filled) (filled : List Item) (after : Run (Unit {0})) : Type 0 where
  pub count_is : count ≡ length (first_items (length table) before)
  pub ends : how ≡ ends_as (length table) before
  pub items : filled ≡ first_items (length table) before ++ drop count table
  pub ahead : after ≡ ahead_after (length table) before
