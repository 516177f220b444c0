-- Trying an item.
use Rattle.std.specs.Prelude.{ℕ, ◌+◌, Bool, true, false, not, ◌&&◌, ◌||◌, List, nat_eq, nat_le}
use Rattle.rules.specs.declared.items.Item.{Item}
use Rattle.rules.specs.declared.items.Kind.{Kind}
use Rattle.rules.specs.declared.items.Kind.TheVariants.{Value, Open, Close}
use Rattle.writing.specs.declared.state.Writing.{Writing}
use Rattle.writing.specs.Calls.{MayCome, Puts, Stays}

abbrev pub is_close : Kind → Bool
is_close Value = false
is_close Open = false
is_close Close = true

-- a known class, and at most seven bits between what is written and a close
abbrev pub is_neat : Item → (written : ℕ) → Bool
is_neat i written = not (nat_eq i.class 0) && (not (is_close i.kind) || nat_le i.place (written + 7))

-- the item was put, or it may not come next and nothing has changed
abbrev pub Taken : (before : Writing) → Item → (buffer : List ℕ) → Bool → (after : Writing) → (stored : List ℕ) → Type 0
Taken before i buffer true after stored = Puts before i buffer after stored
Taken before i buffer false after stored = (MayCome before i → ⊥) × Stays before buffer after stored
