-- What the calls of a reading promise: each is the whole contract of the call.
use Rattle.std.specs.Prelude.{◌≡◌, ℕ, Bool, List, [], ◌∷◌, length, Some, None, Ok, Err}
use Rattle.table.specs.Description.{Description}
use Rattle.rules.specs.declared.items.Item.{Item}
use Rattle.rules.specs.Reading.{reading}
use Rattle.bits.specs.declared.source.Source.{Ghosts}
use Rattle.reading.specs.declared.next.Filled.{Filled}
use Rattle.reading.specs.declared.state.Reading.{Reading}
use Rattle.reading.specs.Fills.{first_items, Fills}
use Rattle.reading.specs.Positions.{position_after, latest}
use Rattle.reading.specs.Walks.{Answer}
use Rattle.reading.specs.Reads.{ahead, last_of, description_of, bits_of_source, Next, Told}

-- the item that an answer hands out, if any
abbrev pub given : Answer → List Item
given (Ok (Some i)) = i ∷ []
given (Ok None) = []
given (Err f) = []

module _ {S : Type 0} {g : Ghosts S} (bits : S → List Bool) where
  -- a reading that was just opened with a description and a source of these bits: the whole reading lies ahead
  pub record Opened (d : Description) (list : List Bool) (r : Reading S g) : Type 0 where
    pub description : description_of r ≡ d
    pub source : bits_of_source bits r ≡ list
    pub ahead : ahead bits r ≡ reading d list
    pub last : last_of r ≡ None

  -- a call leaves the description and the source as they are
  pub record Keeps (before after : Reading S g) : Type 0 where
    pub description : description_of after ≡ description_of before
    pub source : bits_of_source bits after ≡ bits_of_source bits before

  -- `next` answers the head of what lay ahead and leaves its tail
  pub record NextCalled (before : Reading S g) (answer : Answer) (after : Reading S g) : Type 0 where
    -- by what lay ahead
    pub next : Next (ahead bits before) answer (ahead bits after)
    -- by what was answered
    pub told : Told (ahead bits before) answer (ahead bits after)
    pub last : last_of after ≡ latest (last_of before) (given answer)
    pub keeps : Keeps before after

  -- `fill` hands out as many items as fit, and leaves the rest of the table
  pub record FillCalled (before : Reading S g) (table : List Item) (count : ℕ) (how : Filled) (filled : List Item) (after : Reading S g) : Type 0 where
    pub fills : Fills (ahead bits before) table count how filled (ahead bits after)
    pub last : last_of after ≡ latest (last_of before) (first_items (length table) (ahead bits before))
    pub keeps : Keeps before after

  -- `position` answers where the bits of the last item end
  abbrev pub PositionAsked : Reading S g → ℕ → Type 0
  PositionAsked r p = p ≡ position_after (description_of r) (bits_of_source bits r) (last_of r)
