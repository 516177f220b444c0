-- Histories of one reading: it was opened, and then `next`, `fill` and `position` were called, in any order and number,
-- whatever they answered. Each step is just what the contract of the call promises.
use Rattle.std.specs.Prelude.{◌≡◌, ℕ, Bool, List, [], ◌∷◌, ◌++◌, take, Some, None, Ok, Err}
use Rattle.table.specs.Description.{Description}
use Rattle.rules.specs.declared.items.Item.{Item}
use Rattle.rules.specs.declared.faults.ReadingFault.{ReadingFault}
use Rattle.rules.specs.Growth.{Begins}
use Rattle.rules.specs.Reading.{reading}
use Rattle.rules.specs.Trace.{items, outcome, Outcome, ended, refused}
use Rattle.bits.specs.declared.source.Source.{Ghosts}
use Rattle.reading.specs.declared.next.Filled.{Filled}
use Rattle.reading.specs.declared.state.Reading.{Reading}
use Rattle.reading.specs.Walks.{Answer}
use Rattle.reading.specs.Calls.{given, Opened, NextCalled, FillCalled, PositionAsked}
use Rattle.reading.specs.Positions.{position_after, latest}

-- how `next` tells an outcome
abbrev pub tells : Outcome → Answer
tells ended = Ok None
tells (refused f) = Err f

module _ {S : Type 0} {g : Ghosts S} (bits : S → List Bool) (d : Description) (list : List Bool) where
  -- a reading by the description d of a source with these bits, and the items that it has handed out from its opening
  -- on, in order
  pub data History : Reading S g → List Item → Type 0 where
    opened : {r : Reading S g} → Opened bits d list r → History r []
    next : {r s : Reading S g} {is : List Item} {answer : Answer} → History r is → NextCalled bits r answer s → History s (is ++ given answer)
    fill : {r s : Reading S g} {is : List Item} {table filled : List Item} {count : ℕ} {how : Filled} →
        History r is → FillCalled bits r table count how filled s → History s (is ++ take count filled)
    position : {r : Reading S g} {is : List Item} {p : ℕ} → History r is → PositionAsked bits r p → History r is

module _ {S : Type 0} (g : Ghosts S) (bits : S → List Bool) (d : Description) (list : List Bool) where
  -- a reading that was called on, by `next`, until it answered that there is no item or a fault: what it has handed
  -- out, and how it ended
  pub data CalledOn : List Item → Outcome → Type 0 where
    ends : {r s : Reading S g} {is : List Item} → History bits d list r is → NextCalled bits r (Ok None) s → CalledOn is ended
    stops : {r s : Reading S g} {is : List Item} {f : ReadingFault} → History bits d list r is → NextCalled bits r (Err f) s → CalledOn is (refused f)

  -- what a reading hands out, whatever was called
  pub record HandsOut : Type 0 where
    -- a beginning of the items that the rules give
    pub beginning : {r : Reading S g} {is : List Item} → History bits d list r is → Begins is (items (reading d list))
    -- called on, it has handed out all of them, and meets their end or fault
    pub whole : {is : List Item} {o : Outcome} → CalledOn is o → (is ≡ items (reading d list)) × (o ≡ outcome (reading d list))
    -- while some are left, `next` answers the first of them; after the last it answers the end or the fault, always
    pub goes_on : {r s : Reading S g} {is : List Item} {answer : Answer} (i : Item) (left : List Item) →
        History bits d list r is → items (reading d list) ≡ is ++ (i ∷ left) → NextCalled bits r answer s → answer ≡ Ok (Some i)
    pub stays : {r s : Reading S g} {is : List Item} {answer : Answer} →
        History bits d list r is → items (reading d list) ≡ is → NextCalled bits r answer s → answer ≡ tells (outcome (reading d list))
    -- `position` answers where the bits of the last item handed out end
    pub position : {r : Reading S g} {is : List Item} {p : ℕ} → History bits d list r is → PositionAsked bits r p → p ≡ position_after d list (latest None is)
