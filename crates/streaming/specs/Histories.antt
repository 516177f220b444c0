-- Histories of one streaming reading: it was opened, and then `next` was called, any number of times, whatever it was
-- lent and whatever it answered. Each step is just what the contract of the call promises.
use Rattle.std.specs.Prelude.{◌≡◌, ℕ, ◌*◌, Bool, List, [], ◌++◌, length, Some, None, Ok, Err}
use Rattle.table.specs.Description.{Description}
use Rattle.rules.specs.declared.items.Item.{Item}
use Rattle.rules.specs.declared.faults.ReadingFault.{ReadingFault}
use Rattle.rules.specs.Growth.{Begins}
use Rattle.rules.specs.Reading.{reading}
use Rattle.rules.specs.Trace.{items, outcome, Outcome, ended, refused}
use Rattle.reading.specs.Walks.{Answer}
use Rattle.reading.specs.Calls.{given}
use Rattle.reading.specs.Histories.{tells}
use Rattle.streaming.specs.declared.state.Streaming.{Streaming}
use Rattle.streaming.specs.Pages.{Holds}
use Rattle.streaming.specs.Calls.{Opened, NextCalled}

module _ (d : Description) (list : List Bool) where
  -- a reading by the description d of a stream with these bits, of which each piece that it was lent is one, and the
  -- items that it has handed out from its opening on, in order
  pub data History : Streaming → List Item → Type 0 where
    opened : {s : Streaming} {bytes : ℕ} → Opened d bytes s → length list ≡ 8 * bytes → History s []
    next : {s t : Streaming} {is : List Item} {first : ℕ} {bytes : List ℕ} {answer : Answer} →
        History s is → Holds list first bytes → NextCalled first bytes s (Some answer) t → History t (is ++ given answer)
    waited : {s t : Streaming} {is : List Item} {first : ℕ} {bytes : List ℕ} →
        History s is → Holds list first bytes → NextCalled first bytes s None t → History t is

  -- one that was called on until it answered that there is no item or a fault: what it has handed out, and how it ended
  pub data CalledOn : List Item → Outcome → Type 0 where
    ends : {s t : Streaming} {is : List Item} {first : ℕ} {bytes : List ℕ} →
        History s is → Holds list first bytes → NextCalled first bytes s (Some (Ok None)) t → CalledOn is ended
    stops : {s t : Streaming} {is : List Item} {first : ℕ} {bytes : List ℕ} {f : ReadingFault} →
        History s is → Holds list first bytes → NextCalled first bytes s (Some (Err f)) t → CalledOn is (refused f)

  -- what a streaming reading hands out, whatever pieces it was lent
  pub record HandsOut : Type 0 where
    -- a beginning of the items that the rules give for the whole stream
    pub beginning : {s : Streaming} {is : List Item} → History s is → Begins is (items (reading d list))
    -- called on, it has handed out all of them, and meets their end or fault
    pub whole : {is : List Item} {o : Outcome} → CalledOn is o → (is ≡ items (reading d list)) × (o ≡ outcome (reading d list))
    -- after the last item it answers the end or the fault, always
    pub stays : {s t : Streaming} {is : List Item} {first : ℕ} {bytes : List ℕ} {answer : Answer} →
        History s is → items (reading d list) ≡ is → Holds list first bytes → NextCalled first bytes s (Some answer) t → answer ≡ tells (outcome (reading d list))
