-- What the calls of a writing promise: each is the whole contract of the call.
use Rattle.std.specs.Prelude.{◌≡◌, ℕ, ◌-◌, ◌*◌, ◌<◌, ◌≤◌, Bool, false, List, ◌++◌, length, take, drop, replicate, Some, None, Ok, Err, Result}
use Rattle.bits.specs.Bits.{bits_all}
use Rattle.table.specs.Description.{Description, description}
use Rattle.checked.specs.declared.checked.Checked.{Checked}
use Rattle.rules.specs.declared.items.Item.{Item}
use Rattle.rules.specs.Reading.{reading}
use Rattle.rules.specs.Trace.{Run}
use Rattle.roundtrip.specs.Own.{end_of}
use Rattle.roundtrip.specs.Rule.{Neat}
use Rattle.roundtrip.specs.Standing.{head, gives, ends, Zeros, Fits}
use Rattle.roundtrip.specs.Writing.{appended}
use Rattle.reading.specs.Walks.{walk_ahead}
use Rattle.writing.specs.declared.open.Unopened.{Unopened}
use Rattle.writing.specs.declared.finish.Unfinished.{Unfinished as Unended}
use Rattle.writing.specs.declared.refusal.WritingRefusal.{WritingRefusal}
use Rattle.writing.specs.declared.refusal.WritingRefusal.TheVariants.{TooLong, NotNext, LooksAhead, ShortBuffer, Unfinished}
use Rattle.writing.specs.declared.state.Duty.{Duty}
use Rattle.writing.specs.declared.state.Writing.{Writing}
use Rattle.writing.specs.Refusals.{open_refusal}

abbrev pub description_of : Writing → Description
description_of w = description w.checked.loaded

-- what a reading of the stream would do after what is written, by the bits of the whole stream
abbrev pub ahead_of : Writing → List Bool → Run (Unit {0})
ahead_of w B = walk_ahead (description_of w) B w.walk

-- a writing that was just opened, with a description and a length in bits: the whole reading lies ahead
pub record Opened (d : Description) (bits : ℕ) (w : Writing) : Type 0 where
  pub description : description_of w ≡ d
  pub total : w.total ≡ bits
  pub written : w.written ≡ 0
  pub ahead : (B : List Bool) → ahead_of w B ≡ reading d B

-- opening: refused by number, with the description handed back, or a writing, and the duty to end one of that length
abbrev pub OpenCalled : Checked → (bits : ℕ) → Result (Writing × Duty) Unopened → Type 0
OpenCalled checked bits (Ok x) = (open_refusal (description checked.loaded) bits ≡ None) × Opened (description checked.loaded) bits x.0 × (x.1.total ≡ bits)
OpenCalled checked bits (Err u) = (open_refusal (description checked.loaded) bits ≡ Some u.refusal) × (u.checked ≡ checked)

-- some bits of the stream's length make a reading hand out this item next, after what is written: no class 0, and
-- with at most seven bits, all 0, unread before a close
abbrev pub MayCome : Writing → Item → Type 0
MayCome w i =
    (B : List Bool) × (length B ≡ w.total) × (r : Run (Unit {0})) × (head (ahead_of w B) ≡ gives i r) × Neat B w.written i

-- some bits of the stream's length make a reading end after what is written
abbrev pub MayEnd : Writing → Type 0
MayEnd w = (B : List Bool) × (length B ≡ w.total) × (head (ahead_of w B) ≡ ends tt)

-- the buffer is as long as the stream
abbrev pub HasRoom : Writing → (buffer : List ℕ) → Type 0
HasRoom w buffer = w.total ≤ length buffer * 8

abbrev pub ShortOfRoom : Writing → (buffer : List ℕ) → Type 0
ShortOfRoom w buffer = length buffer * 8 < w.total

-- an item was put: it may come next, and the stream goes on after it; the buffer has what putting it appends, and
-- else stays
pub record Puts (before : Writing) (i : Item) (buffer : List ℕ) (after : Writing) (stored : List ℕ) : Type 0 where
  pub room : HasRoom before buffer
  pub came : MayCome before i
  pub description : description_of after ≡ description_of before
  pub total : after.total ≡ before.total
  pub written : after.written ≡ end_of (description_of before) i
  pub forward : before.written ≤ i.place
  pub within : end_of (description_of before) i ≤ before.total
  -- over all bits that have what putting the item appends, it comes next
  pub goes_on :
      (B : List Bool) → length B ≡ before.total → Fits (description_of before) before.written i B →
      head (ahead_of before B) ≡ gives i (ahead_of after B)
  pub long : length stored ≡ length buffer
  pub bits :
      bits_all 8 stored ≡
      take before.written (bits_all 8 buffer) ++
      (appended (description_of before) before.written i ++ drop (end_of (description_of before) i) (bits_all 8 buffer))

-- nothing has changed
pub record Stays (before : Writing) (buffer : List ℕ) (after : Writing) (stored : List ℕ) : Type 0 where
  pub description : description_of after ≡ description_of before
  pub total : after.total ≡ before.total
  pub written : after.written ≡ before.written
  pub ahead : (B : List Bool) → ahead_of after B ≡ ahead_of before B
  pub buffer_is : stored ≡ buffer

-- why a put is refused: a short buffer, or else an item that may not come next
abbrev pub PutRefused : Writing → Item → (buffer : List ℕ) → WritingRefusal → Type 0
PutRefused w i buffer ShortBuffer = ShortOfRoom w buffer
PutRefused w i buffer NotNext = HasRoom w buffer × (MayCome w i → ⊥)
PutRefused w i buffer TooLong = ⊥
PutRefused w i buffer LooksAhead = ⊥
PutRefused w i buffer Unfinished = ⊥

abbrev pub PutCalled : (before : Writing) → Item → (buffer : List ℕ) → Result (Unit {0}) WritingRefusal → (after : Writing) → (stored : List ℕ) → Type 0
PutCalled before i buffer (Ok u) after stored = Puts before i buffer after stored
PutCalled before i buffer (Err e) after stored = PutRefused before i buffer e × Stays before buffer after stored

-- a stream was finished: a reading ends after what is written, and the bits left became 0
pub record Finishes (w : Writing) (buffer : List ℕ) (checked : Checked) (stored : List ℕ) : Type 0 where
  pub room : HasRoom w buffer
  pub may : MayEnd w
  pub description : checked ≡ w.checked
  pub within : w.written ≤ w.total
  -- over all bits that are 0 from there on, a reading ends
  pub ended : (B : List Bool) → length B ≡ w.total → Zeros B w.written w.total → head (ahead_of w B) ≡ ends tt
  pub long : length stored ≡ length buffer
  pub bits :
      bits_all 8 stored ≡
      take w.written (bits_all 8 buffer) ++ (replicate (w.total - w.written) false ++ drop w.total (bits_all 8 buffer))

-- why finishing is refused: a short buffer, or else a reading can't end there
abbrev pub FinishRefused : Writing → (buffer : List ℕ) → WritingRefusal → Type 0
FinishRefused w buffer ShortBuffer = ShortOfRoom w buffer
FinishRefused w buffer Unfinished = HasRoom w buffer × (MayEnd w → ⊥)
FinishRefused w buffer TooLong = ⊥
FinishRefused w buffer NotNext = ⊥
FinishRefused w buffer LooksAhead = ⊥

-- a refused finish hands the writing and its duty back as they were, and leaves the buffer
pub record HandsBack (w : Writing) (duty : Duty) (buffer : List ℕ) (u : Unended) (stored : List ℕ) : Type 0 where
  pub writing : u.writing ≡ w
  pub duty_is : u.duty ≡ duty
  pub buffer_is : stored ≡ buffer
  pub why : FinishRefused w buffer u.refusal

abbrev pub FinishCalled : Writing → Duty → (buffer : List ℕ) → Result Checked Unended → (stored : List ℕ) → Type 0
FinishCalled w duty buffer (Ok checked) stored = Finishes w buffer checked stored
FinishCalled w duty buffer (Err u) stored = HandsBack w duty buffer u stored
