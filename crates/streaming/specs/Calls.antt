-- What the calls of a streaming reading promise.
use Rattle.std.specs.Prelude.{◌≡◌, ℕ, ◌+◌, ◌*◌, ◌/◌, ◌<◌, ◌≤◌, min, Bool, false, ◌&&◌, nat_le, List, length, Option, Some, None, Ok, Err, Result}
use Rattle.bits.specs.declared.refusal.Refusal.{Refusal}
use Rattle.bits.specs.declared.refusal.Refusal.TheVariants.{TooLong}
use Rattle.bits.specs.Make.{most_bytes}
use Rattle.table.specs.Description.{Description, description}
use Rattle.rules.specs.Trace.{Run}
use Rattle.rules.specs.Reading.{reading}
use Rattle.objects.specs.Likewise.{reach}
use Rattle.reading.specs.Reads.{held, skipped, Told}
use Rattle.reading.specs.Walks.{Answer, walk_ahead, from_of}
use Rattle.streaming.specs.declared.state.Streaming.{Streaming}
use Rattle.streaming.specs.declared.state.Wanted.{Wanted}
use Rattle.streaming.specs.Pages.{Holds}

-- what lies ahead, over the bits of the whole stream
abbrev pub ahead : List Bool → Streaming → Run (Unit {0})
ahead B s = held s.fault (walk_ahead (description s.tables.now) B s.walk)

-- the stream may have these bits: it has as many
abbrev pub MayHave : Streaming → List Bool → Type 0
MayHave s B = length B ≡ 8 * s.total

-- a reading of a stream of so many bytes that was just opened: whatever the bytes are, their whole reading lies ahead
pub record Opened (d : Description) (bytes : ℕ) (s : Streaming) : Type 0 where
  pub description : description s.tables.now ≡ d
  pub total : s.total ≡ bytes
  pub ahead : (B : List Bool) → ahead B s ≡ reading d B

abbrev pub OpenCalled : Description → (bytes : ℕ) → Result Streaming Refusal → Type 0
OpenCalled d bytes (Ok s) = Opened d bytes s × (bytes ≤ most_bytes)
OpenCalled d bytes (Err why) = (why ≡ TooLong) × (most_bytes < bytes)

-- the bytes that the next step may look at: from that of the place on, as far as a step reaches
abbrev pub wanted_by : Streaming → Wanted
wanted_by s = record { first = min (from_of s.walk / 8) s.total; end = min ((from_of s.walk + reach + 7) / 8) s.total }

-- whether so many bytes from number `first` on are among the stream's, and all that are wanted
abbrev pub covers : Streaming → (first count : ℕ) → Bool
covers s first count = nat_le first (wanted_by s).first && (nat_le (wanted_by s).end (first + count) && nat_le (first + count) s.total)

-- a call leaves the description and the stream's length as they are
pub record Keeps (before after : Streaming) : Type 0 where
  pub description : description after.tables.now ≡ description before.tables.now
  pub total : after.total ≡ before.total

-- an answer from what lay ahead: its head, and its tail is left; nothing, and at most silent steps are passed over
abbrev pub Comes : Run (Unit {0}) → Option Answer → Run (Unit {0}) → Type 0
Comes before None after = skipped before ≡ skipped after
Comes before (Some a) after = Told before a after

-- `next`, lent some bytes from byte `first` on: whatever the stream's other bytes are, it answers the head of what lay
-- ahead and leaves its tail; it answers nothing only where other bytes are then wanted
pub record NextCalled (first : ℕ) (bytes : List ℕ) (before : Streaming) (answer : Option Answer) (after : Streaming) : Type 0 where
  pub comes : (B : List Bool) → MayHave before B → Holds B first bytes → Comes (ahead B before) answer (ahead B after)
  pub waits : answer ≡ None → covers after first (length bytes) ≡ false
  pub keeps : Keeps before after
