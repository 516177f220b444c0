-- What a writing of items answers, by the contracts of the calls that it makes.
use Rattle.std.specs.Prelude.{◌≡◌, ℕ, List, [], ◌∷◌, ◌++◌, length, map, pos, Some, None, Ok, Err, Result, unwrap_or}
use Rattle.records.specs.declared.faults.Fault.{Fault}
use Rattle.table.specs.Description.{Description}
use Rattle.checked.specs.declared.checked.Checked.{Checked}
use Rattle.rules.specs.declared.items.Item.{Item}
use Rattle.rules.specs.declared.items.Kind.TheVariants.{Value}
use Rattle.rules.specs.Reading.{reading}
use Rattle.rules.specs.Trace as trace
use Rattle.writing.specs.declared.finish.Unfinished.{Unfinished}
use Rattle.writing.specs.declared.refusal.WritingRefusal.{WritingRefusal}
use Rattle.writing.specs.declared.state.Duty.{Duty}
use Rattle.writing.specs.declared.state.Writing.{Writing}
use Rattle.writing.specs.Calls.{Opened, PutCalled, FinishCalled}
use Rattle.writing.specs.Histories.{left_bits}
use Rattle.writing.specs.Refusals.{open_refusal, writing_refusal_number}
use Rattle.embed.specs.declared.answers.FlatItem.{FlatItem}
use Rattle.embed.specs.declared.write.WriteAnswer.{WriteAnswer}
use Rattle.embed.specs.Checking.{accepted}
use Rattle.embed.specs.Numbers.{check_of, item_with}
use Rattle.embed.specs.Told.{FileTold}

-- an item that every writing refuses, since its class is 0
abbrev pub refused_item : Item
refused_item = record { kind = Value; line = 0; class = 0; index = 0; value = pos 0; place = 0; length = 0 }

-- the item that is put for these numbers: where none has them, one that is always refused
abbrev pub item_for : FlatItem → Item
item_for n = unwrap_or (item_with n) refused_item

-- from a writing and its buffer on, these items were put, one after the other, and left this writing and this buffer
module _ (first : Writing) (before : List ℕ) where
  pub data Took : Writing → (buffer : List ℕ) → List FlatItem → Type 0 where
    none : Took first before []
    one_more : {v w : Writing} {buffer stored : List ℕ} {ns : List FlatItem} (n : FlatItem) →
        Took v buffer ns → PutCalled v (item_for n) buffer (Ok tt) w stored → Took w stored (ns ++ (n ∷ []))

  -- or this many, and the next was refused
  pub data Stopped (ns : List FlatItem) : ℕ → WritingRefusal → Writing → (stored : List ℕ) → Type 0 where
    stopped : {v w : Writing} {buffer stored : List ℕ} {e : WritingRefusal} (done : List FlatItem) (n : FlatItem) (rest : List FlatItem) →
        ns ≡ done ++ (n ∷ rest) → Took v buffer done → PutCalled v (item_for n) buffer (Err e) w stored → Stopped ns (length done) e w stored

  abbrev pub PutAll : List FlatItem → Result (Unit {0}) (ℕ × WritingRefusal) → Writing → (stored : List ℕ) → Type 0
  PutAll ns (Ok u) w stored = Took w stored ns
  PutAll ns (Err x) w stored = Stopped ns x.0 x.1 w stored

-- the number of what finishing was refused for, 0 where it went through
abbrev pub finish_number : Result Checked Unfinished → ℕ
finish_number (Ok c) = 0
finish_number (Err u) = writing_refusal_number u.refusal

-- the answer where the description was accepted
abbrev pub wrote : (items refusal : ℕ) → WriteAnswer
wrote items refusal = record { check = accepted; items = items; refusal = refusal }

-- finishing was called, and this is the answer after so many items
abbrev pub Ended : Writing → Duty → (items : ℕ) → (before : List ℕ) → WriteAnswer → (after : List ℕ) → Type 0
Ended w duty items before a after =
    (r : Result Checked Unfinished) × FinishCalled w duty before r after × (a ≡ wrote items (finish_number r))

module _ (ns : List FlatItem) (total : ℕ) (before : List ℕ) (a : WriteAnswer) (after : List ℕ) where
  -- the round trip: where nothing was refused, the bits left read as the items that were put, and end
  abbrev pub ReadsBack : Description → Type 0
  ReadsBack d =
      a.refusal ≡ 0 →
      (trace.items (reading d (left_bits d total after)) ≡ map item_for ns) × (trace.outcome (reading d (left_bits d total after)) ≡ trace.ended)

  -- what a writing by an accepted description came to
  pub data Written (d : Description) : Type 0 where
    -- opening was refused, and the buffer is as it was
    unopened : {e : WritingRefusal} → open_refusal d total ≡ Some e → a ≡ wrote 0 (writing_refusal_number e) → after ≡ before → Written d
    -- it was opened, and an item was refused after those before it
    refused : {first w : Writing} {count : ℕ} {e : WritingRefusal} → open_refusal d total ≡ None → Opened d total first →
        Stopped first before ns count e w after → a ≡ wrote count (writing_refusal_number e) → Written d
    -- it was opened, all items were put, and finishing was called; where that went through, the bits left read as the items
    ended : {first w : Writing} {duty : Duty} {buffer : List ℕ} → open_refusal d total ≡ None → Opened d total first →
        Took first before w buffer ns → Ended w duty (length ns) buffer a after → ReadsBack d → Written d

  -- nothing was put for a fault of the description, and the buffer is as it was
  abbrev pub NotBegun : Fault → Type 0
  NotBegun f = (a ≡ record { check = check_of f; items = 0; refusal = 0 }) × (after ≡ before)

  -- by what the description file gives
  abbrev pub WriteTold : Result Description Fault → Type 0
  WriteTold r = FileTold NotBegun Written r
