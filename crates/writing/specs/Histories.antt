-- Histories of one writing: it was opened, and then `put` and `finish` were called, in any order and number, accepted
-- or refused, with one buffer that nothing else changes. Each step is just what the contract of the call promises.
use Rattle.std.specs.Prelude.{ℕ, Bool, List, [], ◌∷◌, ◌++◌, length, take, Ok, Err}
use Rattle.bits.specs.Bits.{bits_all}
use Rattle.table.specs.Description.{Description}
use Rattle.checked.specs.declared.checked.Checked.{Checked}
use Rattle.rules.specs.declared.items.Item.{Item}
use Rattle.roundtrip.specs.Writing.{appended}
use Rattle.writing.specs.declared.finish.Unfinished.{Unfinished}
use Rattle.writing.specs.declared.refusal.WritingRefusal.{WritingRefusal}
use Rattle.writing.specs.declared.state.Duty.{Duty}
use Rattle.writing.specs.declared.state.Writing.{Writing}
use Rattle.writing.specs.Calls.{Opened, PutCalled, FinishCalled}

module _ (d : Description) (total : ℕ) where
  -- an open writing by the description d, of so many bits, with its buffer; the items that it has taken from its
  -- opening on, in order, and the bits that they appended
  pub data Wrote : Writing → (buffer : List ℕ) → List Item → List Bool → Type 0 where
    opened : {w : Writing} {buffer : List ℕ} → Opened d total w → Wrote w buffer [] []
    put : {v w : Writing} {buffer stored : List ℕ} {is : List Item} {bits : List Bool} (i : Item) →
        Wrote v buffer is bits → PutCalled v i buffer (Ok tt) w stored → Wrote w stored (is ++ (i ∷ [])) (bits ++ appended d (length bits) i)
    put_refused : {v w : Writing} {buffer stored : List ℕ} {is : List Item} {bits : List Bool} (i : Item) (e : WritingRefusal) →
        Wrote v buffer is bits → PutCalled v i buffer (Err e) w stored → Wrote w stored is bits
    finish_refused : {v : Writing} {duty : Duty} {buffer stored : List ℕ} {is : List Item} {bits : List Bool} {u : Unfinished} →
        Wrote v buffer is bits → FinishCalled v duty buffer (Err u) stored → Wrote u.writing stored is bits

  -- the finish that goes through: what the buffer then holds, and the items that were put
  pub data Finished : (buffer : List ℕ) → List Item → Type 0 where
    finished : {w : Writing} (duty : Duty) {buffer stored : List ℕ} {is : List Item} {bits : List Bool} (checked : Checked) →
        Wrote w buffer is bits → FinishCalled w duty buffer (Ok checked) stored → Finished stored is

  -- the bits left: the buffer's first, as many as the stream has
  abbrev pub left_bits : (buffer : List ℕ) → List Bool
  left_bits buffer = take total (bits_all 8 buffer)
