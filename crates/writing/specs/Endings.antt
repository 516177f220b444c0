-- Where a stream can be finished.
use Rattle.std.specs.Prelude.{◌≡◌, ℕ, ◌≤◌, Bool, true, false, List, length, Some, None, Option}
use Rattle.roundtrip.specs.Standing.{head, ends, Zeros}
use Rattle.writing.specs.declared.refusal.WritingRefusal.{WritingRefusal}
use Rattle.writing.specs.declared.state.Writing.{Writing}
use Rattle.writing.specs.Calls.{ahead_of, MayEnd, HasRoom, FinishRefused}

-- a reading can end after what is written, over all bits that are 0 from there on; or over no bits
abbrev pub CanEnd : Writing → Bool → Type 0
CanEnd w true = (w.written ≤ w.total) × ((B : List Bool) → length B ≡ w.total → Zeros B w.written w.total → head (ahead_of w B) ≡ ends tt)
CanEnd w false = MayEnd w → ⊥

-- why finishing is refused, if it is
abbrev pub Refused : Writing → (buffer : List ℕ) → Option WritingRefusal → Type 0
Refused w buffer None = HasRoom w buffer × CanEnd w true
Refused w buffer (Some e) = FinishRefused w buffer e
