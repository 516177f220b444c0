-- What a call answers that reads a stream by a description file.
use Rattle.std.specs.Prelude.{◌≡◌, ◌⊎◌, ℕ, ◌<◌, ◌≤◌, Bool, true, false, List, [], ◌∷◌, length, map, Some, None, Ok, Err, Option, Result}
use Rattle.records.specs.declared.faults.Fault.{Fault}
use Rattle.records.specs.declared.faults.Cause.TheVariants.{Memory}
use Rattle.records.specs.Causes.{of_file}
use Rattle.bits.specs.declared.refusal.Refusal.{Refusal}
use Rattle.bits.specs.Refusals.{refusal_number}
use Rattle.table.specs.Description.{Description, description}
use Rattle.checked.specs.Check.{first_fault}
use Rattle.checked.specs.declared.checked.Checked.{Checked}
use Rattle.rules.specs.Reading.{reading}
use Rattle.rules.specs.Trace.{Run, items}
use Rattle.embed.specs.declared.answers.CheckAnswer.{CheckAnswer}
use Rattle.embed.specs.declared.answers.FaultAnswer.{FaultAnswer}
use Rattle.embed.specs.declared.answers.FlatItem.{FlatItem}
use Rattle.embed.specs.declared.folds.FoldAnswer.{FoldAnswer}
use Rattle.embed.specs.declared.read.ReadAnswer.{ReadAnswer}
use Rattle.embed.specs.Numbers.{check_of, flat}
use Rattle.embed.specs.Checking.{accepted}
use Rattle.embed.specs.Folding.{Folded, fault_at, no_fault}

-- the fault of a reading that was not begun, for this cause
abbrev pub unread_fault : ℕ → FaultAnswer
unread_fault cause = record { cause = cause; line = 0; node = 0; place = 0 }

-- a fold of nothing: nothing was read, for these reasons
abbrev pub Unfolded : FoldAnswer → CheckAnswer → ℕ → Type 0
Unfolded a check cause = a ≡ record { check = check; fault = unread_fault cause; items = 0; fold = 0 }

-- the description was accepted, and what its reading of these bits hands out was counted and folded
abbrev pub FoldedThrough : (ℕ → ℕ → ℕ) → ℕ → FoldAnswer → Description → List Bool → Type 0
FoldedThrough step start a d bits = (a.check ≡ accepted) × Folded step start (reading d bits) a.items a.fold a.fault

-- the answer where nothing was stored, for these reasons
abbrev pub unstored : CheckAnswer → ℕ → ReadAnswer
unstored check cause = record { check = check; fault = unread_fault cause; items = 0; full = false }

-- nothing was stored, for these reasons, and the table is as it was
abbrev pub Unstored : ReadAnswer → (before after : List FlatItem) → CheckAnswer → ℕ → Type 0
Unstored a before after check cause = (a ≡ unstored check cause) × (after ≡ before)

-- a table with these in its first slots, as many as it has; every later slot is as it was
unfoldable pub stored_over : List FlatItem → List FlatItem → List FlatItem
stored_over [] table = table
stored_over (i ∷ is) [] = []
stored_over (i ∷ is) (slot ∷ slots) = i ∷ stored_over is slots

-- the table got full, as there are at least as many items as slots
pub record GotFull (a : ReadAnswer) (room : ℕ) (t : Run (Unit {0})) : Type 0 where
  pub enough : room ≤ length (items t)
  pub items_are : a.items ≡ room
  pub fault_is : a.fault ≡ no_fault

-- all items were stored, and then came the fault or the end
pub record CameToEnd (a : ReadAnswer) (room : ℕ) (t : Run (Unit {0})) : Type 0 where
  pub few : length (items t) < room
  pub items_are : a.items ≡ length (items t)
  pub fault_is : a.fault ≡ fault_at t

-- the items of a run were stored in a table
pub record Stored (a : ReadAnswer) (t : Run (Unit {0})) (before after : List FlatItem) : Type 0 where
  pub check_is : a.check ≡ accepted
  pub table_is : after ≡ stored_over (map flat (items t)) before
  pub full : a.full ≡ true → GotFull a (length before) t
  pub ended : a.full ≡ false → CameToEnd a (length before) t

abbrev pub StoredThrough : ReadAnswer → (before after : List FlatItem) → Description → List Bool → Type 0
StoredThrough a before after d bits = Stored a (reading d bits) before after

-- by what the description file gives: its fault, want of memory, the description's first fault, or what comes of a
-- description that is accepted
abbrev pub FileTold : (Fault → Type 0) → (Description → Type 0) → Result Description Fault → Type 0
FileTold Refused Accepted (Err f) = Refused f
FileTold Refused Accepted (Ok d) =
    Refused (of_file Memory) ⊎ (((g : Fault) × (first_fault d ≡ Some g) × Refused g) ⊎ ((first_fault d ≡ None) × Accepted d))

-- by how it was checked
abbrev pub CheckedTo : (Fault → Type 0) → (Description → Type 0) → Result Checked Fault → Type 0
CheckedTo Refused Accepted (Err f) = Refused f
CheckedTo Refused Accepted (Ok c) = Accepted (description c.loaded)

-- by what is said of an answer where nothing was read, and where some bits were
module _ (Unread : CheckAnswer → ℕ → Type 0) (Through : Description → List Bool → Type 0) where
  -- by how the description was checked and what the source is
  abbrev pub CameTo : {S : Type 0} → (S → List Bool) → Result Checked Fault → Result S Refusal → Type 0
  CameTo bits (Err f) s = Unread (check_of f) 0
  CameTo bits (Ok c) (Err r) = Unread accepted (refusal_number r)
  CameTo bits (Ok c) (Ok s) = Through (description c.loaded) (bits s)

  -- a source of these bits was read, or there is none for this reason
  abbrev pub SourceTold : (wanted : List Bool) → Option Refusal → Description → Type 0
  SourceTold wanted None d = Through d wanted
  SourceTold wanted (Some why) d = Unread accepted (refusal_number why)

  -- by what the description file gives, and where it is accepted by what comes of the source
  abbrev pub StreamTold : Result Description Fault → (wanted : List Bool) → Option Refusal → Type 0
  StreamTold r wanted refusal = FileTold (λ f. Unread (check_of f) 0) (SourceTold wanted refusal) r
