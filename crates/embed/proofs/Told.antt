-- What checking came to, in numbers, and what reading a stream came to.
use Rattle.std.proofs.Common.{◌≡◌, Bool, false, ℕ, List, Some, None, Ok, Err, Option, Result, inl, inr, sym, ap, subst, refl}
use Rattle.std.proofs.lemmas.Bool.{false≢true}
use Rattle.records.specs.declared.faults.Fault.{Fault}
use Rattle.table.specs.Description.{Description, description}
use Rattle.table.specs.First.{is_some}
use Rattle.checked.specs.Check.{first_fault}
use Rattle.checked.specs.Making.{Checks}
use Rattle.checked.specs.declared.checked.Checked.{Checked}
use Rattle.bits.specs.declared.refusal.Refusal.{Refusal}
use Rattle.embed.specs.declared.answers.CheckAnswer.{CheckAnswer}
use Rattle.embed.specs.Told.{CameTo, SourceTold, FileTold, CheckedTo, StreamTold}
use Rattle.embed.specs.Checking.{check_or_none, answer_of, CheckTold}
use Rattle.embed.specs.Numbers.{check_of}
use Rattle.embed.specs.Sources.{Gives}

none : (o : Option Fault) → is_some o ≡ false → o ≡ None
none None e = refl
none (Some f) e = absurd (false≢true (sym e))

-- a checked description has no fault
faultless : (d : Description) (c : Checked) → description c.loaded ≡ d → first_fault d ≡ None
faultless d c h = none (first_fault d) (subst (λ (e : Description). is_some (first_fault e) ≡ false) h c.faultless)

pub told : (r : Result Description Fault) (s : Result Checked Fault) → Checks r s → CheckTold r (answer_of s)
told (Err f) (Err g) h = ap check_of h
told (Err f) (Ok c) h = absurd h
told (Ok d) (Err g) (inl h) = inl (ap check_of h)
told (Ok d) (Err g) (inr h) = inr (sym (ap check_or_none h))
told (Ok d) (Ok c) h = inr (sym (ap check_or_none (faultless d c h)))

-- by how the file was checked, whatever is said of a refused one and of an accepted one
pub file_told : (U : Fault → Type 0) (A : Description → Type 0) (r : Result Description Fault) (s : Result Checked Fault) → Checks r s
    → CheckedTo U A s → FileTold U A r
file_told U A (Err f) (Err g) h t = subst U h t
file_told U A (Err f) (Ok c) h t = absurd h
file_told U A (Ok d) (Err g) (inl h) t = inl (subst U h t)
file_told U A (Ok d) (Err g) (inr h) t = inr (inl (g, h, t))
file_told U A (Ok d) (Ok c) h t = inr (inr (faultless d c h, subst A h t))

module _ (U : CheckAnswer → ℕ → Type 0) (T : Description → List Bool → Type 0) {S : Type 0} (bits : S → List Bool) (wanted : List Bool) (refusal : Option Refusal) where
  source_told : (c : Checked) (m : Result S Refusal) → Gives m bits wanted refusal → CameTo U T bits (Ok c) m → SourceTold U T wanted refusal (description c.loaded)
  source_told c (Ok s) h t =
      subst (λ (o : Option Refusal). SourceTold U T wanted o (description c.loaded)) (sym h.1) (subst (λ (l : List Bool). T (description c.loaded) l) h.0 t)
  source_told c (Err e) h t = subst (λ (o : Option Refusal). SourceTold U T wanted o (description c.loaded)) (sym h) t

  pub stream_told : (r : Result Description Fault) (s : Result Checked Fault) (m : Result S Refusal) → Checks r s
      → Gives m bits wanted refusal → CameTo U T bits s m → StreamTold U T r wanted refusal
  stream_told r (Err g) m h k t = file_told (λ f. U (check_of f) 0) (SourceTold U T wanted refusal) r (Err g) h t
  stream_told r (Ok c) m h k t = file_told (λ f. U (check_of f) 0) (SourceTold U T wanted refusal) r (Ok c) h (source_told c m k t)
