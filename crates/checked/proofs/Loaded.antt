-- What loading and checking answer.
use Rattle.std.proofs.Common.{◌≡◌, Some, None, Ok, Err, Option, Result, inl, inr, sym, ap, ◌∙◌}
use Rattle.records.specs.declared.faults.Fault.{Fault}
use Rattle.table.specs.declared.loaded.Loaded.{Loaded}
use Rattle.table.specs.Description.{Description, description}
use Rattle.table.specs.Loading.{Loads}
use Rattle.checked.specs.Check.{first_fault}
use Rattle.checked.specs.Making.{Makes, Checks}
use Rattle.checked.specs.declared.checked.Checked.{Checked}

pub not_loaded : (r : Result Description Fault) (f : Fault) → Loads r (Err f) → Checks r (Err f)
not_loaded (Ok d) f h = inl h
not_loaded (Err g) f h = h

made : (d : Description) (l : Loaded) (s : Result Checked Fault) (o : Option Fault) → description l ≡ d → first_fault d ≡ o → Makes o l s → Checks (Ok d) s
made d l (Err g) (Some f) h e m = inr (e ∙ ap Some (sym m))
made d l (Ok c) (Some f) h e m = absurd m
made d l (Err g) None h e m = absurd m
made d l (Ok c) None h e m = ap description m ∙ h

pub then_checked : (r : Result Description Fault) (l : Loaded) (s : Result Checked Fault) → Loads r (Ok l) → Makes (first_fault (description l)) l s → Checks r s
then_checked (Ok d) l s h m = made d l s (first_fault (description l)) h (ap first_fault (sym h)) m
then_checked (Err f) l s h m = absurd h
