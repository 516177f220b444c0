-- What holds of every open writing, taken out of its state.
use Rattle.std.proofs.Common.{◌≡◌, ℕ, ◌≤◌, Bool, true, false, List, [], ◌∷◌, subst}
use mathlib.Core.HLevel.{Unit-prop, ×_prop, Π_prop}
use mathlib.Core.Logic.{∥∥₁_elim}
use native.Mathlib.Bridge.{le_prop}
use native.Mathlib.Nat.{ℕ_set}
use Rattle.table.specs.Description.{line_at}
use Rattle.records.specs.Statements.{statement}
use Rattle.roundtrip.specs.Standing.{Stands}
use Rattle.roundtrip.specs.Writing.{Straight, looks_ahead}
use Rattle.objects.specs.Ahead.{Readable, readable_prop}
use Rattle.reading.specs.declared.open_object.OpenObject.{OpenObject}
use Rattle.reading.specs.Walks.{objects_of, Sound, from_of, Enclosed, EnclosedOnce, EnclosedWalk}
use Rattle.reading.specs.Walks.{sound_prop}
use Rattle.writing.specs.declared.state.Writing.{Writing}
use Rattle.writing.specs.Calls.{description_of, ahead_of}
use Rattle.writing.proofs.StandingWalks.{walk_stands}

enclosed_prop : (L : ℕ) (os : List OpenObject) (p : ℕ) → IsProp (Enclosed L os p)
enclosed_prop L [] p = le_prop
enclosed_prop L (a ∷ os) p = ×_prop le_prop (enclosed_prop L os a.opened.about.window.end)

once_prop : (b : Bool) (L : ℕ) (os : List OpenObject) (p : ℕ) → IsProp (EnclosedOnce b L os p)
once_prop true L os p = enclosed_prop L os p
once_prop false L os p = Unit-prop

module _ (w : Writing) where
  pub straight_of : Straight (description_of w)
  straight_of = ∥∥₁_elim w.ready (Π_prop (λ n. ℕ_set (looks_ahead (statement (line_at (description_of w) n))) 0)) (λ r. r.straight)

  pub sound_of : Sound (description_of w) w.walk
  sound_of = ∥∥₁_elim w.ready (sound_prop (description_of w) w.walk) (λ r. r.sound)

  pub readable_of : Readable (description_of w)
  readable_of = ∥∥₁_elim w.ready (readable_prop (description_of w)) (λ r. r.readable)

  pub enclosed_of : EnclosedWalk w.total w.walk
  enclosed_of = ∥∥₁_elim w.ready (once_prop w.walk.started w.total (objects_of w.walk) w.walk.place) (λ r. r.enclosed)

  pub place_of : from_of w.walk ≡ w.written
  place_of = ∥∥₁_elim w.ready (ℕ_set (from_of w.walk) w.written) (λ r. r.place)

  pub short_of : w.total ≤ 2147483647
  short_of = ∥∥₁_elim w.ready le_prop (λ r. r.short)

  pub stands_of : Stands (description_of w) w.total (λ (u : Unit {0}). w.total) w.total w.written (ahead_of w)
  stands_of =
      subst (λ n. Stands (description_of w) w.total (λ (u : Unit {0}). w.total) w.total n (ahead_of w)) place_of
      (walk_stands (description_of w) w.total straight_of w.walk sound_of enclosed_of)
