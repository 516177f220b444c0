-- What lies ahead of a reading, by its open objects.
use Rattle.std.specs.Prelude.{◌≡◌, ℕ, ◌+◌, ◌-◌, ◌≤◌, min, Bool, true, false, cond, List, [], ◌∷◌, length, Some, None, Option, Ok, Err, Result}
use Rattle.std.proofs.Common.{arith}
use mathlib.Core.HLevel.{Unit-prop, ×_prop}
use native.Mathlib.Bridge.{le_prop}
use Rattle.table.specs.Description.{Description}
use Rattle.rules.specs.declared.faults.ReadingFault.{ReadingFault}
use Rattle.rules.specs.declared.items.Item.{Item}
use Rattle.rules.specs.declared.items.Kind.{Kind}
use Rattle.rules.specs.declared.items.Kind.TheVariants.{Value, Open, Close}
use Rattle.rules.specs.declared.steps.Window.{Window}
use Rattle.rules.specs.Trace.{Run, out, pass, stop, done, bind}
use Rattle.rules.specs.Checks.{attempt}
use Rattle.rules.specs.Steps.{at_end}
use Rattle.rules.specs.Values.{Names}
use Rattle.rules.specs.Reading.{State, write, all_zero, close_item, closed, object, reading}
use Rattle.values.specs.Names.{named_by}
use Rattle.roundtrip.specs.Own.{end_of}
use Rattle.roundtrip.specs.Standing.{Fits}
use Rattle.roundtrip.specs.Writing.{Straight}
use Rattle.objects.specs.declared.inside.About.{About}
use Rattle.objects.specs.Tops.{tops}
use Rattle.objects.specs.Frames.{frames}
use Rattle.objects.specs.Ahead.{Fit, fit_prop, object_of, content_run}
use Rattle.objects.specs.Passed.{passed}
use Rattle.objects.specs.Likewise.{Alike, reach}
use Rattle.reading.specs.declared.open_object.Using.{Using}
use Rattle.reading.specs.declared.open_object.Opened.{Opened}
use Rattle.reading.specs.declared.open_object.OpenObject.{OpenObject}
use Rattle.reading.specs.declared.walk.Walk.{Walk}

-- what a reading answers: an item, or none at the end, or why the source is refused
abbrev pub Answer : Type 0
Answer = Result (Option Item) ReadingFault

-- an object of a class that no line uses
abbrev pub by_none : (class : ℕ) → Using
by_none class = record { line = 0; class = class; index = 0; carried = 0; receiving = 0; named = omega arith }

-- what stands for an object that is not there
abbrev pub no_object : OpenObject
no_object =
    record {
      opened = record { about = record { class = 0; size = 0; window = record { end = 0; object = false } }; greatest = 0; used = by_none 0 };
      inside = record { frames = record { room = []; depth = 0 }; extension = 0; names = [] };
    }

-- the open objects, the innermost first
unfoldable pub objects_of : Walk → List OpenObject
objects_of w = tops no_object w.objects (min w.depth 16)

-- a window reaches no further than so many bits
abbrev pub capped : ℕ → Window → Window
capped n w = record { end = min w.end n; object = w.object }

-- an object whose window is cut so
abbrev pub cut : ℕ → About → About
cut n a = record { class = a.class; size = a.size; window = capped n a.window }

abbrev pub seen : ℕ → Opened → Opened
seen n a = record { about = cut n a.about; greatest = a.greatest; used = a.used }

-- the names of the innermost
abbrev pub names_of : List OpenObject → Names
names_of [] = all_zero
names_of (a ∷ os) = named_by a.inside.names

-- the state around an object that was left in u
abbrev pub received : Using → State → List OpenObject → State
received used u os = record { place = u.place; names = write used.receiving (u.names used.carried) (names_of os) }

module _ (d : Description) (bits : List Bool) where
  -- what follows in open objects, from a state of the innermost
  unfoldable pub rest_from : List OpenObject → State → Run (Unit {0})
  rest_from [] s = attempt 0 s.place (at_end bits s.place) done
  rest_from (a ∷ os) s =
      bind (content_run d bits (object d bits (15 - length os)) (object_of (seen (length bits) a.opened).about) a.inside.extension (frames a.inside.frames) s) λ t.
      let u = closed d bits a.opened.greatest (capped (length bits) a.opened.about.window) t in
      out (close_item a.opened.about.class a.opened.used.line a.opened.used.index u.place) (rest_from os (received a.opened.used u os))

  abbrev pub rest : List OpenObject → ℕ → Run (Unit {0})
  rest os p = rest_from os (record { place = p; names = names_of os })

  -- an object begins in open objects, at a place
  abbrev pub beginning : List OpenObject → Using → Window → ℕ → Run (Unit {0})
  beginning os used w p =
      bind (object d bits (16 - length os) used.line used.class used.index w p) λ t. rest_from os (received used t os)

  abbrev pub walk_ahead : Walk → Run (Unit {0})
  walk_ahead w = cond w.started (rest (objects_of w) w.place) (reading d bits)

-- what each open object has to do has room
unfoldable pub AllFit : Description → List OpenObject → Type 0
AllFit d [] = Unit {0}
AllFit d (a ∷ os) = Fit d (frames a.inside.frames) × AllFit d os

unfoldable pub Sound : Description → Walk → Type 0
Sound d w = AllFit d (objects_of w) × (w.place ≤ 2147483647)

all_fit_prop : (d : Description) (os : List OpenObject) → IsProp (AllFit d os)
unfolding AllFit
all_fit_prop d [] = Unit-prop
all_fit_prop d (o ∷ os) = ×_prop (fit_prop d (frames o.inside.frames)) (all_fit_prop d os)

pub sound_prop : (d : Description) (w : Walk) → IsProp (Sound d w)
unfolding Sound
sound_prop d w = ×_prop (all_fit_prop d (objects_of w)) le_prop

-- `before` silent steps are taken before what a step hands out, or does last
module _ (d : Description) (bits : List Bool) where
  pub record Quietly (from : Run (Unit {0})) (w : Walk) : Type 0 where
    pub before : ℕ
    pub same : from ≡ passed before (pass (walk_ahead d bits w))
    pub sound : Sound d w

  pub record Gives (from : Run (Unit {0})) (i : Item) (w : Walk) : Type 0 where
    pub before : ℕ
    pub same : from ≡ passed before (out i (walk_ahead d bits w))
    pub sound : Sound d w

  pub record Refuses (from : Run (Unit {0})) (f : ReadingFault) (w : Walk) : Type 0 where
    pub before : ℕ
    pub same : from ≡ passed before (stop f)
    pub sound : Sound d w

  pub record Ends (from : Run (Unit {0})) (w : Walk) : Type 0 where
    pub before : ℕ
    pub same : from ≡ passed before (done tt)
    pub still : walk_ahead d bits w ≡ done tt
    pub sound : Sound d w

  -- an answer from what lies ahead
  abbrev pub Answered : Run (Unit {0}) → Answer → Walk → Type 0
  Answered from (Ok (Some i)) w = Gives from i w
  Answered from (Ok None) w = Ends from w
  Answered from (Err f) w = Refuses from f w

  -- one step from it, which may hand out nothing
  abbrev pub Turned : Run (Unit {0}) → Option Answer → Walk → Type 0
  Turned from None w = Quietly from w
  Turned from (Some a) w = Answered from a w

-- where a walk takes its next bits; one that has not begun at 0
abbrev pub from_of : Walk → ℕ
from_of w = cond w.started w.place 0

-- how far the bits of an item and those passed over reach: of a value up to its end, else up to where the reading
-- then stands
abbrev pub looked_to : Kind → (place length after : ℕ) → ℕ
looked_to Value place length after = place + length
looked_to Open place length after = after
looked_to Close place length after = after

-- how far a step from p that hands out an item looks at bits: a close looks at none
abbrev pub sight : Kind → (p place length after : ℕ) → ℕ
sight Value p place length after = min (place + length) (p + reach)
sight Open p place length after = min after (p + reach)
sight Close p place length after = p

-- the bits over which a step from p does as it did: what it looked at is the same
abbrev pub Likewise : (bits B : List Bool) → (p : ℕ) → Option Answer → Walk → Type 0
Likewise bits B p None w = Alike bits B p (min w.place (p + reach))
Likewise bits B p (Some (Ok (Some i))) w = Alike bits B p (sight i.kind p i.place i.length w.place)
Likewise bits B p (Some (Ok None)) w = Alike bits B p (p + reach)
Likewise bits B p (Some (Err f)) w = Alike bits B p (p + reach)

-- a place lies in the innermost window, and each window in the one around it, the outermost in L bits
abbrev pub Enclosed : (L : ℕ) → List OpenObject → (p : ℕ) → Type 0
Enclosed L [] p = p ≤ L
Enclosed L (a ∷ os) p = (p ≤ a.opened.about.window.end) × Enclosed L os a.opened.about.window.end

abbrev pub EnclosedOnce : (begun : Bool) → (L : ℕ) → List OpenObject → (p : ℕ) → Type 0
EnclosedOnce true L os p = Enclosed L os p
EnclosedOnce false L os p = Unit {0}

-- a walk stands in its windows, once it has begun
abbrev pub EnclosedWalk : (L : ℕ) → Walk → Type 0
EnclosedWalk L w = EnclosedOnce w.started L (objects_of w) w.place

-- a walk stands in its windows, at or after p
pub record Within (L p : ℕ) (w : Walk) : Type 0 where
  pub begun : w.started ≡ true
  pub ahead : p ≤ w.place
  pub enclosed : Enclosed L (objects_of w) w.place

-- it has handed out an item, which begins at or after p; it stands at or after the item's place, and no further than
-- it looked, which is within the L bits
pub record Handed (L p : ℕ) (i : Item) (w : Walk) : Type 0 where
  pub within : Within L p w
  pub ahead : p ≤ i.place
  pub kept : i.place ≤ w.place
  pub most : w.place ≤ looked_to i.kind i.place i.length w.place
  pub end : looked_to i.kind i.place i.length w.place ≤ L

-- a step from p moves forward, and keeps within the windows
abbrev pub Bounded : (L p : ℕ) → Option Answer → Walk → Type 0
Bounded L p None w = Within L p w
Bounded L p (Some (Ok (Some i))) w = Handed L p i w
Bounded L p (Some (Ok None)) w = Unit {0}
Bounded L p (Some (Err f)) w = Unit {0}

-- a walk has handed out an item, and stands and has looked to where the item's own bits end
pub record OwnEnd (d : Description) (i : Item) (w : Walk) : Type 0 where
  pub after : w.place ≡ end_of d i
  pub looked : looked_to i.kind i.place i.length w.place ≡ end_of d i

-- over bits that have what putting the item at p appends
abbrev pub OwnEnds : Description → List Bool → (p : ℕ) → Option Answer → Walk → Type 0
OwnEnds d bits p None w = Unit {0}
OwnEnds d bits p (Some (Ok (Some i))) w = Fits d p i bits → OwnEnd d i w
OwnEnds d bits p (Some (Ok None)) w = Unit {0}
OwnEnds d bits p (Some (Err f)) w = Unit {0}

-- a step of a walk that took its bits from p on, from what lay ahead over some bits
pub record Walked (d : Description) (bits : List Bool) (p : ℕ) (from : List Bool → Run (Unit {0})) (inside : Type 0)
    (r : Option Answer) (w : Walk) : Type 0 where
  -- over all bits that agree with these as far as it looked it does the same
  pub moved : (B : List Bool) → Likewise bits B p r w → Turned d B (from B) r w
  -- where it was inside its windows, it goes forward in them
  pub bound : inside → Bounded (length bits) p r w
  -- where no line looks ahead, it goes on where the item's own bits end
  pub ends : Straight d → OwnEnds d bits p r w

-- an object begins in those of a walk
abbrev pub Begins : Description → List Bool → Using → Window → (before : Walk) → Answer → (after : Walk) → Type 0
Begins d bits used v before r after =
    Walked d bits before.place (λ B. beginning d B (objects_of before) used v before.place) (Enclosed (length bits) (objects_of before) v.end) (Some r) after

-- a step of a walk
abbrev pub Stepped : Description → List Bool → (before : Walk) → Option Answer → (after : Walk) → Type 0
Stepped d bits before r after = Walked d bits (from_of before) (λ B. walk_ahead d B before) (EnclosedWalk (length bits) before) r after
