-- What is done to the open objects.
use Rattle.std.specs.Prelude.{◌≡◌, ℕ, ◌-◌, ◌<◌, ◌≤◌, min, Bool, true, not, cond, nat_eq, List, ◌∷◌, length, slice_index_or, Some, None, Option}
use Rattle.table.specs.Description.{Description}
use Rattle.rules.specs.Trace.{Run, out}
use Rattle.rules.specs.Reading.{State, close_item, closed}
use Rattle.objects.specs.Tops.{tops}
use Rattle.objects.specs.Ahead.{inner_of, state}
use Rattle.objects.specs.Passed.{passed}
use Rattle.objects.specs.Starts.{Begun}
use Rattle.reading.specs.declared.open_object.Opened.{Opened}
use Rattle.reading.specs.declared.open_object.OpenObject.{OpenObject}
use Rattle.reading.specs.declared.walk.Walk.{Walk}
use Rattle.reading.specs.Walks.{Answer, objects_of, no_object, capped, seen, received, rest_from, AllFit}

-- the objects below number n stay
abbrev pub Kept : (n : ℕ) → (before after : Walk) → Type 0
Kept n v w = (j : ℕ) → j < n → slice_index_or w.objects j no_object ≡ slice_index_or v.objects j no_object

-- the innermost object, a stand-in where none is open
abbrev pub innermost_of : Walk → OpenObject
innermost_of w = slice_index_or w.objects (min w.depth 16 - 1) no_object

-- the innermost object's end gives a value to the object around it
abbrev pub hands_on : Walk → Bool
hands_on w = not (nat_eq (innermost_of w).opened.used.receiving 0)

-- how many objects no answer changes: all but the innermost, and but the one around it where that takes a value
abbrev pub spared : Walk → ℕ
spared w = min w.depth 16 - cond (hands_on w) 2 1

-- as many objects are open, those around the innermost stay, and the innermost is the same one
pub record Still (before after : Walk) : Type 0 where
  pub started : after.started ≡ true
  pub depth : after.depth ≡ before.depth
  pub opened : (innermost_of after).opened ≡ (innermost_of before).opened
  pub kept : Kept (min before.depth 16 - 1) before after

-- what a step leaves: where nothing is handed out all but the inside of the innermost object, else what no answer changes
abbrev pub Leaves : (before : Walk) → Option Answer → (after : Walk) → Type 0
Leaves v None w = v.started ≡ true → Still v w
Leaves v (Some a) w = v.started ≡ true → Kept (spared v) v w

pub record Pushed (a : OpenObject) (p : ℕ) (before after : Walk) : Type 0 where
  pub objects : objects_of after ≡ a ∷ objects_of before
  pub place : after.place ≡ p
  pub started : after.started ≡ true
  pub kept : Kept before.depth before after

-- an object is opened at its beginning
pub record Entered (d : Description) (opened : Opened) (p : ℕ) (before after : Walk) : Type 0 where
  pub object : OpenObject
  pub is : object.opened ≡ opened
  pub begun : Begun d opened.about.class (inner_of object.inside)
  pub pushed : Pushed object p before after

-- the objects around number i
abbrev pub around : List OpenObject → ℕ → List OpenObject
around xs i = tops no_object xs i

-- what follows an object's content
abbrev pub after_content : Description → List Bool → Opened → List OpenObject → State → Run (Unit {0})
after_content d bits a os t =
    let u = closed d bits a.greatest (capped (length bits) a.about.window) t in
    out (close_item a.about.class a.used.line a.used.index u.place) (rest_from d bits os (received a.used u os))

-- the innermost object, number i and seen as a, has nothing left to do, after so many silent steps
pub record Leaving (d : Description) (bits : List Bool) (i : ℕ) (a : Opened) (w : Walk) (from : Run (Unit {0})) : Type 0 where
  pub is : a ≡ seen (length bits) (slice_index_or w.objects i no_object).opened
  pub before : ℕ
  pub same : from ≡ passed before (after_content d bits (slice_index_or w.objects i no_object).opened (around w.objects i) (state w.place (inner_of (slice_index_or w.objects i no_object).inside)))
  pub fits : AllFit d (around w.objects i)
  pub near : w.place ≤ 2147483647
  pub short : length bits ≤ 2147483647
