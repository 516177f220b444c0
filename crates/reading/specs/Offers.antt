-- What offering an item to a walk does.
use Rattle.std.specs.Prelude.{◌≡◌, ℕ, ◌-◌, ◌≤◌, min, Bool, true, false, cond, List, [], length, slice_set, ◌≢◌, Some, None, Ok, Err}
use Rattle.table.specs.Description.{Description}
use Rattle.rules.specs.declared.items.Item.{Item}
use Rattle.rules.specs.Trace.{Run}
use Rattle.roundtrip.specs.Standing.{head, gives, halts, ends, Fits}
use Rattle.roundtrip.specs.Writing.{Straight}
use Rattle.objects.specs.Likewise.{Alike}
use Rattle.reading.specs.declared.walk.Walk.{Walk}
use Rattle.reading.specs.declared.offering.Saved.{Saved}
use Rattle.reading.specs.Pushes.{Kept, Still, innermost_of, spared}
use Rattle.reading.specs.Walks.{Answer, objects_of, walk_ahead, Sound, from_of, looked_to, EnclosedWalk, Handed, OwnEnd}

module _ (d : Description) (bits : List Bool) where
  -- from one walk to another nothing was handed out
  pub record Silent (before now : Walk) : Type 0 where
    pub same : (B : List Bool) → Alike bits B (from_of before) (from_of now) → head (walk_ahead d B before) ≡ head (walk_ahead d B now)
    pub sound : Sound d now
    pub enclosed : EnclosedWalk (length bits) now
    pub forward : from_of before ≤ from_of now
    pub still : before.started ≡ true → Still before now

  -- an item was taken: it comes next over all bits that agree with these as far as was looked, and the walk goes on
  -- after it
  pub record Takes (before : Walk) (i : Item) (after : Walk) : Type 0 where
    pub next :
        (B : List Bool) → Alike bits B (from_of before) (looked_to i.kind i.place i.length after.place) →
        head (walk_ahead d B before) ≡ gives i (walk_ahead d B after)
    pub sound : Sound d after
    pub handed : Handed (length bits) (from_of before) i after
    -- where no line looks ahead and the bits have what putting the item appends, it goes on where the item's own bits
    -- end
    pub ends : Straight d → Fits d (from_of before) i bits → OwnEnd d i after

  -- what came next over these bits
  abbrev pub Came : (before : Walk) → Answer → (after : Walk) → Type 0
  Came before (Ok (Some i)) after = Takes before i after
  Came before (Ok None) after = head (walk_ahead d bits before) ≡ ends tt
  Came before (Err f) after = head (walk_ahead d bits before) ≡ halts f

  -- the next answer, with the objects that stay
  pub record Advanced (before : Walk) (r : Answer) (after : Walk) : Type 0 where
    pub came : Came before r after
    pub kept : before.started ≡ true → Kept (spared before) before after

-- a walk goes on as another would
pub record Resumes (d : Description) (before after : Walk) : Type 0 where
  pub ahead : (B : List Bool) → walk_ahead d B after ≡ walk_ahead d B before
  pub sound : Sound d after
  pub from : from_of after ≡ from_of before
  pub enclosed : (L : ℕ) → EnclosedWalk L before → EnclosedWalk L after

-- where a walk stands: its innermost object, and its numbers
abbrev pub saved_of : Walk → Saved
saved_of w =
    record {
      inner = innermost_of w;
      depth = w.depth;
      place = w.place;
      started = w.started;
    }

-- a walk whose innermost object and numbers are put back
abbrev pub restored : Saved → Walk → Walk
restored s w =
    cond s.started
    (record { objects = slice_set w.objects (min s.depth 16 - 1) s.inner; depth = s.depth; place = s.place; started = true })
    (record { objects = w.objects; depth = 0; place = 0; started = false })

module _ (d : Description) (bits : List Bool) where
  -- it was declined: over these bits it does not come next, and the walk goes on as before
  pub record Declines (before : Walk) (i : Item) (after : Walk) : Type 0 where
    pub other : (r : Run (Unit {0})) → head (walk_ahead d bits before) ≢ gives i r
    pub resumes : Resumes d before after

  -- it was declined, and all was put back but the object around the innermost, which may have taken a value
  pub record Undone (before : Walk) (i : Item) (after : Walk) : Type 0 where
    pub other : (r : Run (Unit {0})) → head (walk_ahead d bits before) ≢ gives i r
    pub left : Walk
    pub long : length left.objects ≡ 16
    pub back : after ≡ restored (saved_of before) left
    pub kept : before.started ≡ true → Kept (spared before) before left

  abbrev pub Attempted : (before : Walk) (i : Item) → Bool → (after : Walk) → Type 0
  Attempted before i true after = Takes d bits before i after
  Attempted before i false after = Undone before i after

  abbrev pub Offered : (before : Walk) (i : Item) → Bool → (after : Walk) → Type 0
  Offered before i true after = Takes d bits before i after
  Offered before i false after = Declines before i after

-- whether a reading can only end here
abbrev pub Over : Walk → Bool → Type 0
Over w true = (w.started ≡ true) × (objects_of w ≡ [])
Over w false = (d : Description) (B : List Bool) → head (walk_ahead d B w) ≢ ends tt
