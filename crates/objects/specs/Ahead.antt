-- What lies ahead inside an open object, by what it still has to do.
use Rattle.std.specs.Prelude.{◌≡◌, ℕ, suc, ◌+◌, ◌-◌, ◌≤◌, max, Bool, List, [], ◌∷◌, length, drop, Option, Some}
use Rattle.records.specs.declared.statements.ReadLine.{ReadLine}
use Rattle.records.specs.declared.statements.UseLine.{UseLine}
use Rattle.records.specs.declared.statements.Statement.{Statement}
use Rattle.records.specs.declared.statements.Statement.TheVariants.{Read, Use}
use Rattle.records.specs.Statements.{written}
use mathlib.Core.HLevel.{Unit-prop, ×₃_prop, Π_prop}
use Rattle.std.proofs.Props.{props}
use native.Mathlib.Bridge.{le_prop}
use Rattle.table.specs.Description.{Description, class_at, extension_at, map_at, statement_at}
use Rattle.rules.specs.Trace.{Run, pass, bind}
use Rattle.rules.specs.Values.{Names}
use Rattle.rules.specs.Code.{Code, finish, read, assign, map_read, use_of, branch, while, code}
use Rattle.rules.specs.Reading.{State, Object, Objects, valued, elements, objects, objects_to_end, rounds, run, extensions}
use Rattle.values.specs.Names.{named_by}
use Rattle.objects.specs.declared.frame.Frame.{Frame}
use Rattle.objects.specs.declared.frame.Frame.TheVariants.{Lines, After, Rounds, Elements, Counted, Uncounted}
use Rattle.objects.specs.declared.inside.Inside.{Inside}
use Rattle.objects.specs.declared.inside.About.{About}
use Rattle.objects.specs.Frames.{frames}

-- what an open object has to do: its frames, then its extensions from one on; and the values of its names
pub record Inner : Type 0 where
  pub frames : List Frame
  pub extension : ℕ
  pub names : Names

abbrev pub inner_of : Inside → Inner
inner_of i = record { frames = frames i.frames; extension = i.extension; names = named_by i.names }

abbrev pub onto : Frame → Inner → Inner
onto f c = record { frames = f ∷ c.frames; extension = c.extension; names = c.names }

abbrev pub with_names : Names → Inner → Inner
with_names names c = record { frames = c.frames; extension = c.extension; names = names }

abbrev pub object_of : About → Object
object_of a = record { class = a.class; size = a.size; window = a.window }

abbrev pub state : ℕ → Inner → State
state p c = record { place = p; names = c.names }

module _ (d : Description) (bits : List Bool) where
  unfoldable pub frame_run : Objects → Object → Frame → State → Run State
  frame_run obj o (Lines at count) s = run d bits obj o (code d.lines at count) s
  frame_run obj o (After at count) s = pass (run d bits obj o (code d.lines at count) s)
  frame_run obj o (Rounds line node count left) s =
      rounds d bits (λ t. valued d bits o t node) (run d bits obj o (code d.lines (suc line) count)) line left s
  frame_run obj o (Elements line fields index total) s = elements d bits o line fields (total - index) index s
  frame_run obj o (Counted line fields index total) s = objects d bits obj o line fields (total - index) index s
  frame_run obj o (Uncounted line fields index) s = objects_to_end d bits obj o line fields (fields.most - index) index s

  -- frames, and then the extensions from one on
  unfoldable pub content_run : Objects → Object → (extension : ℕ) → List Frame → State → Run State
  content_run obj o extension [] s = extensions d bits obj o (drop extension d.extensions) s
  content_run obj o extension (f ∷ fs) s = bind (frame_run obj o f s) (content_run obj o extension fs)

  abbrev pub inner_run : Object → Inner → ℕ → Objects → Run State
  inner_run o c p obj = content_run obj o c.extension c.frames (state p c)

  -- the same, with code before it
  abbrev pub code_run : Object → Code → Inner → ℕ → Objects → Run State
  code_run o k c p obj = bind (run d bits obj o k (state p c)) (content_run obj o c.extension c.frames)

-- the frames that code wants above its own
unfoldable pub height : Code → ℕ
height finish = 0
height (read line l k) = max 1 (height k)
height (assign line name node k) = height k
height (map_read line map name k) = height k
height (use_of line l k) = max 1 (height k)
height (branch line node a b k) = max (suc (max (height a) (height b))) (height k)
height (while line node most b k) = max (suc (suc (height b))) (height k)

unfoldable pub wants : Description → Frame → ℕ
wants d (Lines at count) = height (code d.lines at count)
wants d (After at count) = height (code d.lines at count)
wants d (Rounds line node count left) = suc (height (code d.lines (suc line) count))
wants d (Elements line fields index total) = 0
wants d (Counted line fields index total) = 0
wants d (Uncounted line fields index) = 0

-- a line is a read with these fields, or a use
abbrev pub Reads : Description → (line : ℕ) → ReadLine → Type 0
Reads d line fields = statement_at d line ≡ Some (Read fields)

abbrev pub Uses : Description → (line : ℕ) → UseLine → Type 0
Uses d line fields = statement_at d line ≡ Some (Use fields)

-- a frame's fields are those of its line
abbrev pub Lined : Description → Frame → Type 0
Lined d (Lines at count) = Unit {0}
Lined d (After at count) = Unit {0}
Lined d (Rounds line node count left) = Unit {0}
Lined d (Elements line fields index total) = Reads d line fields
Lined d (Counted line fields index total) = Uses d line fields
Lined d (Uncounted line fields index) = Uses d line fields

-- each frame has room above it, and the fields of its line
unfoldable pub Fit : Description → List Frame → Type 0
Fit d [] = Unit {0}
Fit d (f ∷ fs) = (suc (length fs) + wants d f ≤ 20) × Lined d f × Fit d fs

-- code has room above frames
pub record Room (d : Description) (k : Code) (fs : List Frame) : Type 0 where
  pub high : suc (length fs) + height k ≤ 20
  pub fit : Fit d fs

-- what a reading needs of a description: blocks are nested no deeper than there is room for, a written name is one of
-- 128, ids and indices of maps have at most 16 bits
pub record Readable (d : Description) : Type 0 where
  pub classes : (n : ℕ) → height (code d.lines (class_at d n).first (class_at d n).number) ≤ 17
  pub extensions : (n : ℕ) → height (code d.lines (extension_at d n).first (extension_at d n).number) ≤ 17
  pub names : (n : ℕ) → written (statement_at d n) ≤ 128
  pub ids : (n : ℕ) → (class_at d n).width ≤ 16
  pub maps : (n : ℕ) → (map_at d n).width ≤ 16

pub readable_prop : (d : Description) → IsProp (Readable d)
readable_prop d x y = λ i.
    record {
      classes = Π_prop (λ n. le_prop) x.classes y.classes i;
      extensions = Π_prop (λ n. le_prop) x.extensions y.extensions i;
      names = Π_prop (λ n. le_prop) x.names y.names i;
      ids = Π_prop (λ n. le_prop) x.ids y.ids i;
      maps = Π_prop (λ n. le_prop) x.maps y.maps i;
    }

statement_set : IsSet (Option Statement)
statement_set = hlevel props

lined_prop : (d : Description) (f : Frame) → IsProp (Lined d f)
lined_prop d (Lines at count) = Unit-prop
lined_prop d (After at count) = Unit-prop
lined_prop d (Rounds line node count left) = Unit-prop
lined_prop d (Elements line fields index total) = statement_set _ _
lined_prop d (Counted line fields index total) = statement_set _ _
lined_prop d (Uncounted line fields index) = statement_set _ _

pub fit_prop : (d : Description) (fs : List Frame) → IsProp (Fit d fs)
unfolding Fit
fit_prop d [] = Unit-prop
fit_prop d (f ∷ fs) = ×₃_prop le_prop (lined_prop d f) (fit_prop d fs)
