-- What one step inside an open object does.
use Rattle.std.specs.Prelude.{◌≡◌, ℕ, ◌+◌, ◌≤◌, Bool, List, ◌∷◌, Ok, Err, Result, Some}
use Rattle.bits.specs.declared.source.Source.{Ghosts}
use Rattle.records.specs.declared.statements.Statement.{Statement}
use Rattle.table.specs.Description.{Description, statement_at}
use Rattle.rules.specs.declared.faults.ReadingFault.{ReadingFault}
use Rattle.rules.specs.declared.items.Item.{Item}
use Rattle.rules.specs.declared.items.Kind.TheVariants.{Value}
use Rattle.records.specs.declared.statements.UseLine.{UseLine}
use Rattle.rules.specs.Trace.{Run, out, pass, stop, done, bind}
use Rattle.rules.specs.Reading.{State, Object, Objects, after_object}
use Rattle.roundtrip.specs.Own.{end_of}
use Rattle.roundtrip.specs.Writing.{Straight}
use Rattle.objects.specs.declared.moves.Move.{Move}
use Rattle.objects.specs.declared.moves.Move.TheVariants.{Quiet, Give, Begin, Leave}
use Rattle.rules.specs.Code.{Code, coded, code}
use Rattle.objects.specs.declared.frame.Frame.{Frame}
use Rattle.objects.specs.declared.inside.Inside.{Inside}
use Rattle.objects.specs.declared.scene.Scene.{Scene}
use Rattle.objects.specs.declared.upcoming.BlockLine.{BlockLine}
use Rattle.objects.specs.Frames.{frames}
use Rattle.objects.specs.Ahead.{Inner, inner_of, object_of, onto, state, content_run, inner_run, code_run, Uses, Fit, Room}
use Rattle.objects.specs.Passed.{passed}
use Rattle.objects.specs.Likewise.{Likewise, Bounded}
use Rattle.objects.specs.Scenes.{described, source_bits}

-- a value's bits are its own, and the reading goes on after them
pub record OwnEnd (d : Description) (i : Item) (q : ℕ) : Type 0 where
  pub after : q ≡ end_of d i
  pub long : i.place + i.length ≡ end_of d i

-- `before` silent steps are taken before what a step hands out, or does last
module _ (d : Description) (bits : List Bool) (o : Object) where
  -- nothing is handed out
  pub record Quietly (from : Objects → Run State) (q : ℕ) (c : Inner) : Type 0 where
    pub before : ℕ
    pub same : (obj : Objects) → from obj ≡ passed before (pass (inner_run d bits o c q obj))
    pub fit : Fit d c.frames
    pub near : q ≤ 2147483647

  -- a value is handed out
  pub record Gives (from : Objects → Run State) (i : Item) (q : ℕ) (c : Inner) : Type 0 where
    pub before : ℕ
    pub same : (obj : Objects) → from obj ≡ passed before (out i (inner_run d bits o c q obj))
    pub kind : i.kind ≡ Value
    -- where no line looks ahead, it goes on where the item's own bits end
    pub ends : Straight d → OwnEnd d i q
    pub fit : Fit d c.frames
    pub near : q ≤ 2147483647

  pub record Refuses (from : Objects → Run State) (f : ReadingFault) (c : Inner) : Type 0 where
    pub before : ℕ
    pub same : (obj : Objects) → from obj ≡ passed before (stop f)
    pub fit : Fit d c.frames

  -- an object begins at the place p
  pub record Begins (from : Objects → Run State) (p line : ℕ) (u : UseLine) (index : ℕ) (c : Inner) : Type 0 where
    pub before : ℕ
    pub same : (obj : Objects) → from obj
        ≡ passed before (bind (obj line u.class index o.window p)
        (λ t. content_run d bits obj o c.extension c.frames (after_object u t (state p c))))
    pub fit : Fit d c.frames
    pub uses : Uses d line u

  -- nothing is left to do
  pub record Leaves (from : Objects → Run State) (p : ℕ) (c : Inner) : Type 0 where
    pub before : ℕ
    pub same : (obj : Objects) → from obj ≡ passed before (done (state p c))
    pub fit : Fit d c.frames

  -- a step from what lies ahead at a place
  abbrev pub Moved : (from : Objects → Run State) → (p : ℕ) → Result Move ReadingFault → Inner → Type 0
  Moved from p (Ok (Quiet q)) c = Quietly from q c
  Moved from p (Ok (Give i q)) c = Gives from i q c
  Moved from p (Ok (Begin line u index)) c = Begins from p line u index c
  Moved from p (Ok Leave) c = Leaves from p c
  Moved from p (Err f) c = Refuses from f c

-- a line in its block, with its statement
module _ (d : Description) (st : Statement) (at : BlockLine) where
  -- its code, and that of the lines after it
  abbrev pub line_code : Code
  line_code = coded (Some st) at.line at.after (code d.lines)

  -- it is a line of the description, and has room above frames
  pub record LineRoom (fs : List Frame) : Type 0 where
    pub room : Room d line_code fs
    pub is : statement_at d at.line ≡ Some st

module _ {S : Type 0} {g : Ghosts S} (s : Scene S g) where
  -- a step in a scene, from what lies ahead over some bits: over all bits that agree with the source's as far as it
  -- looked it does the same, and it goes forward in the window
  pub record StepFrom (from : List Bool → Objects → Run State) (r : Result Move ReadingFault) (j : Inside) : Type 0 where
    pub moved : (B : List Bool) → Likewise (source_bits s) B s.place r → Moved (described s) B (object_of s.about) (from B) s.place r (inner_of j)
    pub bound : s.place ≤ s.about.window.end → Bounded s.place s.about.window.end r

  -- a line before what an object has to do fits
  abbrev pub LineFits : Statement → BlockLine → Inside → Type 0
  LineFits st at i = LineRoom (described s) st at (frames i.frames)

  -- a step of an object that has a line before what it has to do
  abbrev pub LineMoved : Statement → BlockLine → Inside → Result Move ReadingFault → Inside → Type 0
  LineMoved st at i r j =
      StepFrom (λ B. code_run (described s) B (object_of s.about) (line_code (described s) st at) (inner_of i) s.place) r j

  -- a frame before what an object has to do fits
  abbrev pub FrameFits : Frame → Inside → Type 0
  FrameFits f i = Fit (described s) (f ∷ frames i.frames)

  -- a step of an object that has a frame before what it has to do
  abbrev pub FrameMoved : Frame → Inside → Result Move ReadingFault → Inside → Type 0
  FrameMoved f i r j = StepFrom (λ B. inner_run (described s) B (object_of s.about) (onto f (inner_of i)) s.place) r j

  -- what an object has to do fits
  abbrev pub InsideFits : Inside → Type 0
  InsideFits i = Fit (described s) (frames i.frames)

  -- a step of an object as it stands
  abbrev pub InsideMoved : Inside → Result Move ReadingFault → Inside → Type 0
  InsideMoved i r j = StepFrom (λ B. inner_run (described s) B (object_of s.about) (inner_of i) s.place) r j
