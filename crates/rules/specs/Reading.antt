-- What a reading by a description does.
use Rattle.std.specs.Prelude.{ℕ, zero, suc, ◌+◌, ◌*◌, Bool, true, false, cond, not, ◌||◌, List, [], ◌∷◌, length, ℤ, pos, Ok, ◌==◌, nat_le}
use Rattle.records.specs.declared.records.Extension.{Extension}
use Rattle.table.specs.Description.{Description, class_at, map_at}
use Rattle.rules.specs.declared.faults.ReadingCause.TheVariants.{Unchecked, UnknownId, TooFew, TooManyRounds}
use Rattle.rules.specs.declared.items.Item.{Item}
use Rattle.rules.specs.declared.items.Kind.TheVariants.{Value, Open, Close}
use Rattle.rules.specs.Trace.{Run, out, pass, stop, done, bind}
use Rattle.rules.specs.Checks.{Check, ensure, pick, attempt, fault}
use Rattle.rules.specs.Lookups.{greatest, object_class, map_output}
use Rattle.rules.specs.Values.{Names, value, is_zero}
use Rattle.rules.specs.declared.steps.Header.{Header}
use Rattle.rules.specs.declared.steps.Got.{Got}
use Rattle.rules.specs.declared.steps.Window.{Window}
use Rattle.rules.specs.Steps.{aligned, natural, element, mapped, header, at_end, next_multiple}
use Rattle.records.specs.declared.statements.UseLine.{UseLine}
use Rattle.records.specs.declared.statements.ReadLine.{ReadLine}
use Rattle.rules.specs.Code.{Code, finish, read, assign, map_read, use_of, branch, while, code}

-- the place of a reading, and the names of the innermost open object
pub record State : Type 0 where
  pub place : ℕ
  pub names : Names

-- an open object: its class (0 if the id is unknown), its size in bytes (0 if it has none), and the window inside it
pub record Object : Type 0 where
  pub class : ℕ
  pub size : ℕ
  pub window : Window

-- a value goes to a name; a name of 0 says none
abbrev pub write : ℕ → ℤ → Names → Names
write zero v names = names
write (suc n) v names = λ m. cond (m == suc n) v (names m)

-- an object sets its names to 0
abbrev pub all_zero : Names
all_zero m = pos 0

abbrev pub moved : ℕ → State → State
moved p s = record { place = p; names = s.names }

-- after a read or a map read its name has the value
abbrev pub after_read : (name : ℕ) → Got → State → State
after_read name g s = record { place = g.after; names = write name g.value s.names }

-- after a used object, which is left in t, the carried name's value goes to the receiving name
abbrev pub after_object : UseLine → (t s : State) → State
after_object u t s = record { place = t.place; names = write u.receiving (t.names u.carried) s.names }

abbrev pub value_item : Object → (line index : ℕ) → Got → Item
value_item o line index g =
    record { kind = Value; line = line; class = o.class; index = index; value = g.value; place = g.place; length = g.length }

abbrev pub open_item : (class line index : ℕ) → Header → Item
open_item class line index h =
    record { kind = Open; line = line; class = class; index = index; value = pos h.id; place = h.place; length = h.size }

-- a close repeats its open's line, class and index
abbrev pub close_item : (class line index place : ℕ) → Item
close_item class line index place =
    record { kind = Close; line = line; class = class; index = index; value = pos 0; place = place; length = 0 }

-- what an object is to a line: its line, declared class and index, the window around it and the place, and how it is
-- left
abbrev pub Objects : Type 0
Objects = (line declared index : ℕ) → Window → ℕ → Run State

module _ (d : Description) (bits : List Bool) where
  -- the value of a node in an object
  abbrev pub valued : Object → State → ℕ → Check ℤ
  valued o s k = value d.nodes o.size s.names k

  -- a count is worked out once; without a count a read is done once
  abbrev pub counted : Object → State → ℕ → Check ℕ
  counted o s zero = Ok 1
  counted o s (suc k) = natural 65535 (valued o s (suc k))

  -- n more elements of a read, from an index
  unfoldable pub elements : Object → (line : ℕ) → ReadLine → ℕ → (index : ℕ) → State → Run State
  elements o line l zero index s = pass (done s)
  elements o line l (suc n) index s =
      attempt line s.place
      (element bits o.window l (valued o s l.width) (valued o s l.lowest) (valued o s l.highest) s.place)
      λ g. out (value_item o line index g) (elements o line l n (suc index) (after_read l.name g s))

  -- n more objects of a counted use, from an index
  unfoldable pub objects : Objects → Object → (line : ℕ) → UseLine → ℕ → (index : ℕ) → State → Run State
  objects obj o line l zero index s = pass (done s)
  objects obj o line l (suc n) index s =
      bind (obj line l.class index o.window s.place) λ t. objects obj o line l n (suc index) (after_object l t s)

  -- an uncounted use ends after so many elements, which must not be fewer than least
  abbrev pub enough_objects : (line : ℕ) → UseLine → (index : ℕ) → State → Run State
  enough_objects line l index s = attempt line s.place (ensure (nat_le l.least index) TooFew) λ _. pass (done s)

  -- at most n more objects of an uncounted use, which ends where the next byte boundary is at or past the window's end
  unfoldable pub objects_to_end : Objects → Object → (line : ℕ) → UseLine → ℕ → (index : ℕ) → State → Run State
  objects_to_end obj o line l zero index s = enough_objects line l index s
  objects_to_end obj o line l (suc n) index s =
      pick (nat_le o.window.end (next_multiple 8 s.place)) (λ _. enough_objects line l index s) λ _.
      bind (obj line l.class index o.window s.place) λ t. objects_to_end obj o line l n (suc index) (after_object l t s)

  -- the objects of a use, with or without a count
  unfoldable pub used : Objects → Object → (line : ℕ) → UseLine → (count : ℕ) → State → Run State
  used obj o line l zero s = pass (objects_to_end obj o line l l.most 0 s)
  used obj o line l (suc k) s =
      attempt line s.place (natural 65535 (valued o s (suc k))) λ n. pass (objects obj o line l n 0 s)

  -- the rounds of a while, of which at most n more may follow; its test is worked out before each, and once more
  -- after the last
  unfoldable pub rounds : (test : State → Check ℤ) (body : State → Run State) (line : ℕ) → ℕ → State → Run State
  rounds test body line zero s =
      attempt line s.place (test s) λ v. attempt line s.place (ensure (is_zero v) TooManyRounds) λ _. pass (done s)
  rounds test body line (suc n) s =
      attempt line s.place (test s) λ v.
      pass (pick (is_zero v) (λ _. done s) (λ _. bind (body s) (rounds test body line n)))

  -- the lines of a block, in an open object
  unfoldable pub run : Objects → Object → Code → State → Run State
  run obj o finish s = pass (done s)
  run obj o (read line l k) s =
      attempt line s.place (counted o s l.count) λ n. pass (bind (elements o line l n 0 s) (run obj o k))
  run obj o (assign line name node k) s =
      attempt line s.place (valued o s node) λ v.
      pass (run obj o k (record { place = s.place; names = write name v s.names }))
  run obj o (map_read line map name k) s =
      attempt line s.place (mapped bits o.window (map_at d map).width (map_output d map) s.place)
      λ g. out (value_item o line 0 g) (run obj o k (after_read name g s))
  run obj o (use_of line l k) s = bind (used obj o line l l.count s) (run obj o k)
  run obj o (branch line node a b k) s =
      attempt line s.place (valued o s node) λ v.
      pass (bind (pick (is_zero v) (λ _. run obj o b s) (λ _. run obj o a s)) (run obj o k))
  run obj o (while line node most b k) s =
      bind (rounds (λ t. valued o t node) (run obj o b) line most s) (run obj o k)

  -- so many lines from a first
  abbrev pub stretch : Objects → Object → (first number : ℕ) → State → Run State
  stretch obj o first number s = run obj o (code d.lines first number) s

  -- the extensions of a class, in table order: before each the reading aligns to 8, and if that is the object's end,
  -- the rest are dropped
  unfoldable pub extensions : Objects → Object → List Extension → State → Run State
  extensions obj o [] s = done s
  extensions obj o (e ∷ es) s =
      pick (e.class == o.class)
      (λ _. attempt e.first s.place (aligned bits o.window 8 s.place) λ q.
      pass (pick (q == o.window.end)
      (λ _. done (moved q s))
      (λ _. bind (stretch obj o e.first e.number (moved q s)) (extensions obj o es))))
      (λ _. pass (extensions obj o es s))

  -- what an object holds: the lines of its class's base, its own, and its extensions; of an unknown id it is passed
  -- over
  unfoldable pub content : Objects → Object → (class : ℕ) → State → Run State
  content obj o zero s = done s
  content obj o (suc n) s =
      let c = class_at d (suc n) in
      let b = class_at d c.base in
      bind (stretch obj o b.first b.number s) λ s.
      bind (stretch obj o c.first c.number s) λ s.
      extensions obj o d.extensions s

  -- the window inside an object: an expandable one is its own
  abbrev pub inner : (greatest : ℕ) → Header → Window → Window
  inner zero h w = w
  inner (suc g) h w = record { end = h.after + 8 * h.size; object = true }

  -- at the close of an expandable object the place moves to its end, over bits unread
  abbrev pub closed : (greatest : ℕ) → Window → State → State
  closed zero w s = s
  closed (suc g) w s = moved w.end s

  -- an object whose class is known by now: its open, its content and its close
  unfoldable pub opened : Objects → (class greatest line index : ℕ) → Header → Window → Run State
  opened obj c g line index h w =
      let o : Object = record { class = c; size = h.size; window = inner g h w } in
      out (open_item c line index h)
      (bind (content obj o c (record { place = h.after; names = all_zero })) λ s.
      let t = closed g o.window s in
      out (close_item c line index t.place) (done t))

  -- an object, with at most so many open at once inside and including it; an unknown id is for expandable families only
  unfoldable pub object : ℕ → Objects
  object zero line declared index w p = stop (fault Unchecked line 0 p)
  object (suc n) line declared index w p =
      let g = greatest d declared in
      attempt line p (header bits w (class_at d declared) g p) λ h.
      let c = object_class d declared h.id in
      attempt line p (ensure (not (c == 0) || not (g == 0)) UnknownId) λ _.
      opened (object n) c g line index h w

  -- the window that is the source
  abbrev pub whole : Window
  whole = record { end = length bits; object = false }

  -- the whole reading: the top object, with at most 16 open at once, and then the end
  unfoldable pub reading : Run (Unit {0})
  reading =
      bind (object 16 0 d.top 0 whole 0) λ t.
      attempt 0 t.place (at_end bits t.place) done
