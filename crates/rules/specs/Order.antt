-- What holds of the items of every reading: they nest, their places never go back, and each fits its bits.
use Rattle.std.specs.Prelude.{◌≡◌, ℕ, zero, suc, ◌+◌, ◌-◌, ◌%◌, ◌^◌, ◌<◌, ◌≤◌, Bool, true, false, List, [], ◌∷◌, length, ℤ, pos, negsuc, Ok, Option, Some, None}
use Rattle.records.specs.declared.statements.Statement.{Statement}
use Rattle.records.specs.declared.statements.Statement.TheVariants.{Read, Assign, MapRead, Use, If, While}
use Rattle.records.specs.Statements.{statement}
use Rattle.table.specs.Description.{Description, class_at, line_at, map_at}
use Rattle.rules.specs.declared.items.Item.{Item}
use Rattle.rules.specs.declared.items.Kind.{Kind}
use Rattle.rules.specs.declared.items.Kind.TheVariants.{Value, Open, Close}
use Rattle.rules.specs.declared.faults.ReadingFault.{ReadingFault}
use Rattle.rules.specs.Trace.{Run, out, pass, stop, done, items, outcome, ended, refused}
use Rattle.rules.specs.Lookups.{greatest, map_output}
use Rattle.rules.specs.declared.steps.Window.{Window}
use Rattle.rules.specs.Steps.{id_width}
use Rattle.rules.specs.Reading.{State, object, reading}
use Rattle.checked.specs.Sound.{All}
use Rattle.rules.specs.Passed.{PassesCheck}

-- the class that a line uses, 0 if none; line 0 is the top object's
abbrev pub used_by : Option Statement → ℕ
used_by (Some (Read fields)) = 0
used_by (Some (Assign name node)) = 0
used_by (Some (MapRead map name)) = 0
used_by (Some (Use fields)) = fields.class
used_by (Some (If node first second)) = 0
used_by (Some (While node lines rounds)) = 0
used_by None = 0

abbrev pub declared_at : Description → (line : ℕ) → ℕ
declared_at d zero = d.top
declared_at d (suc n) = used_by (statement (line_at d (suc n)))

-- an expandable family's id takes whole bytes
abbrev pub Bytes : Description → Type 0
Bytes d = (c : ℕ) → 0 < greatest d c → id_width (class_at d c) % 8 ≡ 0

-- a number that n bits can write, in two's complement if signed
abbrev pub WithinBits : (signed : Bool) → ℕ → ℤ → Type 0
WithinBits false n (pos k) = k < 2 ^ n
WithinBits false n (negsuc k) = ⊥
WithinBits true n (pos k) = k < 2 ^ (n - 1)
WithinBits true n (negsuc k) = k < 2 ^ (n - 1)

-- a value that a line reads lies within its bits; that of a map is the output at some index of the map's width
abbrev pub ValueFits : Description → Option Statement → ℤ → (length : ℕ) → Type 0
ValueFits d (Some (Read fields)) v n = (n ≤ 32) × WithinBits fields.signed n v
ValueFits d (Some (Assign name node)) v n = ⊥
ValueFits d (Some (MapRead map name)) v n = (n ≡ (map_at d map).width) × (index : ℕ) × (index < 2 ^ n) × (map_output d map index ≡ Ok v)
ValueFits d (Some (Use fields)) v n = ⊥
ValueFits d (Some (If node first second)) v n = ⊥
ValueFits d (Some (While node lines rounds)) v n = ⊥
ValueFits d None v n = ⊥

-- an expandable object of a checked description begins and ends on a byte boundary
abbrev pub OnByte : Description → (line place : ℕ) → Type 0
OnByte d line place = PassesCheck d → 0 < greatest d (declared_at d line) → place % 8 ≡ 0

abbrev pub Fits : Description → Kind → Item → Type 0
Fits d Value i = ValueFits d (statement (line_at d i.line)) i.value i.length
Fits d Open i = OnByte d i.line i.place
Fits d Close i = OnByte d i.line i.place

-- a close repeats its open's line, class and index
pub record Repeats (close opened : Item) : Type 0 where
  pub line : close.line ≡ opened.line
  pub class : close.class ≡ opened.class
  pub index : close.index ≡ opened.index

-- the bits that an item's place and length name: a value's
abbrev pub extent : Kind → Item → ℕ
extent Value i = i.length
extent Open i = 0
extent Close i = 0

-- A run that stands at a place with some objects open, the innermost first, and goes on up to an end: what it hands
-- out fits, its places never go back and never pass the end, at most 16 objects are open, a value's class is its
-- object's, and a close repeats the innermost open's line, class and index. Where it is done, the objects open are
-- those of `home`, and the place is the one that `at` gives.
module _ (d : Description) where
  pub data Moves {A : Type 0} (at : A → ℕ) (home : List Item) (end : ℕ) : (around : List Item) (place : ℕ) → Run A → Type 0 where
    ends : {p : ℕ} {a : A} → p ≤ at a → at a ≤ end → Moves at home end home p (done a)
    stops : {around : List Item} {p : ℕ} {f : ReadingFault} → p ≤ f.place → f.place ≤ end → Moves at home end around p (stop f)
    passes : {around : List Item} {p : ℕ} {t : Run A} → Moves at home end around p t → Moves at home end around p (pass t)
    value : {around : List Item} {o i : Item} {p : ℕ} {t : Run A} → i.kind ≡ Value → i.class ≡ o.class → p ≤ i.place → i.place + i.length ≤ end →
        Fits d i.kind i → Moves at home end (o ∷ around) i.place t → Moves at home end (o ∷ around) p (out i t)
    opens : {around : List Item} {i : Item} {p : ℕ} {t : Run A} → i.kind ≡ Open → length around < 16 → p ≤ i.place → i.place ≤ end →
        Fits d i.kind i → Moves at home end (i ∷ around) i.place t → Moves at home end around p (out i t)
    closes : {around : List Item} {o i : Item} {p : ℕ} {t : Run A} → i.kind ≡ Close → Repeats i o → p ≤ i.place → i.place ≤ end →
        Fits d i.kind i → Moves at home end around i.place t → Moves at home end (o ∷ around) p (out i t)

-- the place never passes the window's end and never goes back, whatever object is read
abbrev pub WindowLaw : Type 0
WindowLaw =
    (d : Description) (bits : List Bool) (n line declared index : ℕ) (w : Window) (p : ℕ) (around : List Item) → declared_at d line ≡ declared →
    p ≤ w.end → length around + n ≤ 16 → Moves d (λ (s : State). s.place) around w.end around p (object d bits n line declared index w p)

-- places never go back, and no item's bits pass an end
abbrev pub InOrder : (place end : ℕ) → List Item → Type 0
InOrder p end [] = Unit {0}
InOrder p end (i ∷ is) = (p ≤ i.place) × (i.place + extent i.kind i ≤ end) × InOrder i.place end is

-- the place of the last item, or the first given
abbrev pub last_place : ℕ → List Item → ℕ
last_place p [] = p
last_place p (i ∷ is) = last_place i.place is

-- items nest: with some objects open, the innermost first and at most 16, these items leave those open
pub data Nests : (around : List Item) → List Item → (left : List Item) → Type 0 where
  none : {around : List Item} → Nests around [] around
  value : {around left is : List Item} {o i : Item} → i.kind ≡ Value → i.class ≡ o.class → Nests (o ∷ around) is left → Nests (o ∷ around) (i ∷ is) left
  opens : {around left is : List Item} {i : Item} → i.kind ≡ Open → length around < 16 → Nests (i ∷ around) is left → Nests around (i ∷ is) left
  closes : {around left is : List Item} {o i : Item} → i.kind ≡ Close → Repeats i o → Nests around is left → Nests (o ∷ around) (i ∷ is) left

-- what holds of a reading's items
pub record Orderly (d : Description) (bits : List Bool) : Type 0 where
  -- the objects left open after the last item; none where the reading ends
  pub left : List Item
  pub nest : Nests [] (items (reading d bits)) left
  pub all_closed : outcome (reading d bits) ≡ ended → left ≡ []
  -- places never go back, nor pass the source's end
  pub order : InOrder 0 (length bits) (items (reading d bits))
  pub fault :
      (f : ReadingFault) → outcome (reading d bits) ≡ refused f → (last_place 0 (items (reading d bits)) ≤ f.place) × (f.place ≤ length bits)
  -- values lie within their bits, and expandable objects begin and end on byte boundaries
  pub fits : All (λ (i : Item). Fits d i.kind i) (items (reading d bits))

abbrev pub OrderLaw : Type 0
OrderLaw = (d : Description) (bits : List Bool) → Orderly d bits

abbrev pub BytesLaw : Type 0
BytesLaw = (d : Description) → PassesCheck d → Bytes d

-- a reading of a source depends on nothing but its bits: where the lists of two sources are equal, so are the readings
abbrev pub BitsLaw : Type 0
BitsLaw = (d : Description) (bits same : List Bool) → bits ≡ same → reading d bits ≡ reading d same
