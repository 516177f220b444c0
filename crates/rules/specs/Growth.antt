-- An older and a newer description: when the newer has grown from the older, what is struck of the newer's items, and
-- how the two readings compare.
use Rattle.std.specs.Prelude.{◌≡◌, ℕ, suc, pred, ◌<◌, ◌≤◌, Bool, true, false, cond, not, ◌&&◌, ◌||◌, T, ◌⊎◌, List, [], ◌∷◌, ◌++◌, length, drop, ◌==◌, nat_le, nat_lt}
use Rattle.std.specs.List.{list_all}
use Rattle.records.specs.declared.records.Class.{Class}
use Rattle.records.specs.declared.records.Name.{Name}
use Rattle.records.specs.declared.records.Extension.{Extension}
use Rattle.records.specs.declared.records.Line.{Line}
use Rattle.records.specs.declared.records.Node.{Node}
use Rattle.records.specs.declared.records.Map.{Map}
use Rattle.records.specs.declared.records.Row.{Row}
use Rattle.records.specs.Classes.{is_member}
use Rattle.records.specs.Statements.{statement, written}
use Rattle.table.specs.Description.{Description, entry, no_class, class_at, line_at}
use Rattle.rules.specs.declared.items.Item.{Item}
use Rattle.rules.specs.declared.items.Kind.{Kind}
use Rattle.rules.specs.declared.items.Kind.TheVariants.{Value, Open, Close}
use Rattle.rules.specs.declared.faults.ReadingFault.{ReadingFault}
use Rattle.rules.specs.Trace.{Run, items, outcome, Outcome, ended, refused}
use Rattle.rules.specs.Reading.{reading}
use Rattle.rules.specs.Tidy.{tidy_reading}
use Rattle.checked.specs.Sound.{All}
use Rattle.rules.specs.Passed.{PassesCheck}

-- the depth, inside what is struck, at which an item itself stands: a close stands where its open did
abbrev pub own_depth : Kind → ℕ → ℕ
own_depth Value k = k
own_depth Open k = k
own_depth Close k = pred k

-- the depth inside what is struck after an item; the inside of what a new line opens, and of a new class, is struck
abbrev pub next_depth : Kind → (new : Bool) → ℕ → ℕ
next_depth Value new k = k
next_depth Open new k = cond (nat_lt 0 k || new) (suc k) 0
next_depth Close new k = pred k

module _ (older : Description) where
  -- new means numbered above the older's count
  abbrev pub new_line : ℕ → Bool
  new_line line = nat_lt (length older.lines) line

  abbrev pub new_class : ℕ → Bool
  new_class c = nat_lt (length older.classes) c

  unfoldable pub deeper : ℕ → Item → ℕ
  deeper k i = next_depth i.kind (new_line i.line || new_class i.class) k

  abbrev pub of_class_zero : Item → Item
  of_class_zero i =
      record { kind = i.kind; line = i.line; class = 0; index = i.index; value = i.value; place = i.place; length = i.length }

  -- the own open and close of an object of a new class get class 0
  abbrev pub masked : Kind → Item → Item
  masked Value i = i
  masked Open i = cond (new_class i.class) (of_class_zero i) i
  masked Close i = cond (new_class i.class) (of_class_zero i) i

  -- what is left of an item at a depth: nothing inside what is struck, or of a new line
  unfoldable pub left_of : ℕ → Item → List Item
  left_of k i = cond (nat_lt 0 (own_depth i.kind k) || new_line i.line) [] (masked i.kind i ∷ [])

  unfoldable pub strike : ℕ → List Item → List Item
  strike k [] = []
  strike k (i ∷ is) = left_of k i ++ strike (deeper k i) is

  unfoldable pub depth_after : ℕ → List Item → ℕ
  depth_after k [] = k
  depth_after k (i ∷ is) = depth_after (deeper k i) is

  -- the newer's items without what is struck
  abbrev pub struck : List Item → List Item
  struck is = strike 0 is

  -- a fault at a depth inside what is struck lies inside what the older lacks: it names a new line, or comes inside
  -- an object whose inside is struck
  abbrev pub lacks : ℕ → ReadingFault → Bool
  lacks k f = new_line f.line || nat_lt 0 k

  abbrev pub lacked : ℕ → List Item → Outcome → Bool
  lacked k is ended = false
  lacked k is (refused f) = lacks (depth_after k is) f

-- the first list is a beginning of the second
abbrev pub Begins : {A : Type 0} → List A → List A → Type 0
Begins {A} xs ys = (zs : List A) × (ys ≡ xs ++ zs)

-- the first list is a beginning of the second, and shorter
abbrev pub Shorter : List Item → List Item → Type 0
Shorter xs ys = (z : Item) × (zs : List Item) × (ys ≡ xs ++ (z ∷ zs))

-- how a newer run compares with an older one, from a depth on: unless the newer's fault lies inside what the older
-- lacks, the outcomes are equal and the struck items of the newer are the older's; else they are a strictly shorter
-- beginning of the older's
pub record Compares (older : Description) {A B : Type 0} (k : ℕ) (new : Run A) (old : Run B) : Type 0 where
  pub agree : lacked older k (items new) (outcome new) ≡ false → (outcome new ≡ outcome old) × (strike older k (items new) ≡ items old)
  pub short : lacked older k (items new) (outcome new) ≡ true → Shorter (strike older k (items new)) (items old)

-- the fields of each kind of record, in the file's order
abbrev pub class_fields : Class → List ℕ
class_fields c =
    c.kind ∷ c.base ∷ c.abstracted ∷ c.greatest ∷ c.width ∷ c.from ∷ c.to ∷ c.rank ∷ c.first ∷ c.number ∷ []

abbrev pub name_fields : Name → List ℕ
name_fields n = n.owner ∷ []

abbrev pub extension_fields : Extension → List ℕ
extension_fields e = e.class ∷ e.first ∷ e.number ∷ []

abbrev pub line_fields : Line → List ℕ
line_fields l = l.kind ∷ l.a ∷ l.b ∷ l.c ∷ l.d ∷ l.e ∷ l.f ∷ l.g ∷ []

abbrev pub node_fields : Node → List ℕ
node_fields n = n.op ∷ n.a ∷ n.b ∷ []

abbrev pub map_fields : Map → List ℕ
map_fields m = m.width ∷ m.first ∷ m.number ∷ []

abbrev pub row_fields : Row → List ℕ
row_fields r = r.index ∷ r.high ∷ r.low ∷ []

unfoldable pub same_numbers : List ℕ → List ℕ → Bool
same_numbers [] [] = true
same_numbers [] (y ∷ ys) = false
same_numbers (x ∷ xs) [] = false
same_numbers (x ∷ xs) (y ∷ ys) = x == y && same_numbers xs ys

-- every older record stands unchanged in place
unfoldable pub stands : {A : Type 0} → (A → List ℕ) → List A → List A → Bool
stands fields [] ys = true
stands fields (x ∷ xs) [] = false
stands fields (x ∷ xs) (y ∷ ys) = same_numbers (fields x) (fields y) && stands fields xs ys

-- a new member of an older family is in an expandable one; `classes` are the older's
abbrev pub member_grown : (classes : List Class) → Class → Bool
member_grown classes c = not (is_member c && nat_le c.base (length classes)) || nat_lt 0 (entry classes c.base no_class).greatest

-- a new line writes only new names; the older has so many
abbrev pub line_grown : (names : ℕ) → Line → Bool
line_grown names l = written (statement l) == 0 || nat_lt names (written (statement l))

-- the top class and every older record stand unchanged in place
abbrev pub unchanged : (older newer : Description) → Bool
unchanged older newer =
    (newer.top == older.top) &&
    stands class_fields older.classes newer.classes &&
    stands name_fields older.names newer.names &&
    stands extension_fields older.extensions newer.extensions &&
    stands line_fields older.lines newer.lines &&
    stands node_fields older.nodes newer.nodes &&
    stands map_fields older.maps newer.maps &&
    stands row_fields older.rows newer.rows

-- each new member of an older family is in an expandable one
abbrev pub new_members_fit : (older newer : Description) → Bool
new_members_fit older newer = list_all (member_grown older.classes) (drop (length older.classes) newer.classes)

-- each new line writes only new names
abbrev pub new_lines_fit : (older newer : Description) → Bool
new_lines_fit older newer = list_all (line_grown (length older.names)) (drop (length older.lines) newer.lines)

-- whether a newer description has grown from an older one
unfoldable pub grown : (older newer : Description) → Bool
grown older newer = unchanged older newer && new_members_fit older newer && new_lines_fit older newer

-- the same in words
pub record Grown (older newer : Description) : Type 0 where
  -- the top class and every older record stand unchanged in place
  pub top : newer.top ≡ older.top
  pub classes : Begins older.classes newer.classes
  pub names : Begins older.names newer.names
  pub extensions : Begins older.extensions newer.extensions
  pub lines : Begins older.lines newer.lines
  pub nodes : Begins older.nodes newer.nodes
  pub maps : Begins older.maps newer.maps
  pub rows : Begins older.rows newer.rows
  -- a new member of an older family is in an expandable one
  pub members :
      All (λ (c : Class). T (is_member c) → c.base ≤ length older.classes → 0 < (class_at older c.base).greatest) classes.0
  -- a new line writes only new names
  pub writes :
      (n : ℕ) → length older.lines < n → n ≤ length newer.lines →
      (written (statement (line_at newer n)) ≡ 0) ⊎ (length older.names < written (statement (line_at newer n)))

-- what `grown` says
abbrev pub GrownMeans : Type 0
GrownMeans = (older newer : Description) → grown older newer ≡ true → Grown older newer

-- the law of growth
abbrev pub GrowthLaw : Type 0
GrowthLaw =
    (older newer : Description) (bits : List Bool) → PassesCheck older → PassesCheck newer → Grown older newer →
    Compares older 0 (reading newer bits) (reading older bits)

-- what was handed out so far, struck, and what the older handed out so far: one is a beginning of the other
abbrev pub PartsLaw : Type 0
PartsLaw =
    (older newer : Description) (bits : List Bool) → PassesCheck older → PassesCheck newer → Grown older newer → (new old : List Item) →
    Begins new (items (reading newer bits)) → Begins old (items (reading older bits)) →
    Begins (struck older new) old ⊎ Begins old (struck older new)

-- the depth inside what is struck is at most 16, whatever was handed out so far
abbrev pub DepthLaw : Type 0
DepthLaw =
    (older newer : Description) (bits : List Bool) (is : List Item) → Begins is (items (reading newer bits)) → depth_after older 0 is ≤ 16

-- what the newer makes of any bits against the older, and what it has handed out so far
pub record ReadsOn (older newer : Description) : Type 0 where
  -- unless the newer's fault lies inside what the older lacks, outcomes are equal and the struck items are the
  -- older's; else they are a strictly shorter beginning of the older's
  pub whole : (bits : List Bool) → Compares older 0 (reading newer bits) (reading older bits)
  -- of the items handed out so far, struck, and the older's, one is a beginning of the other
  pub parts :
      (bits : List Bool) (new old : List Item) →
      Begins new (items (reading newer bits)) → Begins old (items (reading older bits)) →
      Begins (struck older new) old ⊎ Begins old (struck older new)

-- what a writing by the older makes, whose tidy reading ends, the newer reads as the older does
abbrev pub CopyLaw : Type 0
CopyLaw =
    (older newer : Description) (bits : List Bool) → PassesCheck older → PassesCheck newer → Grown older newer →
    outcome (tidy_reading older bits) ≡ ended →
    (items (reading newer bits) ≡ items (tidy_reading older bits)) × (outcome (reading newer bits) ≡ ended)
