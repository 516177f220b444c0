-- What readings rest on: what records name is there, and what a line uses ranks below its class.
use Rattle.std.specs.Prelude.{◌≡◌, ℕ, suc, ◌+◌, ◌<◌, ◌≤◌, cond, not, ◌&&◌, T, List, [], ◌∷◌, length, None, nat_le, nat_lt, Option, Some}
use Rattle.records.specs.Classes.{is_base, is_member}
use Rattle.records.specs.Statements.{statement}
use Rattle.records.specs.declared.records.Class.{Class}
use Rattle.records.specs.declared.records.Extension.{Extension}
use Rattle.records.specs.declared.statements.Statement.{Statement}
use Rattle.records.specs.declared.statements.Statement.TheVariants.{Read, Assign, MapRead, Use, If, While}
use Rattle.table.specs.Description.{Description, class_at, line_at, node_at, map_at}
use Rattle.checked.specs.Check.{first_fault}

-- each record of a table
abbrev pub All : {A : Type 0} → (A → Type 0) → List A → Type 0
All P [] = Unit {0}
All P (x ∷ xs) = P x × All P xs

-- the greatest size of a plain class, or of the family of a base or member; above 0 where that is expandable
abbrev pub greatest : Description → ℕ → ℕ
greatest d n = cond (is_member (class_at d n)) (class_at d (class_at d n).base).greatest (class_at d n).greatest

-- the numbers of a line are those of records that are there; a use of an expandable family carries nothing
abbrev pub LineSound : Description → Option Statement → Type 0
LineSound d (Some (Read fields)) =
    (fields.width ≤ length d.nodes) × (fields.count ≤ length d.nodes) × (fields.lowest ≤ length d.nodes) × (fields.highest ≤ length d.nodes)
LineSound d (Some (Assign name node)) = node ≤ length d.nodes
LineSound d (Some (MapRead map name)) = map ≤ length d.maps
LineSound d (Some (Use fields)) =
    (fields.class ≤ length d.classes) × (fields.count ≤ length d.nodes) × (fields.carried ≤ length d.names) ×
    (T (is_base (class_at d fields.class)) → 0 < greatest d fields.class → fields.receiving ≡ 0)
LineSound d (Some (If node first second)) = node ≤ length d.nodes
LineSound d (Some (While node lines rounds)) = node ≤ length d.nodes
LineSound d None = Unit {0}

-- 1 where a stretch of lines holds a line, else 0
abbrev pub held_by : (first number n : ℕ) → ℕ
held_by first number n = cond (nat_le first n && nat_lt n (first + number)) 1 0

-- how many of the classes' stretches hold a line, and how many of the extensions'
unfoldable pub in_classes : List Class → ℕ → ℕ
in_classes [] n = 0
in_classes (c ∷ cs) n = held_by c.first c.number n + in_classes cs n

unfoldable pub in_extensions : List Extension → ℕ → ℕ
in_extensions [] n = 0
in_extensions (e ∷ es) n = held_by e.first e.number n + in_extensions es n

-- what records name is there, and each line stands in one stretch
pub record Sound (d : Description) : Type 0 where
  -- the top class is there
  pub top : d.top ≤ length d.classes
  -- a base is there, and a class's lines are
  pub bases : (c : ℕ) → c ≤ length d.classes → (class_at d c).base ≤ length d.classes
  pub classes : (c : ℕ) → c ≤ length d.classes → (class_at d c).first + (class_at d c).number ≤ suc (length d.lines)
  -- an extension's lines are there, one at least, and it extends what is expandable
  pub extensions :
      All (λ (e : Extension).
      (0 < e.first) × (0 < e.number) × (e.first + e.number ≤ suc (length d.lines)) × (0 < greatest d e.class))
      d.extensions
  -- a line is in exactly one stretch of a class or extension
  pub once : (n : ℕ) → 0 < n → n ≤ length d.lines → in_classes d.classes n + in_extensions d.extensions n ≡ 1
  -- what a line names is there, and no expandable family carries
  pub lines : (n : ℕ) → n ≤ length d.lines → LineSound d (statement (line_at d n))
  -- a name in a node is there
  pub nodes : (k : ℕ) → k ≤ length d.nodes → (node_at d k).op ≡ 2 → (node_at d k).a ≤ length d.names
  -- a map's rows are there
  pub maps : (m : ℕ) → m ≤ length d.maps → (map_at d m).first + (map_at d m).number ≤ suc (length d.rows)

-- a class that may be used below a rank: it is there, no member, and it and its members have lower ranks
pub record Below (d : Description) (rank used : ℕ) : Type 0 where
  pub some : 0 < used
  pub there : used ≤ length d.classes
  pub no_member : T (not (is_member (class_at d used)))
  pub own : (class_at d used).rank < rank
  pub members : (m : ℕ) → T (is_member (class_at d m)) → (class_at d m).base ≡ used → (class_at d m).rank < rank

-- a node that is there
abbrev pub There : Description → ℕ → Type 0
There d k = (0 < k) × (k ≤ length d.nodes)

-- a line of a class of a rank: its compulsory nodes are there, and what it uses has a lower rank
abbrev pub LineRanked : Description → (rank : ℕ) → Option Statement → Type 0
LineRanked d rank (Some (Read fields)) =
    There d fields.width × (fields.count ≤ length d.nodes) × (fields.lowest ≤ length d.nodes) × (fields.highest ≤ length d.nodes)
LineRanked d rank (Some (Assign name node)) = There d node
LineRanked d rank (Some (MapRead map name)) = Unit {0}
LineRanked d rank (Some (Use fields)) = (fields.count ≤ length d.nodes) × Below d rank fields.class
LineRanked d rank (Some (If node first second)) = There d node
LineRanked d rank (Some (While node lines rounds)) = There d node
LineRanked d rank None = Unit {0}

-- what a class uses has a lower rank, and what a node uses is earlier
pub record Ranked (d : Description) : Type 0 where
  -- ranks are 1 to 16, and what is no member has no base
  pub ranks : (c : ℕ) → 0 < c → c ≤ length d.classes → (0 < (class_at d c).rank) × ((class_at d c).rank ≤ 16)
  pub bases : (c : ℕ) → T (not (is_member (class_at d c))) → (class_at d c).base ≡ 0
  -- the top class is there, and is no member
  pub top : (0 < d.top) × (d.top ≤ length d.classes) × T (not (is_member (class_at d d.top)))
  -- the lines of a class's stretch, and of its extensions', use classes of lower ranks
  pub lines :
      (c n : ℕ) → (class_at d c).first ≤ n → n < (class_at d c).first + (class_at d c).number →
      LineRanked d (class_at d c).rank (statement (line_at d n))
  pub extensions :
      All (λ (e : Extension).
      (n : ℕ) → e.first ≤ n → n < e.first + e.number → LineRanked d (class_at d e.class).rank (statement (line_at d n)))
      d.extensions
  -- a node is a constant, a name or the size, numbered 1 to 3, or an operator, numbered up to 20, on earlier nodes
  pub kinds : (k : ℕ) → 0 < k → k ≤ length d.nodes → (0 < (node_at d k).op) × ((node_at d k).op ≤ 20)
  pub nodes :
      (k : ℕ) → 0 < k → k ≤ length d.nodes → 3 < (node_at d k).op →
      (0 < (node_at d k).a) × ((node_at d k).a < k) × (0 < (node_at d k).b) × ((node_at d k).b < k)

abbrev pub SoundLaw : Type 0
SoundLaw = (d : Description) → first_fault d ≡ None → Sound d

abbrev pub RankedLaw : Type 0
RankedLaw = (d : Description) → first_fault d ≡ None → Ranked d
