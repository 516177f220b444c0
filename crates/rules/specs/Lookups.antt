-- What a reading looks up in a description: the greatest size of a class, the class of an id, a map's output.
use Rattle.std.specs.Prelude.{ℕ, zero, suc, ◌+◌, ◌*◌, Bool, cond, not, ◌&&◌, List, [], ◌∷◌, ℤ, pos, ◌-ℤ◌, Ok, ◌==◌, nat_le}
use Rattle.records.specs.declared.records.Class.{Class}
use Rattle.records.specs.declared.records.Row.{Row}
use Rattle.records.specs.Classes.{is_base, is_member}
use Rattle.table.specs.Description.{Description, class_at, map_at, row_at}
use Rattle.rules.specs.declared.faults.ReadingCause.TheVariants.{NoSuchIndex}
use Rattle.rules.specs.Checks.{Check, fails, pick}

-- the greatest size of a plain class, or of the family of a base or member; above 0 where that is expandable
abbrev pub greatest : Description → ℕ → ℕ
greatest d n = cond (is_member (class_at d n)) (class_at d (class_at d n).base).greatest (class_at d n).greatest

-- an id from the class's first to its last
abbrev pub has_id : ℕ → Class → Bool
has_id id c = nat_le c.from id && nat_le id c.to

abbrev pub member_with : (base id : ℕ) → Class → Bool
member_with base id c = is_member c && c.base == base && has_id id c

-- the number of a record after one more; 0 stays none
abbrev pub one_later : ℕ → ℕ
one_later zero = zero
one_later (suc n) = suc (suc n)

-- the number of the first member of a family with an id, 0 if there is none
unfoldable pub first_member : List Class → (base id : ℕ) → ℕ
first_member [] base id = 0
first_member (c ∷ cs) base id = cond (member_with base id c) 1 (one_later (first_member cs base id))

-- the class of an object: of a family, the base unless it is abstract, or a member, that has the id; 0 if the id is
-- unknown
unfoldable pub object_class : Description → (declared id : ℕ) → ℕ
object_class d declared id =
    cond (not (is_base (class_at d declared))) declared
    (cond ((class_at d declared).abstracted == 0 && has_id id (class_at d declared)) declared
    (first_member d.classes declared id))

-- a row's output, in two's complement
abbrev pub output : Row → ℤ
output r =
    let v = r.high * 65536 + r.low in
    cond (nat_le 2147483648 v) (pos v -ℤ pos 4294967296) (pos v)

-- the output of the row with an index, among so many from a row on
unfoldable pub find_row : Description → (at number index : ℕ) → Check ℤ
find_row d at zero index = fails NoSuchIndex
find_row d at (suc n) index =
    pick ((row_at d at).index == index) (λ _. Ok (output (row_at d at))) (λ _. find_row d (suc at) n index)

-- the output of a map at an index
abbrev pub map_output : Description → ℕ → ℕ → Check ℤ
map_output d m index = find_row d (map_at d m).first (map_at d m).number index
