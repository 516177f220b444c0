-- An item's own bits, from the description and the item alone.
use Rattle.std.specs.Prelude.{ℕ, zero, suc, ◌+◌, ◌-◌, ◌/◌, ◌%◌, ◌^◌, ◌<◌, ◌≤◌, Bool, false, cond, List, [], ◌++◌, length, take, replicate, ℤ, pos, negsuc, Ok, Err, nat_lt, unsigned_abs, Option, Some, None}
use Rattle.records.specs.declared.records.Class.{Class}
use Rattle.rules.specs.declared.items.Item.{Item}
use Rattle.rules.specs.declared.items.Kind.{Kind}
use Rattle.rules.specs.declared.items.Kind.TheVariants.{Value, Open, Close}
use Rattle.rules.specs.Checks.{Check, pick}
use Rattle.bits.specs.Bits.{bits_of}
use Rattle.rules.specs.Order.{declared_at}
use Rattle.rules.specs.Steps.{id_width}
use Rattle.table.specs.Description.{Description, class_at, line_at, map_at}
use Rattle.rules.specs.Lookups.{greatest, map_output}
use Rattle.rules.specs.Values.{same}
use Rattle.records.specs.declared.statements.Statement.{Statement}
use Rattle.records.specs.declared.statements.Statement.TheVariants.{Read, Assign, MapRead, Use, If, While}
use Rattle.records.specs.Statements.{statement}

-- a number in two's complement
abbrev pub complement : (n : ℕ) → ℤ → ℕ
complement n (pos k) = k
complement n (negsuc k) = 2 ^ n - suc k

-- a size in the fewest bytes, each a continuation bit and seven bits
unfoldable pub size_code : ℕ → List Bool
size_code s =
    pick (nat_lt s 128) (λ _. bits_of 8 s) λ _.
    pick (nat_lt s 16384) (λ _. bits_of 8 (128 + s / 128) ++ bits_of 8 (s % 128)) λ _.
    pick (nat_lt s 2097152) (λ _. bits_of 8 (128 + s / 16384) ++ (bits_of 8 (128 + s / 128 % 128) ++ bits_of 8 (s % 128))) λ _.
    bits_of 8 (128 + s / 2097152) ++ (bits_of 8 (128 + s / 16384 % 128) ++ (bits_of 8 (128 + s / 128 % 128) ++ bits_of 8 (s % 128)))

abbrev pub gives_value : ℤ → Check ℤ → Bool
gives_value v (Ok u) = same u v
gives_value v (Err f) = false

-- the first of n numbers from x that passes a test
unfoldable pub first_such : (ℕ → Bool) → (n x : ℕ) → ℕ
first_such f zero x = x
first_such f (suc n) x = cond (f x) x (first_such f n (suc x))

-- the lowest index of a map that gives a value
unfoldable pub lowest_index : (width : ℕ) → (ℕ → Check ℤ) → ℤ → ℕ
lowest_index width outputs v = first_such (λ x. gives_value v (outputs x)) (2 ^ width) 0

-- the size of an object whose greatest size is given
abbrev pub size_bits : (greatest size : ℕ) → List Bool
size_bits zero s = []
size_bits (suc g) s = size_code s

-- an object's beginning
unfoldable pub header_bits : Class → (greatest id size : ℕ) → List Bool
header_bits c greatest id size = bits_of (id_width c) id ++ size_bits greatest size

-- the bits of a value that a line reads; of a map the lowest index with that output
unfoldable pub value_bits : Description → Option Statement → (value : ℤ) → (length : ℕ) → List Bool
value_bits d (Some (Read fields)) v n = bits_of n (complement n v)
value_bits d (Some (Assign name node)) v n = []
value_bits d (Some (MapRead m name)) v n = bits_of (map_at d m).width (lowest_index (map_at d m).width (map_output d m) v)
value_bits d (Some (Use fields)) v n = []
value_bits d (Some (If node first second)) v n = []
value_bits d (Some (While node lines rounds)) v n = []
value_bits d None v n = []

abbrev pub item_bits : Description → Kind → (line : ℕ) → (value : ℤ) → (length : ℕ) → List Bool
item_bits d Value line v n = value_bits d (statement (line_at d line)) v n
item_bits d Open line v n = header_bits (class_at d (declared_at d line)) (greatest d (declared_at d line)) (unsigned_abs v) n
item_bits d Close line v n = []

-- an item's own bits
abbrev pub own_bits : Description → Item → List Bool
own_bits d i = item_bits d i.kind i.line i.value i.length

-- where they end
abbrev pub end_of : Description → Item → ℕ
end_of d i = i.place + length (own_bits d i)

-- all 0, of a length, but for the item's own bits at its place
unfoldable pub pending : Description → (L : ℕ) → Item → List Bool
pending d L i = take L (replicate i.place false ++ (own_bits d i ++ replicate L false))

-- an item whose numbers some reading could hand out, as far as they stand in its own bits
unfoldable pub SensibleValue : Description → Option Statement → (value : ℤ) → (length : ℕ) → Type 0
SensibleValue d (Some (Read fields)) v n = (n ≤ 32) × (complement n v < 2 ^ n)
SensibleValue d (Some (Assign name node)) v n = ⊥
SensibleValue d (Some (MapRead m name)) v n = lowest_index (map_at d m).width (map_output d m) v < 2 ^ (map_at d m).width
SensibleValue d (Some (Use fields)) v n = ⊥
SensibleValue d (Some (If node first second)) v n = ⊥
SensibleValue d (Some (While node lines rounds)) v n = ⊥
SensibleValue d None v n = ⊥

abbrev pub SensibleBy : Description → Kind → (line : ℕ) → (value : ℤ) → (length : ℕ) → Type 0
SensibleBy d Value line v n = SensibleValue d (statement (line_at d line)) v n
SensibleBy d Open line v n = (unsigned_abs v < 2 ^ id_width (class_at d (declared_at d line))) × (n < 268435456)
SensibleBy d Close line v n = Unit {0}

abbrev pub Sensible : Description → Item → Type 0
Sensible d i = SensibleBy d i.kind i.line i.value i.length
