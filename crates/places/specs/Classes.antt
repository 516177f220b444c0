-- Id widths, greatest sizes and ids where they belong.
use Rattle.std.specs.Prelude.{ℕ, ◌^◌, Bool, cond, not, ◌&&◌, ◌||◌, length, ◌==◌, nat_le, nat_lt}
use Rattle.records.specs.Classes.{is_plain, is_base, is_member}
use Rattle.records.specs.declared.records.Class.{Class}
use Rattle.table.specs.Description.{Description, class_at}
use Rattle.table.specs.First.{some_upto}
use Rattle.passes.specs.Families.{family, in_family}

-- v is a number of so many bits
unfoldable pub fits : (v width : ℕ) → Bool
fits v width = nat_lt v (2 ^ width)

-- first to last id, in so many bits
abbrev pub ids_fit : Class → (width : ℕ) → Bool
ids_fit c width = nat_le c.from c.to && fits c.to width

-- a plain class has neither id width nor ids
abbrev pub plain_wrong : Class → Bool
plain_wrong c = not (c.width == 0 && c.from == 0 && c.to == 0)

-- a base has an id width, of 8 or 16 if it is expandable, which its ids fit
abbrev pub base_wrong : Class → Bool
base_wrong c =
    (c.width == 0) || not (c.greatest == 0) && not (c.width == 8 || c.width == 16) || not (ids_fit c c.width)

-- a member has its id width and greatest size on its base
abbrev pub member_wrong : Class → Bool
member_wrong c = not (c.width == 0 && c.greatest == 0)

abbrev pub class_wrong : Class → Bool
class_wrong c = cond (is_plain c) (plain_wrong c) (cond (is_base c) (base_wrong c) (member_wrong c))

-- class m is a member whose base is none, or whose ids do not fit the base's id width
abbrev pub misplaced : Description → ℕ → Bool
misplaced d m =
    is_member (class_at d m) && not (is_base (class_at d (class_at d m).base) && ids_fit (class_at d m) (class_at d (class_at d m).base).width)

-- that speaks of the member and its base: the later is named
abbrev pub later : ℕ → ℕ → ℕ
later m n = cond (nat_le m n) n m

abbrev pub names_as_later : Description → (n m : ℕ) → Bool
names_as_later d n m = misplaced d m && later m (class_at d m).base == n

-- an abstract base's ids do not count
abbrev pub has_ids : Description → ℕ → Bool
has_ids d n = in_family d n && (class_at d n).abstracted == 0

-- some id lies from first to last in both
abbrev pub ids_meet : Class → Class → Bool
ids_meet x y = nat_le x.from x.to && nat_le y.from y.to && nat_le x.from y.to && nat_le y.from x.to

-- class m stands before class n in the same family, and their ids overlap
abbrev pub overlaps : Description → (n m : ℕ) → Bool
overlaps d n m =
    nat_lt m n && has_ids d m && has_ids d n && family d m == family d n && ids_meet (class_at d m) (class_at d n)

abbrev pub class_place : Description → ℕ → Bool
class_place d n =
    class_wrong (class_at d n) || some_upto (names_as_later d n) (length d.classes) || some_upto (overlaps d n) (length d.classes)
