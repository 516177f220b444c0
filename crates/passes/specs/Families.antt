-- Families: a base and its members.
use Rattle.std.specs.Prelude.{ℕ, Bool, cond, not, ◌&&◌, ◌==◌, nat_lt}
use Rattle.records.specs.Classes.{is_plain, is_base, is_member}
use Rattle.table.specs.Description.{Description, class_at}

-- the number of the base of a class's family, 0 for a class in no family
abbrev pub family : Description → ℕ → ℕ
family d n =
    cond (is_base (class_at d n)) n
    (cond (is_member (class_at d n) && is_base (class_at d (class_at d n).base)) (class_at d n).base 0)

abbrev pub in_family : Description → ℕ → Bool
in_family d n = not (family d n == 0)

-- a plain class or family is expandable if its greatest size, which a family has on its base, is above 0
abbrev pub expandable : Description → ℕ → Bool
expandable d n = nat_lt 0 (cond (is_plain (class_at d n)) (class_at d n).greatest (class_at d (family d n)).greatest)
