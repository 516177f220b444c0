-- The first member of a family, found one after the other.
use Rattle.std.proofs.Common.{◌≡◌, ℕ, zero, suc, ◌+◌, Bool, true, false, cond, ◌&&◌, Some, None, Option, eqb, List, [], ◌∷◌, position, sym, refl, ap, ◌∙◌, arith}
use Rattle.std.specs.List.{position_from}
use Rattle.std.proofs.lemmas.Iterator.Adapters.{position_from-zero}
use Rattle.records.specs.declared.records.Class.{Class}
use Rattle.records.specs.Classes.{is_base}
use Rattle.table.specs.Description.{Description, class_at}
use Rattle.rules.specs.Lookups.{has_id, object_class, member_with, one_later, first_member}

-- the number of a record among those after i others; 0 stays none
abbrev pub later : ℕ → ℕ → ℕ
later i zero = 0
later i (suc m) = suc m + i

later_more : (i m : ℕ) → later i (one_later m) ≡ later (i + 1) m
later_more i zero = refl
later_more i (suc m) = omega arith

pub later_none : (n : ℕ) → n ≡ later 0 n
later_none zero = refl
later_none (suc n) = omega arith

-- the number of an index that was found, 0 where none was
abbrev pub number_of : Option ℕ → ℕ
number_of None = 0
number_of (Some i) = i + 1

from_index : (xs : List Class) (base id i : ℕ) → number_of (position_from (member_with base id) i xs) ≡ later i (first_member xs base id)
unfolding first_member
from_index [] base id i = refl
from_index (c ∷ cs) base id i = go (member_with base id c) (from_index cs base id (i + 1))
  where
    go : (b : Bool) → number_of (position_from (member_with base id) (i + 1) cs) ≡ later (i + 1) (first_member cs base id)
        → number_of (cond b (Some i) (position_from (member_with base id) (i + 1) cs)) ≡ later i (cond b 1 (one_later (first_member cs base id)))
    go true e = omega arith
    go false e = e ∙ sym (later_more i (first_member cs base id))

pub member_number : (xs : List Class) (base id : ℕ) → number_of (position (member_with base id) xs) ≡ first_member xs base id
member_number xs base id = ap number_of (position_from-zero (member_with base id) xs) ∙ from_index xs base id 0 ∙ sym (later_none (first_member xs base id))

module _ (d : Description) (declared id : ℕ) (c : Class) (is : c ≡ class_at d declared) where
  pub class_plain : is_base c ≡ false → declared ≡ object_class d declared id
  unfolding object_class
  class_plain h = rw (← is, h) refl

  pub class_own : is_base c ≡ true → c.abstracted ≡ 0 → has_id id c ≡ true → declared ≡ object_class d declared id
  unfolding object_class
  class_own h a k = rw (← is, h, a, k) refl

  pub class_member : is_base c ≡ true → (eqb c.abstracted 0 && has_id id c) ≡ false → first_member d.classes declared id ≡ object_class d declared id
  unfolding object_class
  class_member h a = rw (← is, h, a) refl
