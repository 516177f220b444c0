-- The class of an object by the older and by the newer description.
use Rattle.std.proofs.Common.{◌≡◌, ℕ, zero, suc, ◌+◌, ◌<◌, ◌≤◌, Bool, true, false, cond, not, ◌&&◌, T, eqb, ◌⊎◌, List, [], ◌∷◌, ◌++◌, length, get_or, sym, refl, ap, ◌∙◌, subst, inl, inr, arith, eqb→eq}
use Rattle.std.proofs.Math.Facts.{and_yes}
use Rattle.records.specs.declared.records.Class.{Class}
use Rattle.records.specs.Classes.{is_base, is_member}
use Rattle.table.specs.Description.{Description, entry, no_class, class_at}
use Rattle.rules.specs.Lookups.{greatest, has_id, member_with, one_later, first_member, object_class}
use Rattle.rules.specs.Growth.{Grown}
use Rattle.checked.specs.Sound.{All}
use Rattle.rules.proofs.Same.{class_same}

pub member_kind : (b id : ℕ) (c : Class) → T (member_with b id c) → T (is_member c)
member_kind b id c m = (and_yes (is_member c) (eqb c.base b) (and_yes (is_member c && eqb c.base b) (has_id id c) m).0).0

pub member_base : (b id : ℕ) (c : Class) → T (member_with b id c) → c.base ≡ b
member_base b id c m =
    eqb→eq c.base b (and_yes (is_member c) (eqb c.base b) (and_yes (is_member c && eqb c.base b) (has_id id c) m).0).1

-- the first of two lists' finds, the first list's length given
join : ℕ → ℕ → ℕ → ℕ
join n zero zero = zero
join n zero (suc y) = suc (n + y)
join n (suc a) y = suc a

later_join : (n a y : ℕ) → one_later (join n a y) ≡ join (suc n) (one_later a) y
unfolding join
later_join n zero zero = refl
later_join n zero (suc y) = omega arith
later_join n (suc a) y = refl

join_none : (y : ℕ) → y ≡ join 0 0 y
unfolding join
join_none zero = refl
join_none (suc y) = omega arith

first_append : (xs ys : List Class) (b id : ℕ) → first_member (xs ++ ys) b id ≡ join (length xs) (first_member xs b id) (first_member ys b id)
unfolding first_member join
first_append [] ys b id = join_none (first_member ys b id)
first_append (c ∷ xs) ys b id = go (member_with b id c) (first_append xs ys b id)
  where
    go : (t : Bool) → first_member (xs ++ ys) b id ≡ join (length xs) (first_member xs b id) (first_member ys b id) →
        cond t 1 (one_later (first_member (xs ++ ys) b id)) ≡ join (suc (length xs)) (cond t 1 (one_later (first_member xs b id))) (first_member ys b id)
    go true h = refl
    go false h = ap one_later h ∙ later_join (length xs) (first_member xs b id) (first_member ys b id)

later_within : (a n : ℕ) → a ≤ n → one_later a ≤ suc n
later_within zero n h = omega arith
later_within (suc a) n h = omega arith

first_within : (xs : List Class) (b id : ℕ) → first_member xs b id ≤ length xs
unfolding first_member
first_within [] b id = omega arith
first_within (c ∷ xs) b id = go (member_with b id c) (first_within xs b id)
  where
    go : (t : Bool) → first_member xs b id ≤ length xs → cond t 1 (one_later (first_member xs b id)) ≤ suc (length xs)
    go true h = omega arith
    go false h = later_within (first_member xs b id) (length xs) h

-- what is found is a member of the family
pub first_fact : (xs : List Class) (b id r : ℕ) → first_member xs b id ≡ suc r → T (member_with b id (get_or xs r no_class))
unfolding first_member
first_fact [] b id r e = let y : ⊥ = omega arith in absurd y
first_fact (c ∷ xs) b id r e = go (member_with b id c) refl e (first_member xs b id) refl (first_fact xs b id)
  where
    go : (t : Bool) → member_with b id c ≡ t → cond t 1 (one_later (first_member xs b id)) ≡ suc r → (a : ℕ) → first_member xs b id ≡ a →
        ((r : ℕ) → first_member xs b id ≡ suc r → T (member_with b id (get_or xs r no_class))) → T (member_with b id (get_or (c ∷ xs) r no_class))
    go true m e a f h =
        let z : 0 ≡ r = omega arith in
        subst (λ q. T (member_with b id (get_or (c ∷ xs) q no_class))) z (subst T (sym m) tt)
    go false m e zero f h =
        let z : 0 ≡ suc r = ap one_later (sym f) ∙ e in let y : ⊥ = omega arith in absurd y
    go false m e (suc a) f h =
        let z : suc (suc a) ≡ suc r = ap one_later (sym f) ∙ e in
        let y : suc a ≡ r = omega arith in
        subst (λ q. T (member_with b id (get_or (c ∷ xs) q no_class))) y (h a f)

pub base_greatest : (d : Description) (c : ℕ) → T (is_base (class_at d c)) → greatest d c ≡ (class_at d c).greatest
base_greatest d c t =
    ap (λ k. cond (eqb k 2) (class_at d (class_at d c).base).greatest (class_at d c).greatest) (eqb→eq (class_at d c).kind 1 t)

-- an object's class has the greatest size of the class declared
pub chosen_greatest : (d : Description) (declared id n : ℕ) → object_class d declared id ≡ suc n → greatest d (suc n) ≡ greatest d declared
unfolding object_class entry
chosen_greatest d declared id n e =
    go (is_base (class_at d declared)) refl (eqb (class_at d declared).abstracted 0 && has_id id (class_at d declared)) e
  where
    member : T (is_base (class_at d declared)) → first_member d.classes declared id ≡ suc n → greatest d (suc n) ≡ greatest d declared
    member t f =
        let c : Class = get_or d.classes n no_class in
        let m : T (member_with declared id c) = first_fact d.classes declared id n f in
        let k : c.kind ≡ 2 = eqb→eq c.kind 2 (member_kind declared id c m) in
        let b : c.base ≡ declared = member_base declared id c m in
        ap (λ k. cond (eqb k 2) (class_at d c.base).greatest c.greatest) k ∙ ap (λ b. (class_at d b).greatest) b ∙ sym (base_greatest d declared t)

    go : (t : Bool) → is_base (class_at d declared) ≡ t → (u : Bool) → cond (not t) declared (cond u declared (first_member d.classes declared id)) ≡ suc n →
        greatest d (suc n) ≡ greatest d declared
    go false m u e = ap (greatest d) (sym e)
    go true m true e = ap (greatest d) (sym e)
    go true m false e = member (subst T (sym m) tt) e

module _ (older newer : Description) (gr : Grown older newer) where
  -- a new member of an older family is in an expandable one
  first_new : (ys : List Class) → All (λ (c : Class). T (is_member c) → c.base ≤ length older.classes → 0 < (class_at older c.base).greatest) ys →
      (b id : ℕ) → b ≤ length older.classes → 0 < first_member ys b id → 0 < (class_at older b).greatest
  unfolding first_member
  first_new [] a b id h f = let y : ⊥ = omega arith in absurd y
  first_new (c ∷ ys) a b id h f = go (member_with b id c) refl f (first_new ys a.1 b id h)
    where
      later_some : (n : ℕ) → 0 < one_later n → 0 < n
      later_some zero z = z
      later_some (suc n) z = omega arith

      go : (t : Bool) → member_with b id c ≡ t → 0 < cond t 1 (one_later (first_member ys b id)) → (0 < first_member ys b id → 0 < (class_at older b).greatest) →
          0 < (class_at older b).greatest
      go true m f h' =
          let t : T (member_with b id c) = subst T (sym m) tt in
          let e : c.base ≡ b = member_base b id c t in
          subst (λ q. 0 < (class_at older q).greatest) e (a.0 (member_kind b id c t) (omega arith))
      go false m f h' = h' (later_some (first_member ys b id) f)

  -- the class of an object of an older declared class: the same in both, or unknown to the older alone
  abbrev pub Chosen : (declared new old : ℕ) → Type 0
  Chosen declared new old =
      ((new ≡ old) × (old ≤ length older.classes)) ⊎
      ((old ≡ 0) × (length older.classes < new) × T (is_base (class_at older declared)) × (0 < greatest older declared))

  pub chosen : (declared id : ℕ) → declared ≤ length older.classes → Chosen declared (object_class newer declared id) (object_class older declared id)
  unfolding object_class join
  chosen declared id h =
      subst (λ n. Chosen declared n (object_class older declared id)) (sym path)
      (go (is_base (class_at older declared)) refl (eqb (class_at older declared).abstracted 0 && has_id id (class_at older declared))
      (first_member older.classes declared id) (first_within older.classes declared id)
      (first_member gr.classes.0 declared id) (first_new gr.classes.0 gr.members declared id h))
    where
      by : Class → ℕ → ℕ
      by c f = cond (not (is_base c)) declared (cond (eqb c.abstracted 0 && has_id id c) declared f)

      path : by (class_at newer declared) (first_member newer.classes declared id) ≡
          by (class_at older declared) (join (length older.classes) (first_member older.classes declared id) (first_member gr.classes.0 declared id))
      path = λ i. by (class_same older newer gr declared h i)
          ((ap (λ cs. first_member cs declared id) gr.classes.1 ∙ first_append older.classes gr.classes.0 declared id) i)

      go : (t : Bool) → is_base (class_at older declared) ≡ t → (u : Bool) (a : ℕ) → a ≤ length older.classes → (y : ℕ) → (0 < y → 0 < (class_at older declared).greatest) →
          Chosen declared (cond (not t) declared (cond u declared (join (length older.classes) a y))) (cond (not t) declared (cond u declared a))
      go false m u a w y x = inl (refl, h)
      go true m true a w y x = inl (refl, h)
      go true m false (suc a) w y x = inl (refl, w)
      go true m false zero w zero x = inl (refl, w)
      go true m false zero w (suc y) x =
          let t : T (is_base (class_at older declared)) = subst T (sym m) tt in
          inr (refl, omega arith, t, subst (λ q. 0 < q) (sym (base_greatest older declared t)) (x (omega arith)))
