-- Striking never leads deeper than the objects that are open.
use Rattle.std.proofs.Common.{◌≡◌, ℕ, zero, suc, pred, ◌≤◌, ◌||◌, ltb, List, [], ◌∷◌, ◌++◌, length, ap, subst, arith}
use Rattle.std.proofs.lemmas.Bool.{cond_both}
use Rattle.table.specs.Description.{Description}
use Rattle.rules.specs.declared.items.Item.{Item}
use Rattle.rules.specs.declared.items.Kind.{Kind}
use Rattle.rules.specs.declared.items.Kind.TheVariants.{Value, Open, Close}
use Rattle.rules.specs.Growth.{next_depth, deeper, new_line, new_class, depth_after, DepthLaw}
use Rattle.rules.specs.Order.{Nests, value, opens, closes}
use Rattle.rules.proofs.Orderly.{order_law}

one_less : (k n : ℕ) → k ≤ suc n → pred k ≤ n
one_less zero n h = omega arith
one_less (suc k) n h = omega arith

module _ (older : Description) where
  deeper_is : (kind : Kind) (k : ℕ) (i : Item) → i.kind ≡ kind → deeper older k i ≡ next_depth kind (new_line older i.line || new_class older i.class) k
  unfolding deeper
  deeper_is kind k i e = ap (λ m. next_depth m (new_line older i.line || new_class older i.class) k) e

  within : (is more : List Item) {around left : List Item} (k : ℕ) → Nests around (is ++ more) left → k ≤ length around → length around ≤ 16 →
      depth_after older k is ≤ 16
  unfolding depth_after
  within [] more k n h l = omega arith
  within (i ∷ is) more k (value e c n) h l =
      let d = deeper_is Value k i e in
      within is more (deeper older k i) n (omega (arith, d, h)) l
  within (i ∷ is) more k (opens {around = around} e r n) h l =
      let o = cond_both (ltb 0 k || (new_line older i.line || new_class older i.class)) (suc k) 0 (λ x. x ≤ suc k) (λ t. omega arith) (λ t. omega arith) in
      let d = deeper_is Open k i e in
      within is more (deeper older k i) n (omega (arith, d, o)) (omega arith)
  within (i ∷ is) more k (closes {around = around} e r n) h l =
      let d = deeper_is Close k i e in
      let p = one_less k (length around) h in
      within is more (deeper older k i) n (omega (arith, d, p)) (omega arith)

pub depth_law : DepthLaw
depth_law older newer bits is b =
    within older is b.0 0 (subst (λ is. Nests [] is (order_law newer bits).left) b.1 (order_law newer bits).nest) (omega arith) (omega arith)
