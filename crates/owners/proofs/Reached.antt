-- The recursion equation of `reaches`, with no bound in it.
use Rattle.std.proofs.Common.{◌≡◌, ℕ, zero, suc, ◌+◌, ◌<◌, ◌≤◌, Bool, true, false, ◌&&◌, ◌||◌, eqb, ltb, List, length, get_or, set, replicate, sym, refl, ap, ◌∙◌, inl, inr, arith, get_or-set_other, ltb-true, ne_eqb}
use lib.ListN.{get_or-replicate, length-replicate}
use Rattle.std.proofs.lemmas.List.Edits.{fill_by_more}
use Rattle.std.proofs.lemmas.List.{get_or_past}
use Rattle.std.proofs.lemmas.Bool.{false≢true}
use Rattle.std.proofs.lemmas.Bool.Decides.{leb_tells}
use Rattle.fields.specs.Nodes.{is_operator, takes_name}
use Rattle.table.specs.Description.{Description, node_at, no_node}
use Rattle.table.proofs.Entries.{entry_none, entry_past}
use Rattle.owners.specs.Reach.{reaches_by, reaches_within, reaches}

-- only where the test passes
guarded : (b p q : Bool) → (b ≡ true → p ≡ q) → (b && p) ≡ (b && q)
guarded true p q h = h refl
guarded false p q h = refl

either : (b p q r s : Bool) → p ≡ r → q ≡ s → (b && (p || q)) ≡ (b && (r || s))
either b p q r s e f = rw (e, f)

module _ (d : Description) (x : ℕ) where
  -- only earlier nodes are asked
  pub agreed : (p q : ℕ → Bool) (r : ℕ) → ((v : ℕ) → v < r → p v ≡ q v) → reaches_by p d x r ≡ reaches_by q d x r
  agreed p q r h =
      let a = (node_at d r).a in
      let b = (node_at d r).b in
      let e : (ltb a r && p a) ≡ (ltb a r && q a) = guarded (ltb a r) (p a) (q a) (λ t. h a (ltb-true a r t)) in
      let f : (ltb b r && p b) ≡ (ltb b r && q b) = guarded (ltb b r) (p b) (q b) (λ t. h b (ltb-true b r t)) in
      ap (λ (z : Bool). eqb r x || z) (either (is_operator (node_at d r)) _ _ _ _ e f)

  enough : (f g r : ℕ) → r < f → r < g → reaches_within d x f r ≡ reaches_within d x g r
  unfolding reaches_within
  enough zero g r p q = absurd (omega arith)
  enough (suc f) zero r p q = absurd (omega arith)
  enough (suc f) (suc g) r p q = agreed _ _ r (λ v h. enough f g v (omega arith) (omega arith))

  pub reaches_step : (r : ℕ) → reaches d x r ≡ reaches_by (reaches d x) d x r
  unfolding reaches_within reaches
  reaches_step r = agreed _ _ r (λ v h. enough r (suc v) v h (omega arith))

  -- what is no node reaches none
  no_node_reaches : (r : ℕ) → node_at d r ≡ no_node → eqb r x ≡ false → false ≡ reaches d x r
  no_node_reaches r e f = sym (reaches_step r ∙ rw (e, f))

  pub reaches_zero : 0 < x → false ≡ reaches d x 0
  reaches_zero h = no_node_reaches 0 (entry_none d.nodes no_node) (ne_eqb 0 x (λ e. omega arith))

  pub reaches_past : (r : ℕ) → length d.nodes < r → x ≤ length d.nodes → false ≡ reaches d x r
  reaches_past r h k = no_node_reaches r (entry_past d.nodes r no_node h) (ne_eqb r x (λ e. omega arith))

-- no mark at first
pub unmarked : (n k : ℕ) → get_or (replicate n false) k false ≡ false
unmarked n k =
    elim (leb_tells n k) [
      | inl t ↦ get_or_past (replicate n false) k false (omega (arith, t.1, length-replicate n false))
      | inr t ↦ get_or-replicate n k false false (omega (arith, t.1))
    ]

-- the marks of the nodes up to i, and of one more
module _ (d : Description) (x : ℕ) (marks : List Bool) (i : ℕ) where
  pub marked_none : 0 < x → (k : ℕ) → k < 1 → get_or marks k false ≡ false → get_or marks k false ≡ reaches d x k
  marked_none low k h e = let z : k ≡ 0 = omega arith in e ∙ reaches_zero d x low ∙ ap (reaches d x) (sym z)

  pub marked_more : (b : Bool) → i + 1 < length marks → ((k : ℕ) → k < i + 1 → get_or marks k false ≡ reaches d x k) → b ≡ reaches_by (λ v. get_or marks v false) d x (i + 1) → (k : ℕ) → k < i + 1 + 1 → get_or (set marks (i + 1) b) k false ≡ reaches d x k
  marked_more b lt inv q k h =
      let e : b ≡ reaches d x (i + 1) = q ∙ agreed d x (λ v. get_or marks v false) (reaches d x) (i + 1) inv ∙ sym (reaches_step d x (i + 1)) in
      rw e (fill_by_more (reaches d x) marks (i + 1) false lt inv k h)

  pub unmarked_more : (b : Bool) → ((k : ℕ) → i < k → get_or marks k false ≡ false) → (k : ℕ) → i + 1 < k → get_or (set marks (i + 1) b) k false ≡ false
  unmarked_more b inv k h = get_or-set_other marks (i + 1) k b false (λ e. omega arith) ∙ inv k (omega arith)

-- what takes a name is a node that is there
takes_no_name : (x : ℕ) (d : Description) → node_at d x ≡ no_node → takes_name (node_at d x) ≡ true → ⊥
takes_no_name x d e t = let f : takes_name no_node ≡ true = rw e at t in false≢true f

pub taker_there : (d : Description) (x : ℕ) → takes_name (node_at d x) ≡ true → (0 < x) × (x ≤ length d.nodes)
taker_there d zero t = absurd (takes_no_name 0 d (entry_none d.nodes no_node) t)
taker_there d (suc k) t =
    elim (leb_tells (suc k) (length d.nodes)) [
      | inl h ↦ (omega arith, h.1)
      | inr h ↦ absurd (takes_no_name (suc k) d (entry_past d.nodes (suc k) no_node (omega (arith, h.1))) t)
    ]
