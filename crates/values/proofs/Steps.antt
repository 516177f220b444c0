-- What comes of a node, by its term.
use Rattle.std.proofs.Common.{◌≡◌, ℕ, ◌<◌, ◌≤◌, List, ℤ, pos, Some, None, Option, Ok, Err, sym, ap, ◌∙◌}
use Rattle.std.proofs.lemmas.Bool.{lt-ltb, le-ltb}
use Rattle.records.specs.declared.records.Node.{Node}
use Rattle.table.specs.Description.{entry, no_node}
use Rattle.rules.specs.Terms.{term}
use Rattle.rules.specs.declared.faults.Failure.{Failure}
use Rattle.rules.specs.declared.terms.Operator.{Operator}
use Rattle.rules.specs.declared.terms.Term.{Term}
use Rattle.rules.specs.declared.terms.Term.TheVariants.{Constant, Named, OwnSize, Apply}
use Rattle.rules.proofs.Equations.{value_step}
use Rattle.rules.specs.Checks.{Check, pick, fails, then}
use Rattle.rules.specs.declared.faults.ReadingCause.TheVariants.{Unchecked}
use Rattle.rules.specs.Values.{Names, applied, of_node, term_value, before, value}

module _ (nodes : List Node) (size : ℕ) (names : Names) (k : ℕ) where
  abbrev node_term : Option Term
  node_term = term (entry nodes k no_node)

  abbrev result : Check ℤ
  result = value nodes size names k

  at_term : (t : Option Term) → t ≡ node_term → term_value k t names size (before k (value nodes size names)) ≡ result
  at_term t e = ap (λ t. term_value k t names size (before k (value nodes size names))) e ∙ sym (value_step nodes size names k)

  pub at_constant : (v : ℕ) → Some (Constant v) ≡ node_term → Ok (pos v) ≡ result
  unfolding term_value
  at_constant v e = at_term (Some (Constant v)) e

  pub at_named : (n : ℕ) → Some (Named n) ≡ node_term → Ok (names n) ≡ result
  unfolding term_value
  at_named n e = at_term (Some (Named n)) e

  pub at_size : Some OwnSize ≡ node_term → Ok (pos size) ≡ result
  unfolding term_value
  at_size e = at_term (Some OwnSize) e

  pub at_none : None ≡ node_term → fails Unchecked ≡ result
  unfolding term_value
  at_none e = at_term None e

  -- what comes of an operator on two nodes
  abbrev both : Operator → (left right : ℕ) → Check ℤ
  both o left right = then (before k (value nodes size names) left) λ x. then (before k (value nodes size names) right) λ y. of_node k (applied o x y)

  module _ (o : Operator) (left right : ℕ) where
    pub at_apply : Some (Apply o left right) ≡ node_term → both o left right ≡ result
    unfolding term_value
    at_apply e = at_term (Some (Apply o left right)) e

    missing : (j : ℕ) → k ≤ j → before k (value nodes size names) j ≡ fails Unchecked
    missing j h = ap (λ b. pick b (λ _. value nodes size names j) (λ _. fails Unchecked)) (le-ltb j k h)

    present : (j : ℕ) → j < k → before k (value nodes size names) j ≡ value nodes size names j
    present j h = ap (λ b. pick b (λ _. value nodes size names j) (λ _. fails Unchecked)) (lt-ltb j k h)

    pub left_missing : k ≤ left → fails Unchecked ≡ both o left right
    unfolding then
    left_missing h = sym (ap (λ (m : Check ℤ). then m λ x. then (before k (value nodes size names) right) λ y. of_node k (applied o x y)) (missing left h))

    pub left_fails : left < k → {f : Failure} → Err f ≡ value nodes size names left → Err f ≡ both o left right
    unfolding then
    left_fails h p = ap (λ (m : Check ℤ). then m λ x. then (before k (value nodes size names) right) λ y. of_node k (applied o x y)) (p ∙ sym (present left h))

    after_left : left < k → {x : ℤ} → Ok x ≡ value nodes size names left →
        (then (before k (value nodes size names) right) λ y. of_node k (applied o x y)) ≡ both o left right
    unfolding then
    after_left h p = ap (λ (m : Check ℤ). then m λ x. then (before k (value nodes size names) right) λ y. of_node k (applied o x y)) (p ∙ sym (present left h))

    pub right_missing : left < k → {x : ℤ} → Ok x ≡ value nodes size names left → k ≤ right → fails Unchecked ≡ both o left right
    unfolding then
    right_missing h {x} p q = sym (ap (λ (m : Check ℤ). then m λ y. of_node k (applied o x y)) (missing right q)) ∙ after_left h p

    pub both_come : left < k → {x : ℤ} → Ok x ≡ value nodes size names left → right < k → {m : Check ℤ} → m ≡ value nodes size names right →
        (then m λ y. of_node k (applied o x y)) ≡ both o left right
    both_come h {x} p l q = ap (λ (m : Check ℤ). then m λ y. of_node k (applied o x y)) (q ∙ sym (present right l)) ∙ after_left h p
