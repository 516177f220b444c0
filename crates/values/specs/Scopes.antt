-- Values in an object, as the code has it at hand.
use Rattle.std.specs.Prelude.{ℕ, ℤ}
use Rattle.rules.specs.declared.terms.Operator.{Operator}
use Rattle.rules.specs.Checks.{Check, then}
use Rattle.rules.specs.Values.{applied, of_node, before, value}
use Rattle.values.specs.Names.{named_by}
use Rattle.values.specs.declared.evaluate.Scope.{Scope}

-- the value of node k
abbrev pub value_in : Scope → ℕ → Check ℤ
value_in s k = value s.nodes.now s.size (named_by s.names.now) k

-- what an operator gives of two nodes before node k
abbrev pub applied_in : Scope → (k : ℕ) → Operator → (left right : ℕ) → Check ℤ
applied_in s k o left right =
    then (before k (value_in s) left) λ x. then (before k (value_in s) right) λ y. of_node k (applied o x y)
