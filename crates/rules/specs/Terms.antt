-- A node with its fields by name.
use Rattle.std.specs.Prelude.{ℕ, ◌+◌, ◌*◌, cond, Some, None, Option, ◌==◌}
use Rattle.records.specs.declared.records.Node.{Node}
use Rattle.rules.specs.declared.terms.Operator.{Operator}
use Rattle.rules.specs.declared.terms.Term.{Term}
use Rattle.rules.specs.declared.terms.Term.TheVariants.{Constant, Named, OwnSize, Apply}
use Rattle.rules.specs.Numbers.{operator_with}

-- an operator on the nodes a and b, if there is one
abbrev pub applying : Option Operator → (a b : ℕ) → Option Term
applying (Some o) a b = Some (Apply o a b)
applying None a b = None

-- 1 is the constant a × 65,536 + b, 2 the name a, 3 the own object's size; the others are operators
unfoldable pub term : Node → Option Term
term n =
    cond (n.op == 1) (Some (Constant (n.a * 65536 + n.b)))
    (cond (n.op == 2) (Some (Named n.a))
    (cond (n.op == 3) (Some OwnSize)
    (applying (operator_with n.op) n.a n.b)))
