-- The recursion equations of code and of values, with no bound in them.
use Rattle.std.proofs.Common.{◌≡◌, ℕ, zero, suc, ◌<◌, ◌≤◌, List, ℤ, refl, ap, arith}
use mathlib.Core.Path.{fun_ext}
use Rattle.records.specs.declared.records.Line.{Line}
use Rattle.records.specs.declared.records.Node.{Node}
use Rattle.records.specs.Statements.{statement}
use Rattle.table.specs.Description.{entry, no_line, no_node}
use Rattle.rules.specs.Checks.{Check}
use Rattle.rules.specs.Terms.{term}
use Rattle.rules.specs.Values.{Names, term_value, before, value_within, value, ValueLaw}
use Rattle.rules.specs.Code.{code_within, code, CodeLaw}
use Rattle.rules.proofs.Same.{coded_same, before_same}

-- two ways to give the earlier values that agree below k
agreed : (k : ℕ) (p q : ℕ → Check ℤ) → ((j : ℕ) → j < k → p j ≡ q j) → before k p ≡ before k q
agreed k p q h = fun_ext (before_same k p q h)

-- any bound above a node's number gives the same value
enough : (nodes : List Node) (size : ℕ) (names : Names) (f g k : ℕ) → k < f → k < g → value_within f nodes size names k ≡ value_within g nodes size names k
unfolding value_within
enough nodes size names zero g k p q = absurd (omega arith)
enough nodes size names (suc f) zero k p q = absurd (omega arith)
enough nodes size names (suc f) (suc g) k p q =
    ap (term_value k (term (entry nodes k no_node)) names size) (agreed k _ _ (λ j h. enough nodes size names f g j (omega arith) (omega arith)))

pub value_step : ValueLaw
unfolding value_within value
value_step nodes size names k =
    ap (term_value k (term (entry nodes k no_node)) names size) (agreed k _ _ (λ j h. enough nodes size names k (suc j) j h (omega arith)))

-- any bound from the number of lines on gives the same code
code-enough : (lines : List Line) (f g at n : ℕ) → n ≤ f → n ≤ g → code_within f lines at n ≡ code_within g lines at n
unfolding code_within
code-enough lines zero zero at n p q = refl
code-enough lines zero (suc g) at zero p q = refl
code-enough lines zero (suc g) at (suc k) p q = absurd (omega arith)
code-enough lines (suc f) zero at zero p q = refl
code-enough lines (suc f) zero at (suc k) p q = absurd (omega arith)
code-enough lines (suc f) (suc g) at zero p q = refl
code-enough lines (suc f) (suc g) at (suc k) p q =
    coded_same (statement (entry lines at no_line)) at k (code_within f lines) (code_within g lines)
    (λ m n u v. code-enough lines f g m n (omega arith) (omega arith))

pub code_step : CodeLaw
unfolding code_within code
code_step =
    record {
      none = λ lines at. refl;
      some = λ lines at k.
          coded_same (statement (entry lines at no_line)) at k (code_within k lines) (code lines)
          (λ m n u v. code-enough lines k n m n (omega arith) (omega arith));
    }
