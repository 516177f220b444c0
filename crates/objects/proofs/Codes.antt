-- The code of some lines, line by line.
use Rattle.std.proofs.Common.{Ok, Err, ◌≡◌, ℕ, zero, suc, ◌+◌, ◌-◌, ◌<◌, List, length, sym, refl, ap, ◌∙◌, add-one, arith, Option, Some, None}
use Rattle.std.specs.Option.{ok_or}
use lib.ListN.{get_or-eq_default}
use Rattle.records.specs.declared.records.Line.{Line}
use Rattle.records.specs.declared.statements.Statement.{Statement}
use Rattle.records.specs.declared.statements.UnknownLine.{UnknownLine}
use Rattle.records.specs.Statements.{statement}
use Rattle.table.specs.Description.{entry, no_line}
use Rattle.rules.specs.Code.{finish, coded, code}
use Rattle.rules.proofs.Equations.{code_step}

-- the first line, and the code of the others
pub code_line : (lines : List Line) (at k : ℕ) → code lines at (suc k) ≡ coded (statement (entry lines at no_line)) at k (code lines)
code_line lines at k = code_step.some lines at k

pub code_none : (lines : List Line) (at n : ℕ) → n ≡ 0 → code lines at n ≡ finish
code_none lines at n e = rw e (code_step.none lines at)

past : (lines : List Line) (at : ℕ) → length lines < at → entry lines at no_line ≡ no_line
unfolding entry
past lines zero h = absurd (omega arith)
past lines (suc n) h = get_or-eq_default lines no_line {n = n} (omega arith)

-- a line of no kind is passed over
pub code_unknown : (lines : List Line) (at k : ℕ) → statement (entry lines at no_line) ≡ None → code lines at (suc k) ≡ code lines (suc at) k
unfolding coded
code_unknown lines at k e = code_line lines at k ∙ ap (λ (s : Option Statement). coded s at k (code lines)) e

-- past the last line there is none
pub code-past : (lines : List Line) (at n : ℕ) → length lines < at → code lines at n ≡ finish
code-past lines at zero h = code_none lines at 0 refl
code-past lines at (suc n) h =
    code_unknown lines at n (ap statement (past lines at h)) ∙ code-past lines (suc at) n (omega arith)

-- what a line's fields are where they can be had, and where not
pub is_line : (o : Option Statement) (e : UnknownLine) (s : Statement) → Ok s ≡ ok_or o e → Some s ≡ o
is_line (Some t) e s h = grind arith
is_line None e s h = grind arith

pub is_none : (o : Option Statement) (e f : UnknownLine) → Err f ≡ ok_or o e → None ≡ o
is_none (Some t) e f h = grind arith
is_none None e f h = refl

-- the next of some lines, passed over or not
module _ (lines : List Line) (at n : ℕ) (some : 0 < n) where
  pub line_passed : None ≡ statement (entry lines at no_line) → code lines at n ≡ code lines (at + 1) (n - 1)
  line_passed e = go n some
    where
      go : (m : ℕ) → 0 < m → code lines at m ≡ code lines (at + 1) (m - 1)
      go zero h = absurd (omega arith)
      go (suc k) h = let a : suc k - 1 ≡ k = omega arith in rw (a, add-one) (code_unknown lines at k (sym e))

  pub line_next : (s : Option Statement) → s ≡ statement (entry lines at no_line) → code lines at n ≡ coded s at (n - 1) (code lines)
  line_next s e = go n some
    where
      go : (m : ℕ) → 0 < m → code lines at m ≡ coded s at (m - 1) (code lines)
      go zero h = absurd (omega arith)
      go (suc k) h = let a : suc k - 1 ≡ k = omega arith in rw (a, e) (code_line lines at k)
