-- The next of some lines, and what lies ahead.
use Rattle.std.proofs.Common.{◌≡◌, ℕ, zero, suc, ◌+◌, ◌≤◌, Bool, List, ◌∷◌, length, ap, subst, arith, Option, Some, None}
use Rattle.records.specs.Statements.{written}
use Rattle.records.specs.declared.statements.Statement.{Statement}
use Rattle.table.specs.Description.{Description, entry, statement_at}
use Rattle.rules.specs.Code.{Code, code}
use Rattle.rules.specs.Order.{used_by, declared_at}
use Rattle.rules.specs.Reading.{Object, Objects}
use Rattle.objects.specs.declared.frame.Frame.{Frame}
use Rattle.objects.specs.declared.frame.Frame.TheVariants.{Lines}
use Rattle.objects.specs.Upcoming.{IsNext}
use Rattle.objects.specs.Ahead.{Inner, onto, frame_run, content_run, inner_run, code_run, height, wants, Fit, Room, Readable}

module _ (d : Description) (at count : ℕ) (k : Code) (e : code d.lines at count ≡ k) where
  pub lines_run : (bits : List Bool) (o : Object) (c : Inner) (p : ℕ) (obj : Objects)
      → inner_run d bits o (onto (Lines at count) c) p obj ≡ code_run d bits o k c p obj
  unfolding content_run frame_run
  lines_run bits o c p obj = ap (λ (x : Code). code_run d bits o x c p obj) e

  pub lines_room : (fs : List Frame) → Fit d (Lines at count ∷ fs) → Room d k fs
  unfolding Fit wants
  lines_room fs f = record { high = subst (λ (x : Code). suc (length fs) + height x ≤ 20) e f.0; fit = f.2 }

pub next_is : (d : Description) (at count line after : ℕ) (s : Statement) → IsNext d.lines at count line after s → statement_at d line ≡ Some s
unfolding statement_at
next_is d at count line after s n = n.is

-- what a line writes is one of 128 names
pub line_named : (d : Description) (line : ℕ) (s : Statement) → statement_at d line ≡ Some s → Readable d → written (Some s) ≤ 128
line_named d line s e r = subst (λ (x : Option Statement). written x ≤ 128) e (r.names line)

some_is_not_none : {A : Type 0} {x : A} → None ≡ Some x → ⊥
some_is_not_none e = let z : ◌≡◌ {A = ℕ} 0 1 = cc in omega arith

-- a line that is there declares the class that it uses
pub line_declared : (d : Description) (line : ℕ) (s : Statement) → statement_at d line ≡ Some s → declared_at d line ≡ used_by (Some s)
unfolding statement_at entry
line_declared d zero s e = absurd (some_is_not_none e)
line_declared d (suc line) s e = ap used_by e
