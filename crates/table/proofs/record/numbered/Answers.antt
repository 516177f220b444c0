use Rattle.std.proofs.Common.{◌≡◌, ℕ, zero, suc, ◌-◌, ◌≤◌, List, get_or, sym, ap, ◌∙◌, arith}
use Rattle.table.specs.Description.{entry}
use Rattle.table.proofs.Entries.{entry_at, entry_none}
use Rattle.table.proofs.record.numbered.Goals as goal

at_none : {A : Type 0} (xs : List A) (n : ℕ) (x : A) → (1 ≤ n → ⊥) → entry xs n x ≡ x
at_none xs zero x h = entry_none xs x
at_none xs (suc n) x h = absurd (h (omega arith))

pub returns-in_err-checked_sub : goal.returns-in_err-checked_sub
returns-in_err-checked_sub g c = rw c.from_residual.ensures (λ x. at_none c.args.items.now c.args.n x c.in_err-checked_sub.ensures)

pub returns : goal.returns
returns g c = λ x.
    let i : c.in_ok-checked_sub.field-0 ≡ c.args.n - 1 = c.in_ok-checked_sub.ensures.1 in
    entry_at c.args.items.now c.args.n x c.in_ok-checked_sub.ensures.0
    ∙ ap (λ i. get_or c.args.items.now i x) (sym i)
    ∙ sym (c.get.ensures.lookup.4 (omega arith) x)
