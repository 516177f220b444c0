-- What an array holds at the places that were filled, by the number of each.
use Rattle.std.proofs.Common.{◌≡◌, ℕ, zero, suc, ◌+◌, ◌<◌, ◌≤◌, List, length, get_or, Option, Some, None, refl, ap, ◌∙◌, arith}
use Rattle.std.proofs.lemmas.List.{get_or_default}
use Rattle.std.specs.Option.{MatchOption, unwrap_or}
use Rattle.table.specs.Description.{entry}

-- item n of a list that holds at each place below `count` what h says of the next number, or what h says of n
pub numbered_held : (h : ℕ → ℕ) (xs : List ℕ) (count : ℕ) → count ≤ length xs → ((k : ℕ) → k < count → get_or xs k 0 ≡ h (k + 1)) → (n : ℕ) → n ≤ count → entry xs n (h n) ≡ h n
unfolding entry
numbered_held h xs count l e zero b = refl
numbered_held h xs count l e (suc k) b =
    let q : k + 1 ≡ suc k = omega arith in
    get_or_default xs k (h (suc k)) 0 (omega arith) ∙ e k (omega arith) ∙ ap h q

-- the value of an option, or what a call gave where there is none
pub or_called : {P : Type 0} (o : Option ℕ) (r x : ℕ) → MatchOption o P (λ y. r ≡ y) → (P → r ≡ x) → unwrap_or o x ≡ x → r ≡ x
or_called None r x t f e = f t
or_called (Some y) r x t f e = t ∙ e
