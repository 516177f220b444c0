-- A map read: the row with an index, and the steps of the read.
use Rattle.std.proofs.Common.{◌≡◌, ℕ, zero, suc, ◌+◌, Bool, true, false, cond, eqb, Option, Some, None, List, map, ℤ, Ok, Err, refl, ap, ◌∙◌, arith}
use Rattle.std.specs.List.{range_with_len, find}
use Rattle.std.specs.Option.{MatchOption, IsSomeAnd, option_map, ok_or}
use Rattle.records.specs.declared.records.Row.{Row}
use Rattle.table.specs.Description.{Description, row_at}
use Rattle.rules.specs.declared.faults.Failure.{Failure}
use Rattle.rules.specs.declared.faults.ReadingCause.TheVariants.{NoSuchIndex}
use Rattle.rules.specs.declared.steps.Window.{Window}
use Rattle.rules.specs.Checks.{Check, then, pick}
use Rattle.rules.specs.Lookups.{output, find_row}
use Rattle.rules.specs.Steps.{taken, mapped}

-- the output of a row, if there is one
pub given_output : (r : Option Row) (m : Option ℤ) (Gives : Row → ℤ → Type 0) → ((x : Row) (y : ℤ) → Gives x y → y ≡ output x)
    → MatchOption r (m ≡ None) (λ x. IsSomeAnd m (Gives x)) → m ≡ option_map output r
given_output None m Gives to h = h
given_output (Some x) None Gives to h = absurd h
given_output (Some x) (Some y) Gives to h = ap Some (to x y h)

pub option_same : {A : Type 0} (o : Option A) → option_map (λ a. a) o ≡ o
option_same None = refl
option_same (Some a) = refl

-- the first of the rows with an index, by their numbers, and its output
abbrev its_output : Option Row → Check ℤ
its_output r = ok_or (option_map output r) (record { cause = NoSuchIndex; node = 0 })

or_later : (b : Bool) (x : Row) (others : Option Row) (later : Check ℤ) → its_output others ≡ later
    → its_output (cond b (Some x) others) ≡ pick b (λ _. Ok (output x)) (λ _. later)
or_later true x others later e = refl
or_later false x others later e = e

pub row_by_number : (d : Description) (at from n index : ℕ)
    → its_output (find (λ r. eqb r.index index) (map (λ i. row_at d (at + i)) (range_with_len from n))) ≡ find_row d (at + from) n index
unfolding find_row
row_by_number d at from zero index = refl
row_by_number d at from (suc n) index =
    let next : at + (from + 1) ≡ suc (at + from) = omega arith in
    or_later (eqb (row_at d (at + from)).index index) (row_at d (at + from)) _ _
    (row_by_number d at (from + 1) n index ∙ ap (λ k. find_row d k n index) next)

module _ (bits : List Bool) (w : Window) (width : ℕ) (outputs : ℕ → Check ℤ) (p : ℕ) where
  pub mapped_no_index : (f : Failure) → Err f ≡ taken bits w width p → Err f ≡ mapped bits w width outputs p
  unfolding mapped then
  mapped_no_index f e = rw (← e)

  module _ (index : ℕ) (took : Ok index ≡ taken bits w width p) where
    pub mapped_no_row : (f : Failure) → Err f ≡ outputs index → Err f ≡ mapped bits w width outputs p
    unfolding mapped then
    mapped_no_row f e = rw (← took, ← e)

    pub mapped_got : (v : ℤ) → Ok v ≡ outputs index → Ok (record { value = v; place = p; length = width; after = p + width }) ≡ mapped bits w width outputs p
    unfolding mapped then
    mapped_got v e = rw (← took, ← e)
