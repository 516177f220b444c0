-- Counting the items of a run.
use Rattle.std.proofs.Common.{◌≡◌, ℕ, suc, ◌+◌, List, [], ◌∷◌, length, drop, refl, ap, sym, ◌∙◌, arith}
use Rattle.std.proofs.lemmas.List.{drop-drop}
use Rattle.rules.specs.declared.items.Item.{Item}
use Rattle.rules.specs.declared.faults.ReadingFault.{ReadingFault}
use Rattle.rules.specs.Trace.{Run, out, pass, stop, done, items}
use Rattle.reading.specs.Reads.{skipped}
use Rattle.embed.specs.Numbers.{fault_of}
use Rattle.embed.specs.Folding.{fault_at, no_fault, with_item, with_items, Counted}

pub skipped_items : (t : Run (Unit {0})) → items t ≡ items (skipped t)
unfolding skipped items
skipped_items (out i t) = refl
skipped_items (pass t) = skipped_items t
skipped_items (stop f) = refl
skipped_items (done u) = refl

skipped_fault : (t : Run (Unit {0})) → fault_at t ≡ fault_at (skipped t)
unfolding skipped fault_at
skipped_fault (out i t) = refl
skipped_fault (pass t) = skipped_fault t
skipped_fault (stop f) = refl
skipped_fault (done u) = refl

-- what lies ahead hands out this item next, or comes to its end or its fault
pub items_next : (now : Run (Unit {0})) (i : Item) (then : Run (Unit {0})) → skipped now ≡ out i then → items now ≡ i ∷ items then
unfolding items
items_next now i then e = skipped_items now ∙ ap items e

pub items_end : (now : Run (Unit {0})) → skipped now ≡ done tt → items now ≡ []
unfolding items
items_end now e = skipped_items now ∙ ap items e

pub items_fault : (now : Run (Unit {0})) (f : ReadingFault) → skipped now ≡ stop f → items now ≡ []
unfolding items
items_fault now f e = skipped_items now ∙ ap items e

-- after so many items of a run, what lies ahead
pub record Counting (t : Run (Unit {0})) (count : ℕ) (now : Run (Unit {0})) : Type 0 where
  pub counted : length (items t) ≡ count + length (items now)
  pub rest : drop count (items t) ≡ items now
  pub fault : fault_at t ≡ fault_at now

pub counting_starts : (t : Run (Unit {0})) → Counting t 0 t
counting_starts t = record { counted = omega arith; rest = refl; fault = refl }

pub counting_goes : (t : Run (Unit {0})) (count : ℕ) (now : Run (Unit {0})) (i : Item) (then : Run (Unit {0}))
    → Counting t count now → skipped now ≡ out i then → Counting t (count + 1) then
unfolding fault_at
counting_goes t count now i then c e =
    let next = items_next now i then e in
    let more : length (items now) ≡ suc (length (items then)) = ap (λ (l : List Item). length l) next in
    record {
      counted = omega (arith, c.counted, more);
      rest = sym (drop-drop 1 count (items t)) ∙ ap (drop 1) (c.rest ∙ next);
      fault = c.fault ∙ skipped_fault now ∙ ap fault_at e;
    }

-- where nothing is left, all items were counted
all_counted : (t : Run (Unit {0})) (count : ℕ) (now : Run (Unit {0})) → Counting t count now → items now ≡ [] → count ≡ length (items t)
all_counted t count now c e =
    let none : length (items now) ≡ 0 = ap (λ (l : List Item). length l) e in
    omega (arith, c.counted, none)

pub counted_end : (t : Run (Unit {0})) (count : ℕ) (now : Run (Unit {0}))
    → Counting t count now → skipped now ≡ done tt → (count ≡ length (items t)) × (no_fault ≡ fault_at t)
unfolding fault_at
counted_end t count now c e = (all_counted t count now c (items_end now e), sym (c.fault ∙ skipped_fault now ∙ ap fault_at e))

pub counted_fault : (t : Run (Unit {0})) (count : ℕ) (now : Run (Unit {0})) (f : ReadingFault)
    → Counting t count now → skipped now ≡ stop f → (count ≡ length (items t)) × (fault_of f ≡ fault_at t)
unfolding fault_at
counted_fault t count now f c e = (all_counted t count now c (items_fault now f e), sym (c.fault ∙ skipped_fault now ∙ ap fault_at e))

-- what a fold so far makes of the items ahead is what it makes of all from its start
module _ (step : ℕ → ℕ → ℕ) (start : ℕ) (t : Run (Unit {0})) where
  pub record Taking (count so_far : ℕ) (now : Run (Unit {0})) : Type 0 where
    pub counting : Counting t count now
    pub same : with_items step so_far (items now) ≡ with_items step start (items t)

  pub taking_starts : Taking 0 start t
  taking_starts = record { counting = counting_starts t; same = refl }

  module _ (count so_far : ℕ) (now : Run (Unit {0})) (k : Taking count so_far now) where
    pub taking_goes : (i : Item) (then : Run (Unit {0})) (after : ℕ) → skipped now ≡ out i then → after ≡ with_item step so_far i → Taking (count + 1) after then
    taking_goes i then after e a =
        record {
          counting = counting_goes t count now i then k.counting e;
          same = ap (λ n. with_items step n (items then)) a ∙ ap (with_items step so_far) (sym (items_next now i then e)) ∙ k.same;
        }

    none_left : items now ≡ [] → so_far ≡ with_items step start (items t)
    none_left e = sym (ap (with_items step so_far) e) ∙ k.same

    pub taken_end : skipped now ≡ done tt → Counted step start t count so_far no_fault
    taken_end e =
        let told = counted_end t count now k.counting e in
        record { count_is = told.0; fold_is = none_left (items_end now e); fault_is = told.1 }

    pub taken_fault : (f : ReadingFault) → skipped now ≡ stop f → Counted step start t count so_far (fault_of f)
    taken_fault f e =
        let told = counted_fault t count now f k.counting e in
        record { count_is = told.0; fold_is = none_left (items_fault now f e); fault_is = told.1 }
