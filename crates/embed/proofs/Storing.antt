-- A table that is being filled with the items of a run.
use Rattle.std.proofs.Common.{◌≡◌, ℕ, zero, suc, ◌+◌, ◌<◌, ◌≤◌, true, false, List, [], ◌∷◌, length, take, drop, set, get_or, map, refl, ap, sym, ◌∙◌, add-one, arith, length-set}
use Rattle.std.proofs.lemmas.Bool.{false≢true}
use Rattle.std.proofs.lemmas.List.{take_all, take-map}
use Rattle.rules.specs.declared.items.Item.{Item}
use Rattle.rules.specs.declared.faults.ReadingFault.{ReadingFault}
use Rattle.rules.specs.Trace.{Run, out, stop, done, items}
use Rattle.reading.specs.Reads.{skipped}
use Rattle.embed.specs.declared.answers.FaultAnswer.{FaultAnswer}
use Rattle.embed.specs.declared.answers.FlatItem.{FlatItem}
use Rattle.embed.specs.Checking.{accepted}
use Rattle.embed.specs.Folding.{fault_at, no_fault}
use Rattle.embed.specs.Numbers.{flat, fault_of}
use Rattle.embed.specs.Told.{stored_over, Stored}
use Rattle.embed.proofs.Counting.{Counting, counting_starts, counting_goes, counted_end, counted_fault, items_next}

-- one more item in the table
set_over : (n : ℕ) (is : List Item) (table : List FlatItem) (i : Item) (rest : List Item) → n < length table → drop n is ≡ i ∷ rest
    → set (stored_over (map flat (take n is)) table) n (flat i) ≡ stored_over (map flat (take (suc n) is)) table
unfolding stored_over
set_over zero [] table i rest h e = absurd (let z : ◌≡◌ {A = ℕ} 0 (suc (length rest)) = ap (λ (l : List Item). length l) e in omega arith)
set_over zero (j ∷ js) [] i rest h e = absurd (omega arith)
set_over zero (j ∷ js) (slot ∷ slots) i rest h e = ap (λ (l : List Item). flat (get_or l 0 i) ∷ slots) (sym e)
set_over (suc n) [] table i rest h e = absurd (let z : ◌≡◌ {A = ℕ} 0 (suc (length rest)) = ap (λ (l : List Item). length l) e in omega arith)
set_over (suc n) (j ∷ js) [] i rest h e = absurd (omega arith)
set_over (suc n) (j ∷ js) (slot ∷ slots) i rest h e = ap (λ (l : List FlatItem). flat j ∷ l) (set_over n js slots i rest (omega arith) e)

-- more items than slots change nothing
over_enough : (is table : List FlatItem) → stored_over (take (length table) is) table ≡ stored_over is table
unfolding stored_over
over_enough [] [] = refl
over_enough [] (slot ∷ slots) = refl
over_enough (i ∷ is) [] = refl
over_enough (i ∷ is) (slot ∷ slots) = ap (λ (l : List FlatItem). i ∷ l) (over_enough is slots)

-- after so many items of a run, the table now and what lies ahead
pub record Storing (t : Run (Unit {0})) (before : List FlatItem) (count : ℕ) (table : List FlatItem) (now : Run (Unit {0})) : Type 0 where
  pub counting : Counting t count now
  pub few : count ≤ length before
  pub long : length table ≡ length before
  pub table_is : table ≡ stored_over (map flat (take count (items t))) before

pub storing_starts : (t : Run (Unit {0})) (before : List FlatItem) → Storing t before 0 before t
unfolding stored_over
storing_starts t before = record { counting = counting_starts t; few = omega arith; long = refl; table_is = refl }

module _ (t : Run (Unit {0})) (before : List FlatItem) (count : ℕ) (table : List FlatItem) (now : Run (Unit {0})) (s : Storing t before count table now) where
  pub storing_goes : (i : Item) (then : Run (Unit {0})) → count < length before → skipped now ≡ out i then → Storing t before (count + 1) (set table count (flat i)) then
  storing_goes i then room e =
      record {
        counting = counting_goes t count now i then s.counting e;
        few = omega arith;
        long = length-set table count (flat i) ∙ s.long;
        table_is =
            ap (λ (l : List FlatItem). set l count (flat i)) s.table_is
            ∙ set_over count (items t) before i (items then) room (s.counting.rest ∙ items_next now i then e)
            ∙ ap (λ n. stored_over (map flat (take n (items t))) before) (sym (add-one count));
      }

  all_stored : count ≡ length (items t) → table ≡ stored_over (map flat (items t)) before
  all_stored h =
      let le : length (items t) ≤ count = omega arith in
      s.table_is ∙ ap (λ (l : List Item). stored_over (map flat l) before) (take_all count (items t) le)

  -- the answer where it ended after so many items
  ended_with : (fault : FaultAnswer) → count < length before → (count ≡ length (items t)) × (fault ≡ fault_at t)
      → Stored (record { check = accepted; fault = fault; items = count; full = false }) t before table
  ended_with fault room told =
      let n = told.0 in
      record {
        check_is = refl;
        table_is = all_stored told.0;
        full = λ e. absurd (false≢true e);
        ended = λ e. record { few = omega arith; items_are = told.0; fault_is = told.1 };
      }

  pub stored_end : count < length before → skipped now ≡ done tt → Stored (record { check = accepted; fault = no_fault; items = count; full = false }) t before table
  stored_end room e = ended_with no_fault room (counted_end t count now s.counting e)

  pub stored_fault : (f : ReadingFault) → count < length before → skipped now ≡ stop f
      → Stored (record { check = accepted; fault = fault_of f; items = count; full = false }) t before table
  stored_fault f room e = ended_with (fault_of f) room (counted_fault t count now f s.counting e)

  pub stored_full : length before ≤ count → Stored (record { check = accepted; fault = no_fault; items = count; full = true }) t before table
  stored_full h =
      let same : count ≡ length before = omega (arith, s.few) in
      record {
        check_is = refl;
        table_is =
            s.table_is
            ∙ ap (λ (l : List FlatItem). stored_over l before) (sym (take-map flat count (items t)) ∙ ap (λ n. take n (map flat (items t))) same)
            ∙ over_enough (map flat (items t)) before;
        full = λ e. record { enough = omega (arith, s.counting.counted); items_are = same; fault_is = refl };
        ended = λ e. absurd (false≢true (sym e));
      }
