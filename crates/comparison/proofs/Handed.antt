-- What a reading has handed out, by its history.
use Rattle.std.proofs.Common.{◌≡◌, ℕ, zero, suc, Bool, List, [], ◌∷◌, ◌++◌, length, take, drop, Some, None, Ok, Err, Option, sym, refl, ap, ◌∙◌, ap₂, append_assoc, append-nil}
use mathlib.Core.List.{append_cancel_left}
use lib.Seq.{take-append_seam}
use Rattle.table.specs.Description.{Description}
use Rattle.rules.specs.declared.items.Item.{Item}
use Rattle.rules.specs.declared.faults.ReadingFault.{ReadingFault}
use Rattle.rules.specs.Reading.{reading}
use Rattle.rules.specs.Trace.{Run, out, pass, stop, done, items, outcome, Outcome, ended, refused}
use Rattle.bits.specs.declared.source.Source.{Ghosts}
use Rattle.reading.specs.declared.state.Reading.{Reading}
use Rattle.reading.specs.Walks.{Answer}
use Rattle.reading.specs.Calls.{given}
use Rattle.reading.specs.Fills.{first_items, ahead_after}
use Rattle.reading.specs.Histories.{History, opened, next, fill, position, CalledOn, ends, stops, tells, HandsOut}
use Rattle.reading.proofs.Tellings.{told_items, told_outcome, none_left, fault_left, first_answered, end_answered}
use Rattle.reading.specs.Positions.{position_after, latest}
use Rattle.reading.specs.Reads.{ahead, last_of, description_of, bits_of_source, skipped, Told}

-- one call of `fill`
filled_items : (n : ℕ) (t : Run (Unit {0})) → items t ≡ first_items n t ++ items (ahead_after n t)
unfolding items first_items ahead_after
filled_items zero t = refl
filled_items (suc n) (out i t) = ap (λ (xs : List Item). i ∷ xs) (filled_items n t)
filled_items (suc n) (pass t) = filled_items (suc n) t
filled_items (suc n) (stop f) = refl
filled_items (suc n) (done u) = refl

filled_outcome : (n : ℕ) (t : Run (Unit {0})) → outcome t ≡ outcome (ahead_after n t)
unfolding outcome ahead_after
filled_outcome zero t = refl
filled_outcome (suc n) (out i t) = filled_outcome n t
filled_outcome (suc n) (pass t) = filled_outcome (suc n) t
filled_outcome (suc n) (stop f) = refl
filled_outcome (suc n) (done u) = refl

latest_append : (last : Option Item) (is js : List Item) → latest last (is ++ js) ≡ latest (latest last is) js
latest_append last [] js = refl
latest_append last (i ∷ is) js = latest_append (Some i) is js

module _ {S : Type 0} {g : Ghosts S} (bits : S → List Bool) (d : Description) (list : List Bool) where
  -- what lies ahead of a reading is what is left of the whole
  pub record Stands (r : Reading S g) (is : List Item) : Type 0 where
    pub description : description_of r ≡ d
    pub source : bits_of_source bits r ≡ list
    pub items_are : items (reading d list) ≡ is ++ items (ahead bits r)
    pub outcome_is : outcome (reading d list) ≡ outcome (ahead bits r)
    pub last : last_of r ≡ latest None is

  pub stands : {r : Reading S g} {is : List Item} → History bits d list r is → Stands r is
  stands (opened o) =
      record {
        description = o.description;
        source = o.source;
        items_are = sym (ap items o.ahead);
        outcome_is = sym (ap outcome o.ahead);
        last = o.last;
      }
  stands (next {r} {s} {is} {answer} h c) =
      let t = stands h in
      record {
        description = c.keeps.description ∙ t.description;
        source = c.keeps.source ∙ t.source;
        items_are =
            t.items_are ∙ ap (λ (xs : List Item). is ++ xs) (told_items (ahead bits r) answer (ahead bits s) c.told)
            ∙ sym (append_assoc is (given answer) (items (ahead bits s)));
        outcome_is = t.outcome_is ∙ told_outcome (ahead bits r) answer (ahead bits s) c.told;
        last = c.last ∙ ap (λ (o : Option Item). latest o (given answer)) t.last ∙ sym (latest_append None is (given answer));
      }
  stands (fill {r} {s} {is} {table} {filled} {count} {how} h c) =
      let t = stands h in
      let n = length table in
      let handed = first_items n (ahead bits r) in
      let same : take count filled ≡ handed =
      ap (take count) c.fills.items ∙ ap (λ k. take k (handed ++ drop count table)) c.fills.count_is ∙ take-append_seam handed (drop count table) in
      record {
        description = c.keeps.description ∙ t.description;
        source = c.keeps.source ∙ t.source;
        items_are =
            t.items_are ∙ ap (λ (xs : List Item). is ++ xs) (filled_items n (ahead bits r) ∙ ap₂ ◌++◌ (sym same) (sym (ap items c.fills.ahead)))
            ∙ sym (append_assoc is (take count filled) (items (ahead bits s)));
        outcome_is = t.outcome_is ∙ filled_outcome n (ahead bits r) ∙ sym (ap outcome c.fills.ahead);
        last =
            c.last ∙ ap₂ latest t.last (sym same) ∙ sym (latest_append None is (take count filled));
      }
  stands (position h c) = stands h

  left_over : {r : Reading S g} {is : List Item} → Stands r is → (js : List Item) → items (reading d list) ≡ is ++ js → items (ahead bits r) ≡ js
  left_over {r} {is} t js e = append_cancel_left is (items (ahead bits r)) js (sym t.items_are ∙ e)

module _ {S : Type 0} (g : Ghosts S) (bits : S → List Bool) (d : Description) (list : List Bool) where
  pub hands_out : HandsOut g bits d list
  hands_out =
      record {
        beginning = λ {r} {is} h. (items (ahead bits r), (stands bits d list h).items_are);
        whole = called;
        goes_on = λ {r} {s} {is} {answer} i left h e c. first_answered (ahead bits r) answer (ahead bits s) i left (left_over bits d list (stands bits d list h) (i ∷ left) e) c.told;
        stays = λ {r} {s} {is} {answer} h e c.
            let t = stands bits d list h in
            end_answered (ahead bits r) answer (ahead bits s) (left_over bits d list t [] (e ∙ sym (append-nil is))) c.told ∙ ap tells (sym t.outcome_is);
        position = λ {r} {is} {p} h e. let t = stands bits d list h in e ∙ (λ i. position_after (t.description i) (t.source i) (t.last i));
      }
    where
      all : {r : Reading S g} {is : List Item} → Stands bits d list r is → items (ahead bits r) ≡ [] → is ≡ items (reading d list)
      all {r} {is} t e = sym (t.items_are ∙ ap (λ (xs : List Item). is ++ xs) e ∙ append-nil is)

      called : {is : List Item} {o : Outcome} → CalledOn g bits d list is o → (is ≡ items (reading d list)) × (o ≡ outcome (reading d list))
      called (ends {r} {s} {is} h c) =
          let t = stands bits d list h in let q = none_left (ahead bits r) (ahead bits s) c.told in (all t q.0, sym (t.outcome_is ∙ q.1))
      called (stops {r} {s} {is} {f} h c) =
          let t = stands bits d list h in let q = fault_left f (ahead bits r) (ahead bits s) c.told in (all t q.0, sym (t.outcome_is ∙ q.1))
