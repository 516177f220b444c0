-- What a streaming reading has handed out, by its history.
use Rattle.std.proofs.Common.{◌≡◌, ◌*◌, Bool, List, [], ◌++◌, sym, ap, ◌∙◌, append_assoc, append-nil}
use mathlib.Core.List.{append_cancel_left}
use Rattle.table.specs.Description.{Description}
use Rattle.rules.specs.declared.items.Item.{Item}
use Rattle.rules.specs.Reading.{reading}
use Rattle.rules.specs.Trace.{items, outcome, Outcome}
use Rattle.reading.specs.Calls.{given}
use Rattle.reading.specs.Histories.{tells}
use Rattle.reading.proofs.Tellings.{skip_items, skip_outcome, told_items, told_outcome, none_left, fault_left, end_answered}
use Rattle.streaming.specs.declared.state.Streaming.{Streaming}
use Rattle.streaming.specs.Calls.{ahead, MayHave, Keeps}
use Rattle.streaming.specs.Histories.{History, opened, next, waited, CalledOn, ends, stops, HandsOut}

module _ (d : Description) (list : List Bool) where
  -- what lies ahead of a reading is what is left of the whole
  record Stands (s : Streaming) (is : List Item) : Type 0 where
    pub has : MayHave s list
    pub items_are : items (reading d list) ≡ is ++ items (ahead list s)
    pub outcome_is : outcome (reading d list) ≡ outcome (ahead list s)

  kept : {s t : Streaming} → Keeps s t → MayHave s list → MayHave t list
  kept k h = h ∙ ap (λ n. 8 * n) (sym k.total)

  stands : {s : Streaming} {is : List Item} → History d list s is → Stands s is
  stands (opened o l) =
      record {
        has = l ∙ ap (λ n. 8 * n) (sym o.total);
        items_are = sym (ap items (o.ahead list));
        outcome_is = sym (ap outcome (o.ahead list));
      }
  stands (next {s} {t} {is} {first} {bytes} {answer} h b c) =
      let v = stands h in
      let told = c.comes list v.has b in
      record {
        has = kept c.keeps v.has;
        items_are = v.items_are ∙ ap (λ (xs : List Item). is ++ xs) (told_items (ahead list s) answer (ahead list t) told) ∙ sym (append_assoc is (given answer) (items (ahead list t)));
        outcome_is = v.outcome_is ∙ told_outcome (ahead list s) answer (ahead list t) told;
      }
  stands (waited {s} {t} {is} h b c) =
      let v = stands h in
      let same = c.comes list v.has b in
      record {
        has = kept c.keeps v.has;
        items_are = v.items_are ∙ ap (λ (xs : List Item). is ++ xs) (skip_items (ahead list s) ∙ ap items same ∙ sym (skip_items (ahead list t)));
        outcome_is = v.outcome_is ∙ skip_outcome (ahead list s) ∙ ap outcome same ∙ sym (skip_outcome (ahead list t));
      }

  all : {s : Streaming} {is : List Item} → Stands s is → items (ahead list s) ≡ [] → is ≡ items (reading d list)
  all {s} {is} v e = sym (v.items_are ∙ ap (λ (xs : List Item). is ++ xs) e ∙ append-nil is)

  called : {is : List Item} {o : Outcome} → CalledOn d list is o → (is ≡ items (reading d list)) × (o ≡ outcome (reading d list))
  called (ends {s} {t} h b c) =
      let v = stands h in
      let q = none_left (ahead list s) (ahead list t) (c.comes list v.has b) in
      (all v q.0, sym (v.outcome_is ∙ q.1))
  called (stops {s} {t} {is} {first} {bytes} {f} h b c) =
      let v = stands h in
      let q = fault_left f (ahead list s) (ahead list t) (c.comes list v.has b) in
      (all v q.0, sym (v.outcome_is ∙ q.1))

  pub hands_out : HandsOut d list
  hands_out =
      record {
        beginning = λ {s} {is} h. (items (ahead list s), (stands h).items_are);
        whole = called;
        stays = λ {s} {t} {is} {first} {bytes} {answer} h e b c.
            let v = stands h in
            let none = append_cancel_left is (items (ahead list s)) [] (sym v.items_are ∙ e ∙ sym (append-nil is)) in
            end_answered (ahead list s) answer (ahead list t) none (c.comes list v.has b) ∙ ap tells (sym v.outcome_is);
      }
