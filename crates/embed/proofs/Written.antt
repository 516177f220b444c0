-- Putting items one after the other.
use Rattle.std.proofs.Common.{◌≡◌, ℕ, ◌+◌, ◌<◌, List, ◌∷◌, ◌++◌, length, take, drop, get_or, Ok, Err, sym, subst, ◌∙◌, ap, arith, take-append-drop, length-take-le}
use Rattle.std.proofs.lemmas.List.{take_more, drop_more}
use Rattle.writing.specs.declared.refusal.WritingRefusal.{WritingRefusal}
use Rattle.writing.specs.declared.state.Writing.{Writing}
use Rattle.writing.specs.Calls.{PutCalled}
use Rattle.embed.specs.declared.answers.FlatItem.{FlatItem}
use Rattle.embed.specs.Writing.{item_for, Took, one_more, Stopped, stopped}

module _ (first : Writing) (before : List ℕ) (ns : List FlatItem) where
  pub took_more : (count : ℕ) (v w : Writing) (buffer stored : List ℕ) (d : FlatItem) → count < length ns
      → Took first before v buffer (take count ns) → PutCalled v (item_for (get_or ns count d)) buffer (Ok tt) w stored → Took first before w stored (take (count + 1) ns)
  took_more count v w buffer stored d h t p = subst (λ (l : List FlatItem). Took first before w stored l) (sym (take_more ns count d h)) (one_more (get_or ns count d) t p)

  pub stopped_at : (count : ℕ) (v w : Writing) (buffer stored : List ℕ) (d : FlatItem) (e : WritingRefusal) → count < length ns
      → Took first before v buffer (take count ns) → PutCalled v (item_for (get_or ns count d)) buffer (Err e) w stored → Stopped first before ns count e w stored
  stopped_at count v w buffer stored d e h t p =
      let n = get_or ns count d in
      let split : ns ≡ take count ns ++ (n ∷ drop (count + 1) ns) =
      sym (take-append-drop count ns) ∙ ap (λ (l : List FlatItem). take count ns ++ l) (drop_more ns count d h) in
      subst (λ k. Stopped first before ns k e w stored) (length-take-le count ns (omega arith)) (stopped (take count ns) n (drop (count + 1) ns) split t p)
