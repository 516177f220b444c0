-- What was put and finished reads back.
use Rattle.std.proofs.Common.{◌≡◌, ℕ, Bool, List, [], ◌∷◌, length, map, Ok, Err, Result, sym, ap, subst, ◌∙◌, arith}
use Rattle.std.proofs.lemmas.List.{map-append}
use Rattle.table.specs.Description.{Description}
use Rattle.checked.specs.declared.checked.Checked.{Checked}
use Rattle.rules.specs.declared.items.Item.{Item}
use Rattle.rules.specs.Reading.{reading}
use Rattle.rules.specs.Trace as trace
use Rattle.writing.specs.declared.finish.Unfinished.{Unfinished}
use Rattle.writing.specs.declared.refusal.WritingRefusal.{WritingRefusal}
use Rattle.writing.specs.declared.refusal.WritingRefusal.TheVariants.{TooLong, NotNext, LooksAhead, ShortBuffer, Unfinished as NotFinished}
use Rattle.writing.specs.declared.state.Duty.{Duty}
use Rattle.writing.specs.declared.state.Writing.{Writing}
use Rattle.writing.specs.Calls.{Opened, FinishCalled}
use Rattle.writing.specs.Histories.{Wrote, opened, put, finished, left_bits}
use Rattle.writing.specs.Laws.{Writes}
use Rattle.writing.specs.Refusals.{writing_refusal_number}
use Rattle.embed.specs.declared.answers.FlatItem.{FlatItem}
use Rattle.embed.specs.declared.write.WriteAnswer.{WriteAnswer}
use Rattle.embed.specs.Writing.{item_for, Took, none, one_more, finish_number, Ended, ReadsBack}

-- no refusal has the number 0
numbered : (e : WritingRefusal) → writing_refusal_number e ≡ 0 → ⊥
numbered TooLong h = omega arith
numbered NotNext h = omega arith
numbered LooksAhead h = omega arith
numbered ShortBuffer h = omega arith
numbered NotFinished h = omega arith

module _ (d : Description) (total : ℕ) (first : Writing) (before : List ℕ) (begun : Opened d total first) where
  -- puts, one after the other, are a history of a writing
  history : {w : Writing} {buffer : List ℕ} {ns : List FlatItem} → Took first before w buffer ns → (bits : List Bool) × Wrote d total w buffer (map item_for ns) bits
  history none = ([], opened begun)
  history (one_more {v} {w} {buffer} {stored} {ns} n t p) =
      let h = history t in
      subst (λ (is : List Item). (bits : List Bool) × Wrote d total w stored is bits) (sym (map-append item_for ns (n ∷ []))) (_, put (item_for n) h.1 p)

  module _ (law : Writes d total) (w : Writing) (buffer : List ℕ) (ns : List FlatItem) (t : Took first before w buffer ns) (duty : Duty) (after : List ℕ) where
    finished_reads : (r : Result Checked Unfinished) → FinishCalled w duty buffer r after → finish_number r ≡ 0
        → (trace.items (reading d (left_bits d total after)) ≡ map item_for ns) × (trace.outcome (reading d (left_bits d total after)) ≡ trace.ended)
    finished_reads (Ok c) f z = law.round_trip (finished duty c (history t).1 f)
    finished_reads (Err u) f z = absurd (numbered u.refusal z)

    pub reads_back : (a : WriteAnswer) → Ended w duty (length ns) buffer a after → ReadsBack ns total before a after d
    reads_back a e z = finished_reads e.0 e.1 (sym (ap (λ (x : WriteAnswer). x.refusal) e.2) ∙ z)
