-- What a writing comes to, whatever was called of it.
use Rattle.std.specs.Prelude.{◌≡◌, ℕ, Bool, List, Err}
use Rattle.table.specs.Description.{Description}
use Rattle.rules.specs.declared.items.Item.{Item}
use Rattle.rules.specs.Growth.{Grown}
use Rattle.rules.specs.Passed.{PassesCheck}
use Rattle.rules.specs.Reading.{reading}
use Rattle.rules.specs.Trace.{items, outcome, ended}
use Rattle.roundtrip.specs.Rule.{MayFollow, PutDown}
use Rattle.writing.specs.declared.refusal.WritingRefusal.TheVariants.{NotNext}
use Rattle.writing.specs.declared.state.Writing.{Writing}
use Rattle.writing.specs.Calls.{PutCalled}
use Rattle.writing.specs.Histories.{Wrote, Finished, left_bits}

pub record Writes (d : Description) (total : ℕ) : Type 0 where
  -- what was put was put by the rule: after the items before it, and what they appended, some bits make a reading of
  -- that length hand it out next
  pub by_rule : {w : Writing} {buffer : List ℕ} {is : List Item} {bits : List Bool} → Wrote d total w buffer is bits → PutDown d total is bits
  -- and what was refused as not next, with a buffer that is long enough, could not be put by the rule
  pub refused :
      {v w : Writing} {buffer stored : List ℕ} {is : List Item} {bits : List Bool} {i : Item} → Wrote d total v buffer is bits →
      PutCalled v i buffer (Err NotNext) w stored → MayFollow d total is bits i → ⊥
  -- the round trip: the bits left read as the items that were put, and end
  pub round_trip :
      {buffer : List ℕ} {is : List Item} → Finished d total buffer is →
      (items (reading d (left_bits d total buffer)) ≡ is) × (outcome (reading d (left_bits d total buffer)) ≡ ended)
  -- and so they do by every checked description that has grown from this one
  pub newer :
      (e : Description) → PassesCheck e → Grown d e → {buffer : List ℕ} {is : List Item} → Finished d total buffer is →
      (items (reading e (left_bits d total buffer)) ≡ is) × (outcome (reading e (left_bits d total buffer)) ≡ ended)
