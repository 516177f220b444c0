-- What holds of every open writing.
use Rattle.std.specs.Prelude.{◌≡◌, ℕ, ◌≤◌, Bool, false, ◌||◌, List, [], ◌∷◌, nat_lt}
use Rattle.records.specs.declared.records.Line.{Line}
use Rattle.records.specs.Statements.{statement}
use Rattle.table.specs.Description.{Description}
use Rattle.roundtrip.specs.Writing.{looks_ahead, Straight}
use Rattle.objects.specs.Ahead.{Readable}
use Rattle.reading.specs.declared.walk.Walk.{Walk}
use Rattle.reading.specs.Walks.{Sound, EnclosedWalk, from_of}

-- some line looks ahead
unfoldable pub some_ahead : List Line → Bool
some_ahead [] = false
some_ahead (l ∷ ls) = nat_lt 0 (looks_ahead (statement l)) || some_ahead ls

-- a walk of a writing by the description d, of so many bits of which some are written
pub record Ready (d : Description) (total written : ℕ) (w : Walk) : Type 0 where
  pub short : total ≤ 2147483647
  -- no line looks ahead
  pub straight : Straight d
  pub readable : Readable d
  pub sound : Sound d w
  pub enclosed : EnclosedWalk total w
  -- what is read next is what is written next
  pub place : from_of w ≡ written
