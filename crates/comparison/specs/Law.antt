-- The law of older and newer: how two readings of the same bits compare, one by an older description and one by a newer
-- that has grown from it, whatever was called of each.
use Rattle.std.specs.Prelude.{◌≡◌, ℕ, Bool, true, false, ◌⊎◌, List}
use Rattle.table.specs.Description.{Description}
use Rattle.rules.specs.declared.items.Item.{Item}
use Rattle.rules.specs.Growth.{Begins, Shorter, struck, lacked}
use Rattle.rules.specs.Trace.{Outcome, ended}
use Rattle.bits.specs.declared.source.Source.{Ghosts}
use Rattle.reading.specs.declared.state.Reading.{Reading}
use Rattle.reading.specs.Histories.{History, CalledOn}
use Rattle.writing.specs.Histories.{Finished, left_bits}

module _ {S T : Type 0} (f : Ghosts S) (g : Ghosts T) (old_bits : S → List Bool) (new_bits : T → List Bool) (older newer : Description) where
  pub record OlderAndNewer : Type 0 where
    -- of what the newer has handed out, struck, and what the older has handed out, one is a beginning of the other
    pub parts :
        {list : List Bool} {r : Reading S f} {s : Reading T g} {old new : List Item} → History old_bits older list r old → History new_bits newer list s new →
        Begins (struck older new) old ⊎ Begins old (struck older new)
    -- called on, both end or both meet the same fault, and the struck list is the older's;
    pub agree :
        {list : List Bool} {old new : List Item} {o n : Outcome} → CalledOn f old_bits older list old o → CalledOn g new_bits newer list new n →
        lacked older 0 new n ≡ false → (n ≡ o) × (struck older new ≡ old)
    -- unless the newer's fault lies inside what the older lacks: then the struck list is a strictly shorter beginning
    -- of the older's
    pub short :
        {list : List Bool} {old new : List Item} {o n : Outcome} → CalledOn f old_bits older list old o → CalledOn g new_bits newer list new n →
        lacked older 0 new n ≡ true → Shorter (struck older new) old
    -- over the bits that a writing by the older leaves, whatever was put and finished, the newer, called on, has handed
    -- out just the items that were put, in order, and ends
    pub written :
        {total : ℕ} {buffer : List ℕ} {put new : List Item} {n : Outcome} → Finished older total buffer put →
        CalledOn g new_bits newer (left_bits older total buffer) new n → (new ≡ put) × (n ≡ ended)
