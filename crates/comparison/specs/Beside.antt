-- What comes next of two readings side by side.
use Rattle.std.specs.Prelude.{◌≡◌, ◌<◌, Bool, List, [], ◌∷◌, Some, Ok}
use Rattle.table.specs.Description.{Description, description}
use Rattle.rules.specs.declared.items.Item.{Item}
use Rattle.rules.specs.Growth.{grown, deeper, left_of}
use Rattle.bits.specs.declared.source.Source.{Ghosts}
use Rattle.reading.specs.Walks.{Answer}
use Rattle.reading.specs.Calls.{given, Opened, NextCalled}
use Rattle.comparison.specs.declared.comparison.Comparison.{Comparison}
use Rattle.comparison.specs.declared.comparison.Seen.{Seen}
use Rattle.comparison.specs.declared.comparison.Seen.TheVariants.{Struck, Both}

module _ {O N : Type 0} {f : Ghosts O} {g : Ghosts N} (old_bits : O → List Bool) (new_bits : N → List Bool) where
  -- two readings that were just opened; nothing is struck yet
  pub record Begun (d e : Description) (old_list new_list : List Bool) (c : Comparison O N f g) : Type 0 where
    pub older : Opened old_bits d old_list c.older
    pub newer : Opened new_bits e new_list c.newer
    pub tables : description c.tables.now ≡ d
    pub depth : c.striker.depth ≡ 0
    pub has_grown : c.grown ≡ grown d e

  -- the older's tables, and whether the newer has grown, stay
  pub record Still (before after : Comparison O N f g) : Type 0 where
    pub tables : description after.tables.now ≡ description before.tables.now
    pub has_grown : after.grown ≡ before.grown

  -- the newer's item i was taken
  pub record Took (before : Comparison O N f g) (i : Item) (left : List Item) (after : Comparison O N f g) : Type 0 where
    pub newer : NextCalled new_bits before.newer (Ok (Some i)) after.newer
    pub is_left : left_of (description before.tables.now) before.striker.depth i ≡ left
    pub depth : before.striker.depth < 4294967295 → after.striker.depth ≡ deeper (description before.tables.now) before.striker.depth i

  -- one call: the newer's next item is struck; or what is left of it comes beside the older's next; or the newer has
  -- ended, and its answer comes beside the older's next
  pub data Compares (before after : Comparison O N f g) : Seen → Type 0 where
    struck : {i : Item} → Took before i [] after → after.older ≡ before.older → Compares before after (Struck i)
    both : {i left : Item} {answer : Answer} → Took before i (left ∷ []) after → NextCalled old_bits before.older answer after.older →
        Compares before after (Both answer (Ok (Some left)))
    rest : {ending answer : Answer} → given ending ≡ [] → NextCalled new_bits before.newer ending after.newer →
        after.striker.depth ≡ before.striker.depth → NextCalled old_bits before.older answer after.older →
        Compares before after (Both answer ending)
