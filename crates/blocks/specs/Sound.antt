-- Stretches that are no sound blocks.
use Rattle.std.specs.Prelude.{ℕ, Bool, not, ◌||◌, length}
use Rattle.table.specs.Description.{Description, class_at, extension_at}
use Rattle.table.specs.First.{some_upto}
use Rattle.blocks.specs.Nesting.{block_sound}

abbrev pub class_unsound : Description → ℕ → Bool
class_unsound d c = not (block_sound d (class_at d c).first (class_at d c).number 0)

abbrev pub extension_unsound : Description → ℕ → Bool
extension_unsound d e = not (block_sound d (extension_at d e).first (extension_at d e).number 0)

abbrev pub some_unsound : Description → Bool
some_unsound d =
    some_upto (class_unsound d) (length d.classes) || some_upto (extension_unsound d) (length d.extensions)
