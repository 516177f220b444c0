use Rattle.std.proofs.Common.{◌≡◌, ℕ, ◌+◌, ◌<◌, length, get_or}
use Rattle.table.specs.Description.{description}
use Rattle.owners.specs.Lines.{class_of_line}
use Rattle.owners.proofs.lines.LineClasses.of.Given as goal

abbrev pub invariant-loop-i : goal.invariant-loop-i
invariant-loop-i l =
    (length l.classes ≡ 512) × ((k : ℕ) → k < l.i → get_or l.classes k 0 ≡ class_of_line (description l.loaded) (k + 1))
