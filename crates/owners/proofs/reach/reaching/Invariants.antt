use Rattle.std.proofs.Common.{◌≡◌, ℕ, ◌+◌, ◌<◌, false, length, get_or}
use Rattle.table.specs.Description.{description}
use Rattle.owners.specs.Reach.{reaches}
use Rattle.owners.proofs.reach.reaching.Given as goal

abbrev pub invariant-loop-i : goal.invariant-loop-i
invariant-loop-i l =
    (length l.marks ≡ 257)
    × ((k : ℕ) → k < l.i + 1 → get_or l.marks k false ≡ reaches (description l.loaded) l.x k)
    × ((k : ℕ) → l.i < k → get_or l.marks k false ≡ false)
