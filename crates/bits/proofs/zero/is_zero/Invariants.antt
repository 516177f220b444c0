use Rattle.std.proofs.Common.{◌≡◌, ◌-◌, ◌≤◌, true}
use Rattle.bits.specs.Bits.{part}
use Rattle.bits.specs.Zero.{all_zero}
use Rattle.bits.proofs.zero.is_zero.Given as goal

-- what was read is all 0
abbrev pub invariant-loop-at : goal.invariant-loop-at
invariant-loop-at g l = (l.from ≤ l.at) × (l.at ≤ l.end) × (all_zero (part (g.S.Source.bits l.source) l.from (l.at - l.from)) ≡ true)
