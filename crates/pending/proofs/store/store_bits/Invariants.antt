use Rattle.std.proofs.Common.{◌≡◌, ◌≤◌, max}
use Rattle.bits.specs.Bits.{bits_all}
use Rattle.pending.specs.Store.{with_part}
use Rattle.pending.proofs.store.store_bits.Given as goal

-- the bits up to a piece's start are stored
abbrev pub invariant-loop-start : goal.invariant-loop-start
invariant-loop-start g l = (l.start ≤ l.to) × (bits_all 8 l.buffer ≡ with_part (bits_all 8 l.initial.buffer) (g.S.Source.bits l.source) l.from (max l.from l.start))
