use Rattle.std.proofs.Common.{◌≡◌, ◌-◌, ◌*◌, min, max}
use Rattle.bits.specs.Bits.{bits_all}
use Rattle.bits.specs.Put.{with_bits}
use Rattle.bits.proofs.put.store.Given as goal

-- what is left to store, from the byte i on, gives the whole
abbrev pub invariant-loop-i : goal.invariant-loop-i
invariant-loop-i l =
    (l.at ≡ min l.end (max l.start (l.i * 8)))
    × ((l.left ≡ l.end - l.at) × (with_bits (bits_all 8 l.bytes) l.at l.left l.value ≡ with_bits (bits_all 8 l.initial.bytes) l.p l.n l.value))
