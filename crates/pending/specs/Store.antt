-- What storing a source's bits into bytes does.
use Rattle.std.specs.Prelude.{ℕ, ◌-◌, ◌*◌, Bool, ◌&&◌, List, ◌++◌, take, drop, nat_le}
use Rattle.bits.specs.Bits.{part}

-- whether the places lie in a source of so many bits and in so many bytes
abbrev pub can_store : (bits bytes from to : ℕ) → Bool
can_store bits bytes from to = nat_le from to && nat_le to bits && nat_le to (bytes * 8)

-- a list with another's bits from one place up to another, and every other bit as it was
unfoldable pub with_part : List Bool → List Bool → (from to : ℕ) → List Bool
with_part l source from to = take from l ++ (part source from (to - from) ++ drop to l)
