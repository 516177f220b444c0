-- Pieces of a stream.
use Rattle.std.specs.Prelude.{◌≡◌, ℕ, ◌+◌, ◌-◌, ◌*◌, ◌<◌, ◌≤◌, Bool, false, List, ◌++◌, length, replicate, slice_index_or}
use Rattle.std.proofs.Common.{arith}
use Rattle.std.proofs.lemmas.List.{length-append}
use lib.ListN.{length-replicate}
use Rattle.bits.specs.Bits.{bits_all, longest, length-bits_all}
use Rattle.bits.specs.Make.{most_bytes}

-- a list of bits has these bytes from byte `first` on, as far as it reaches
abbrev pub Holds : List Bool → (first : ℕ) → (bytes : List ℕ) → Type 0
Holds B first bytes =
    (k : ℕ) → k < length bytes * 8 → 8 * first + k < length B → slice_index_or B (8 * first + k) false ≡ slice_index_or (bits_all 8 bytes) k false

-- the bits of a stream of so many bytes that has these from byte `first` on, and 0 elsewhere
unfoldable pub page_bits : (total first : ℕ) → (bytes : List ℕ) → List Bool
page_bits total first bytes = replicate (8 * first) false ++ (bits_all 8 bytes ++ replicate (8 * (total - first - length bytes)) false)

pub zeros_short : (n : ℕ) → n ≤ longest → length (replicate n false) ≤ longest
zeros_short n h = rw length-replicate h

pub page_long : (total first : ℕ) (bytes : List ℕ) → first + length bytes ≤ total → length (page_bits total first bytes) ≡ 8 * total
unfolding page_bits
page_long total first bytes h = simp (length-append, length-replicate, length-bits_all) (omega arith)

pub page_short : (total first : ℕ) (bytes : List ℕ) → first + length bytes ≤ total → total ≤ most_bytes → length (page_bits total first bytes) ≤ longest
page_short total first bytes h few = let l = page_long total first bytes h in omega arith
