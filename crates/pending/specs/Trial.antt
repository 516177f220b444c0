-- The bits of a trial.
use Rattle.std.specs.Prelude.{ℕ, Bool, false, List, ◌++◌, take, replicate}
use Rattle.bits.specs.Bits.{bits_of}

-- so many bits that are all 0, but for the w lowest bits of v at a place
unfoldable pub trial_bits : (length place w v : ℕ) → List Bool
trial_bits length place w v = take length (replicate place false ++ (bits_of w v ++ replicate length false))
