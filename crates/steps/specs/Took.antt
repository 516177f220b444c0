-- Where the bits of a value stand.
use Rattle.std.specs.Prelude.{ℕ, ◌+◌, ◌≤◌}

-- so many bits at a place, which a read from p on took before the end, and the place after it: at most their end
pub record Took (p end place length after : ℕ) : Type 0 where
  pub ahead : p ≤ place
  pub kept : place ≤ after
  pub most : after ≤ place + length
  pub within : place + length ≤ end
