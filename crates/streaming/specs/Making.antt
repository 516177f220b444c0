-- What making a page answers.
use Rattle.std.specs.Prelude.{◌≡◌, ℕ, ◌+◌, ◌<◌, List, length, Option, Some, None}
use Rattle.streaming.specs.declared.page.Page.{Page}

-- the page of these bytes, if they lie in the stream
abbrev pub Pages : (total first : ℕ) → (bytes : List ℕ) → Option Page → Type 0
Pages total first bytes (Some p) = (p.total ≡ total) × (p.first ≡ first) × (p.bytes.now ≡ bytes)
Pages total first bytes None = total < first + length bytes
