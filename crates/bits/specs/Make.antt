-- What the making of a source answers.
use Rattle.std.specs.Prelude.{◌≡◌, ℕ, ◌<◌, ◌≤◌, Bool, List, Result, MatchResult}
use Rattle.bits.specs.declared.refusal.Refusal.{Refusal}

-- as many bytes as a source may have
abbrev pub most_bytes : ℕ
most_bytes = 268435455

-- as many words of 32 bits as a source may have
abbrev pub most_words : ℕ
most_words = 67108863

-- where `size` is at most `limit`, a source whose bits are `wanted`; else the refusal `why`
abbrev pub Makes : {S : Type 0} → Result S Refusal → (S → List Bool) → List Bool → ℕ → ℕ → Refusal → Type 0
Makes r bits wanted size limit why = MatchResult r (λ s. (bits s ≡ wanted) × (size ≤ limit)) (λ e. (e ≡ why) × (limit < size))
