-- How many items a reading hands out, what a fold makes of them, and how it ends, in numbers.
use Rattle.std.specs.Prelude.{◌≡◌, ℕ, ◌+◌, ◌*◌, ◌%◌, ◌^◌, ◌<◌, List, [], ◌∷◌, length, fold, bit_xor}
use Rattle.std.specs.Int.{w64, cast_unsigned, to_le_bytes}
use Rattle.rules.specs.declared.items.Item.{Item}
use Rattle.rules.specs.Numbers.{kind_number}
use Rattle.rules.specs.Trace.{Run, out, pass, stop, done, items}
use Rattle.embed.specs.declared.answers.FaultAnswer.{FaultAnswer}
use Rattle.embed.specs.Numbers.{fault_of}

-- four times 0: no fault
abbrev pub no_fault : FaultAnswer
no_fault = record { cause = 0; line = 0; node = 0; place = 0 }

-- the numbers of the fault that a run comes to, if any
unfoldable pub fault_at : Run (Unit {0}) → FaultAnswer
fault_at (out i t) = fault_at t
fault_at (pass t) = fault_at t
fault_at (stop f) = fault_of f
fault_at (done u) = no_fault

-- as many items as a counter of 64 bits counts
abbrev pub most_items : ℕ
most_items = 18446744073709551615

-- the seven numbers of an item, each of 64 bits
abbrev pub numbers : Item → List ℕ
numbers i = kind_number i.kind ∷ (i.line ∷ (i.class ∷ (i.index ∷ (cast_unsigned w64 i.value ∷ (i.place ∷ (i.length ∷ []))))))

-- a fold that takes one number after the other: with all numbers of an item, and of items
abbrev pub with_item : (ℕ → ℕ → ℕ) → ℕ → Item → ℕ
with_item step so_far i = fold step so_far (numbers i)

abbrev pub with_items : (ℕ → ℕ → ℕ) → ℕ → List Item → ℕ
with_items step so_far is = fold (with_item step) so_far is

-- the sum starts at 0, and wraps at 64 bits
abbrev pub sum_with : ℕ → ℕ → ℕ
sum_with sum n = (sum + n) % 2 ^ 64

-- the digest, FNV-1a of 64 bits: where it starts, with a byte, and with a number's eight bytes, the lowest first
abbrev pub digest_start : ℕ
digest_start = 14695981039346656037

abbrev pub digest_byte : ℕ → ℕ → ℕ
digest_byte digest byte = bit_xor digest byte * 1099511628211 % 2 ^ 64

abbrev pub digest_with : ℕ → ℕ → ℕ
digest_with digest n = fold digest_byte digest (to_le_bytes w64 n)

-- so many items were handed out, this is what a fold from `start` makes of them, and then came this
pub record Counted (step : ℕ → ℕ → ℕ) (start : ℕ) (t : Run (Unit {0})) (count folded : ℕ) (fault : FaultAnswer) : Type 0 where
  pub count_is : count ≡ length (items t)
  pub fold_is : folded ≡ with_items step start (items t)
  pub fault_is : fault ≡ fault_at t

-- a count that is full says nothing
abbrev pub Folded : (ℕ → ℕ → ℕ) → ℕ → Run (Unit {0}) → (count folded : ℕ) → FaultAnswer → Type 0
Folded step start t count folded fault = count < most_items → Counted step start t count folded fault
