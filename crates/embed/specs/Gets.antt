-- What many gets of a source come to.
use Rattle.std.specs.Prelude.{ℕ, zero, suc, ◌+◌, ◌%◌, Bool, List, Some, None, Ok, Err, Option, Result, bit_xor}
use Rattle.bits.specs.Get.{get_answer}
use Rattle.bits.specs.declared.refusal.Refusal.{Refusal}

-- a number with one more taken in, by exclusive or; a refused get changes nothing
abbrev pub taken : ℕ → Result ℕ Refusal → ℕ
taken all (Ok value) = bit_xor all value
taken all (Err e) = all

-- a round's gets at the places below n, each of 1 to 32 bits, taken into what was before
unfoldable pub places_swept : List Bool → (round before : ℕ) → ℕ → ℕ
places_swept bits round before zero = before
places_swept bits round before (suc n) = taken (places_swept bits round before n) (get_answer bits n (1 + bit_xor n round % 32))

-- the rounds below n, each of 8000 gets
unfoldable pub rounds_swept : List Bool → ℕ → ℕ
rounds_swept bits zero = 0
rounds_swept bits (suc n) = places_swept bits n (rounds_swept bits n) 8000

-- by what the source is
abbrev pub swept_of : {S : Type 0} → (S → List Bool) → Result S Refusal → ℕ → ℕ
swept_of bits (Ok s) rounds = rounds_swept (bits s) rounds
swept_of bits (Err e) rounds = 0

-- by the source's bits, or why there is none
abbrev pub swept : List Bool → Option Refusal → ℕ → ℕ
swept bits None rounds = rounds_swept bits rounds
swept bits (Some e) rounds = 0
