-- What a get over two slices of bytes answers.
use Rattle.std.specs.Prelude.{ℕ, ◌+◌, ◌*◌, cond, List, ◌++◌, length, Err, Result, nat_lt}
use Rattle.bits.specs.Bits.{bits_all, longest}
use Rattle.bits.specs.Get.{get_answer}
use Rattle.bits.specs.Make.{most_bytes}
use Rattle.bits.specs.declared.refusal.Refusal.{Refusal}
use Rattle.bits.specs.declared.refusal.Refusal.TheVariants.{TooLong}

-- a get over the bits of `a` and then those of `b`, where they are not too many
abbrev pub joined_answer : List ℕ → List ℕ → ℕ → ℕ → Result ℕ Refusal
joined_answer a b p n =
    cond (nat_lt most_bytes (length a)) (Err TooLong)
    (cond (nat_lt most_bytes (length b)) (Err TooLong)
    (cond (nat_lt longest (length a * 8 + length b * 8)) (Err TooLong)
    (get_answer (bits_all 8 a ++ bits_all 8 b) p n)))
