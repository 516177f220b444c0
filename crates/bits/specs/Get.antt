-- What `get` answers.
use Rattle.std.specs.Prelude.{ℕ, ◌+◌, Bool, cond, List, length, Ok, Err, Result, nat_lt}
use Rattle.bits.specs.declared.refusal.Refusal.{Refusal}
use Rattle.bits.specs.declared.refusal.Refusal.TheVariants.{TooWide, PastEnd}
use Rattle.bits.specs.Bits.{number, part}

-- as many bits as one `get` reads
abbrev pub widest : ℕ
widest = 32

-- whether n bits from place p lie within `size` bits
abbrev pub end_answer : ℕ → ℕ → ℕ → Result (Unit {0}) Refusal
end_answer size p n = cond (nat_lt size (p + n)) (Err PastEnd) (Ok tt)

-- whether one call reads or stores n bits from place p of `size` bits, or why not
abbrev pub place_answer : ℕ → ℕ → ℕ → Result (Unit {0}) Refusal
place_answer size p n = cond (nat_lt widest n) (Err TooWide) (end_answer size p n)

-- the number that the n bits from place p write, or why there is none
abbrev pub get_answer : List Bool → ℕ → ℕ → Result ℕ Refusal
get_answer l p n =
    cond (nat_lt widest n) (Err TooWide) (cond (nat_lt (length l) (p + n)) (Err PastEnd) (Ok (number (part l p n))))
