-- The numbers of refusals of a writing's calls, and when opening is refused.
use Rattle.std.specs.Prelude.{ℕ, cond, Some, None, Option, nat_lt}
use Rattle.table.specs.Description.{Description}
use Rattle.writing.specs.declared.refusal.WritingRefusal.{WritingRefusal}
use Rattle.writing.specs.declared.refusal.WritingRefusal.TheVariants.{TooLong, NotNext, LooksAhead, ShortBuffer, Unfinished}
use Rattle.writing.specs.Ready.{some_ahead}

-- the number that a refusal is known by
abbrev pub writing_refusal_number : WritingRefusal → ℕ
writing_refusal_number TooLong = 33
writing_refusal_number NotNext = 41
writing_refusal_number LooksAhead = 42
writing_refusal_number ShortBuffer = 44
writing_refusal_number Unfinished = 45

-- why a writing of so many bits is not opened: too many, or else a line that looks ahead
abbrev pub open_refusal : Description → (bits : ℕ) → Option WritingRefusal
open_refusal d bits = cond (nat_lt 2147483647 bits) (Some TooLong) (cond (some_ahead d.lines) (Some LooksAhead) None)
