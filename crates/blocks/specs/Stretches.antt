-- Each line in one stretch of a class or extension, and its blocks inside what holds it; blocks and nodes at most 8
-- deep.
use Rattle.std.specs.Prelude.{ℕ, ◌+◌, Bool, not, ◌&&◌, ◌||◌, length, ◌==◌, nat_le, nat_lt}
use Rattle.table.specs.Description.{Description, class_at, extension_at, statement_at}
use Rattle.table.specs.First.{some_upto, count_upto}
use Rattle.records.specs.Stretches.{in_stretch}
use Rattle.records.specs.declared.stretches.Stretch.{Stretch}
use Rattle.blocks.specs.Nesting.{has_blocks, in_first, in_second, taken, deeper}

-- a stretch of a class or extension passes
abbrev pub some_stretch : Description → (passes : Stretch → Bool) → Bool
some_stretch d passes =
    some_upto (λ c. passes (record { first = (class_at d c).first; number = (class_at d c).number })) (length d.classes)
    || some_upto (λ e. passes (record { first = (extension_at d e).first; number = (extension_at d e).number })) (length d.extensions)

-- whether line n is in the stretch of class c, or of extension e
abbrev pub in_class : Description → (n c : ℕ) → Bool
in_class d n c = in_stretch (class_at d c).first (class_at d c).number n

abbrev pub in_extension : Description → (n e : ℕ) → Bool
in_extension d n e = in_stretch (extension_at d e).first (extension_at d e).number n

-- line n is in exactly one stretch of a class or extension
abbrev pub in_one : Description → ℕ → Bool
in_one d n = count_upto (in_class d n) (length d.classes) + count_upto (in_extension d n) (length d.extensions) == 1

-- the `count` lines from `start` on hold line n, and end before `end`
abbrev pub ends_before : (start count n end : ℕ) → Bool
ends_before start count n end = in_stretch start count n && nat_lt (start + count) end

-- line m of a stretch has a block that holds line n, and ends before `end`
abbrev pub past_block : Description → (first number n end m : ℕ) → Bool
past_block d first number n end m =
    in_stretch first number m
    && (ends_before (m + 1) (in_first (statement_at d m)) n end
    || ends_before (m + 1 + in_first (statement_at d m)) (in_second (statement_at d m)) n end)

-- line n is in a stretch that ends before line n's blocks do, or in a block of one of its lines that does
abbrev pub past_in : Description → (first number n : ℕ) → Bool
past_in d first number n =
    in_stretch first number n
    && (nat_lt (first + number) (n + taken (statement_at d n))
    || some_upto (past_block d first number n (n + taken (statement_at d n))) (length d.lines))

abbrev pub past_in_class : Description → (n c : ℕ) → Bool
past_in_class d n c = past_in d (class_at d c).first (class_at d c).number n

abbrev pub past_in_extension : Description → (n e : ℕ) → Bool
past_in_extension d n e = past_in d (extension_at d e).first (extension_at d e).number n

-- line n has a block past what holds the line
abbrev pub past : Description → ℕ → Bool
past d n = some_upto (past_in_class d n) (length d.classes) || some_upto (past_in_extension d n) (length d.extensions)

-- line n is not in exactly one stretch, or has a block past what holds it
abbrev pub line_stretch : Description → ℕ → Bool
line_stretch d n = not (in_one d n) || past d n

-- line m of a stretch has a block that holds line n
abbrev pub holds : Description → (first number n m : ℕ) → Bool
holds d first number n m =
    in_stretch first number m && in_stretch (m + 1) (in_first (statement_at d m) + in_second (statement_at d m)) n

-- line n is in a stretch, and in blocks of at least eight of its lines
abbrev pub deep_in : Description → (first number n : ℕ) → Bool
deep_in d first number n = in_stretch first number n && nat_le 8 (count_upto (holds d first number n) (length d.lines))

abbrev pub deep_in_class : Description → (n c : ℕ) → Bool
deep_in_class d n c = deep_in d (class_at d c).first (class_at d c).number n

abbrev pub deep_in_extension : Description → (n e : ℕ) → Bool
deep_in_extension d n e = deep_in d (extension_at d e).first (extension_at d e).number n

-- an if or while line inside at least eight blocks
abbrev pub line_depth : Description → ℕ → Bool
line_depth d n =
    has_blocks (statement_at d n)
    && (some_upto (deep_in_class d n) (length d.classes) || some_upto (deep_in_extension d n) (length d.extensions))

abbrev pub node_depth : Description → ℕ → Bool
node_depth d n = deeper 8 d n
