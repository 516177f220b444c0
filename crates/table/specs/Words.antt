-- Numbers of 16 bits in a file, most significant byte first, and the records that they make.
use Rattle.std.specs.Prelude.{ℕ, ◌+◌, ◌*◌, List, map, slice_index}
use Rattle.std.specs.List.{range_with_len}

-- the number at `at`
abbrev pub word_at : List ℕ → ℕ → ℕ
word_at bytes at = slice_index bytes at * 256 + slice_index bytes (at + 1)

-- the n numbers from `at` on
abbrev pub words_at : List ℕ → ℕ → ℕ → List ℕ
words_at bytes at n = map (λ j. word_at bytes (at + 2 * j)) (range_with_len 0 n)

-- the `count` records from `at` on, of w numbers each
abbrev pub records_at : {R : Type 0} → (List ℕ → R) → ℕ → List ℕ → ℕ → ℕ → List R
records_at decoded w bytes at count = map (λ i. decoded (words_at bytes (at + i * (2 * w)) w)) (range_with_len 0 count)
