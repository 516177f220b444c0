-- Laws of lists of bits, of `get` and of stored bits, for the layers above.
use Rattle.std.specs.Prelude.{◌≡◌, ℕ, ◌+◌, ◌*◌, ◌/◌, ◌%◌, ◌^◌, ◌<◌, ◌≤◌, Bool, true, false, List, ◌++◌, length, drop, replicate, Ok, ◌==◌}
use Rattle.bits.specs.Bits.{number, part, bits_of}
use Rattle.bits.specs.Get.{widest, get_answer}
use Rattle.bits.specs.Put.{with_bits}
use Rattle.bits.specs.Zero.{all_zero}

-- a part of a part is a part of the whole
abbrev pub PartOfPart : Type 0
PartOfPart = (l : List Bool) (first count p n : ℕ) → p + n ≤ count → part (part l first count) p n ≡ part l (first + p) n

-- a part is made of two, one after the other
abbrev pub PartSplit : Type 0
PartSplit = (l : List Bool) (p m n : ℕ) → part l p (m + n) ≡ part l p m ++ part l (p + m) n

-- the number of two lists, one after the other
abbrev pub NumberAppend : Type 0
NumberAppend = (a b : List Bool) → number (a ++ b) ≡ number a * 2 ^ length b + number b

-- a number is no longer than its bits
abbrev pub NumberBelow : Type 0
NumberBelow = (l : List Bool) → number l < 2 ^ length l

-- the number of a part, with k bits after it
abbrev pub NumberOfPart : Type 0
NumberOfPart = (l : List Bool) (p n k : ℕ) → p + n + k ≡ length l → number (part l p n) ≡ number l / 2 ^ k % 2 ^ n

-- the n lowest bits of v write v without what stands above them
abbrev pub NumberOfBits : Type 0
NumberOfBits = (n v : ℕ) → number (bits_of n v) ≡ v % 2 ^ n

-- the bits of the number that bits write are those bits
abbrev pub BitsOfNumber : Type 0
BitsOfNumber = (l : List Bool) → bits_of (length l) (number l) ≡ l

-- bits are all 0 exactly if they write 0
abbrev pub ZeroNumber : Type 0
ZeroNumber = (l : List Bool) → all_zero l ≡ (number l == 0)

-- zero bits are known by how many there are
abbrev pub ZeroBits : Type 0
ZeroBits = (l : List Bool) → all_zero l ≡ true → l ≡ replicate (length l) false

-- two lists of one length that agree from place q on answer alike from there on
abbrev pub GetAgrees : Type 0
GetAgrees = (l m : List Bool) (q p n : ℕ) → length l ≡ length m → drop q l ≡ drop q m → q ≤ p → get_answer l p n ≡ get_answer m p n

-- storing keeps the length
abbrev pub PutLength : Type 0
PutLength = (l : List Bool) (p n v : ℕ) → p + n ≤ length l → length (with_bits l p n v) ≡ length l

-- what was stored is read back
abbrev pub PutGet : Type 0
PutGet = (l : List Bool) (p n v : ℕ) → n ≤ widest → p + n ≤ length l → get_answer (with_bits l p n v) p n ≡ Ok (v % 2 ^ n)

-- what lies before is read as it was
abbrev pub PutBefore : Type 0
PutBefore = (l : List Bool) (p n v q m : ℕ) → p + n ≤ length l → q + m ≤ p → get_answer (with_bits l p n v) q m ≡ get_answer l q m

-- what lies after is read as it was
abbrev pub PutAfter : Type 0
PutAfter = (l : List Bool) (p n v q m : ℕ) → p + n ≤ length l → p + n ≤ q → get_answer (with_bits l p n v) q m ≡ get_answer l q m

-- storing what stands there changes nothing
abbrev pub PutSame : Type 0
PutSame = (l : List Bool) (p n : ℕ) → p + n ≤ length l → with_bits l p n (number (part l p n)) ≡ l

-- all of them
pub record Laws : Type 0 where
  pub part_of_part : PartOfPart
  pub part_split : PartSplit
  pub number_append : NumberAppend
  pub number_below : NumberBelow
  pub number_of_part : NumberOfPart
  pub number_of_bits : NumberOfBits
  pub bits_of_number : BitsOfNumber
  pub zero_number : ZeroNumber
  pub zero_bits : ZeroBits
  pub get_agrees : GetAgrees
  pub put_length : PutLength
  pub put_get : PutGet
  pub put_before : PutBefore
  pub put_after : PutAfter
  pub put_same : PutSame
