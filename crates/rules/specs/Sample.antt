-- The sample and the edge cases of the rules, each with what it must come to.
use Rattle.std.specs.Prelude.{◌≡◌, ℕ, ◌/◌, ◌%◌, Bool, false, List, [], ◌∷◌, ◌++◌, map, length, replicate, ℤ, pos, negsuc, Ok, Err}
use Rattle.records.specs.declared.records.Line.{Line}
use Rattle.records.specs.declared.records.Node.{Node}
use Rattle.rules.specs.declared.items.Item.{Item}
use Rattle.rules.specs.declared.items.Kind.{Kind}
use Rattle.rules.specs.declared.items.Kind.TheVariants.{Value, Open, Close}
use Rattle.rules.specs.declared.faults.ReadingCause.TheVariants.{SourceEnds, ObjectEnds, Size, PastWindow, TooFew, OutOfRange, ZeroDivisor}
use Rattle.rules.specs.declared.terms.Operator.{Operator}
use Rattle.rules.specs.declared.terms.Operator.TheVariants.{Divide, Remainder, Subtract, ShiftLeft, And}
use Rattle.rules.specs.Numbers.{operator_number}
use Rattle.rules.specs.Trace.{Outcome, ended, refused, items, outcome}
use Rattle.rules.specs.Checks.{Check, fault}
use Rattle.bits.specs.Bits.{bits_all}
use Rattle.table.specs.Description.{Description}
use Rattle.rules.specs.Values.{value}
use Rattle.rules.specs.Steps.{size_bytes}
use Rattle.rules.specs.Reading.{all_zero, reading}

-- the bits of bytes, the highest of each first
abbrev pub bits_of_bytes : List ℕ → List Bool
bits_of_bytes bytes = bits_all 8 bytes

abbrev pub const : ℕ → Node
const n = record { op = 1; a = n / 65536; b = n % 65536 }

abbrev pub operator : Operator → (a b : ℕ) → Node
operator o a b = record { op = operator_number o; a = a; b = b }

abbrev pub read_line : (kind width : ℕ) → Line
read_line kind width = record { kind = kind; a = width; b = 0; c = 0; d = 0; e = 0; f = 0; g = 0 }

-- class 1 is plain and the top, with an unsigned 8 and 1 to 255 objects of class 2, an abstract base of a greatest size
-- with the member 3, of id 1, an unsigned 3 and a signed 5
abbrev pub sample : (greatest : ℕ) → Description
sample greatest =
    record {
      top = 1;
      classes =
          record { kind = 0; base = 0; abstracted = 0; greatest = 0; width = 0; from = 0; to = 0; rank = 2; first = 1; number = 2 } ∷
          record { kind = 1; base = 0; abstracted = 1; greatest = greatest; width = 8; from = 0; to = 0; rank = 1; first = 0; number = 0 } ∷
          record { kind = 2; base = 2; abstracted = 0; greatest = 0; width = 0; from = 1; to = 1; rank = 1; first = 3; number = 2 } ∷ [];
      names = [];
      extensions = [];
      lines =
          read_line 1 1 ∷
          record { kind = 5; a = 2; b = 0; c = 1; d = 255; e = 0; f = 0; g = 0 } ∷
          read_line 1 2 ∷ read_line 2 3 ∷ [];
      nodes = const 8 ∷ const 3 ∷ const 5 ∷ [];
      maps = [];
      rows = [];
    }

-- what is asked of the rules, and what they answer
pub data Answer : Type 0 where
  reads : List Item → Outcome → Answer
  ends : Outcome → Answer
  opens : List Item → Answer
  values : Check ℤ → Answer
  sizes : Check (ℕ × ℕ) → Answer

pub record Case : Type 0 where
  pub asked : Answer
  pub answered : Answer

abbrev pub all_of : (greatest : ℕ) → List ℕ → Answer
all_of greatest bytes = let r = reading (sample greatest) (bits_of_bytes bytes) in reads (items r) (outcome r)

abbrev pub end_of : (greatest : ℕ) → List ℕ → Answer
end_of greatest bytes = ends (outcome (reading (sample greatest) (bits_of_bytes bytes)))

abbrev pub third : List Item → List Item
third [] = []
third (a ∷ []) = []
third (a ∷ b ∷ []) = []
third (a ∷ b ∷ c ∷ is) = c ∷ []

abbrev pub third_of : (greatest : ℕ) → List ℕ → Answer
third_of greatest bytes = opens (third (items (reading (sample greatest) (bits_of_bytes bytes))))

abbrev pub last_of : List Node → Answer
last_of nodes =
    values (value nodes 0 all_zero (length nodes))

abbrev pub item : Kind → (line class index : ℕ) → ℤ → (place length : ℕ) → Item
item kind line class index v place length =
    record { kind = kind; line = line; class = class; index = index; value = v; place = place; length = length }

-- 0 - 7 and 2
abbrev pub minus_seven_and_two : List Node
minus_seven_and_two = const 0 ∷ const 7 ∷ operator Subtract 1 2 ∷ const 2 ∷ []

abbrev pub cases : List Case
cases =
    record {
      asked = all_of 120 (0x07 ∷ 0x01 ∷ 0x01 ∷ 0xA3 ∷ 0x09 ∷ 0x02 ∷ 0xFF ∷ 0xFF ∷ []);
      answered =
          reads
          (item Open 0 1 0 (pos 0) 0 0 ∷
          item Value 1 1 0 (pos 7) 0 8 ∷
          item Open 2 3 0 (pos 1) 8 1 ∷
          item Value 3 3 0 (pos 5) 24 3 ∷
          item Value 4 3 0 (pos 3) 27 5 ∷
          item Close 2 3 0 (pos 0) 32 0 ∷
          item Open 2 0 1 (pos 9) 32 2 ∷
          item Close 2 0 1 (pos 0) 64 0 ∷
          item Close 0 1 0 (pos 0) 64 0 ∷ [])
          ended;
    } ∷
    record { asked = end_of 120 (0x07 ∷ []); answered = ends (refused (fault TooFew 2 0 8)) } ∷
    record { asked = all_of 120 []; answered = reads (item Open 0 1 0 (pos 0) 0 0 ∷ []) (refused (fault SourceEnds 1 0 0)) } ∷
    record { asked = end_of 120 (0x07 ∷ 0x01 ∷ 0x00 ∷ []); answered = ends (refused (fault ObjectEnds 3 0 24)) } ∷
    record { asked = end_of 120 (0x07 ∷ 0x01 ∷ 0x79 ∷ []); answered = ends (refused (fault Size 2 0 8)) } ∷
    record { asked = end_of 120 (0x07 ∷ 0x01 ∷ 0x02 ∷ 0xA3 ∷ []); answered = ends (refused (fault PastWindow 2 0 8)) } ∷
    record { asked = third_of 1000 (0x07 ∷ 0x01 ∷ 0x81 ∷ 0x00 ∷ replicate 128 0xA3); answered = opens (item Open 2 3 0 (pos 1) 8 128 ∷ []) } ∷
    record { asked = third_of 120 (0x07 ∷ 0x01 ∷ 0x80 ∷ 0x05 ∷ replicate 5 0xA3); answered = opens (item Open 2 3 0 (pos 1) 8 5 ∷ []) } ∷
    record { asked = sizes (size_bytes (bits_of_bytes (0x81 ∷ 0x00 ∷ [])) (record { end = 16; object = false }) 4 0 0); answered = sizes (Ok (128, 16)) } ∷
    record { asked = sizes (size_bytes (bits_of_bytes (0x80 ∷ 0x05 ∷ [])) (record { end = 16; object = false }) 4 0 0); answered = sizes (Ok (5, 16)) } ∷
    record { asked = last_of (minus_seven_and_two ++ (operator Divide 3 4 ∷ [])); answered = values (Ok (negsuc 2)) } ∷
    record { asked = last_of (minus_seven_and_two ++ (operator Remainder 3 4 ∷ [])); answered = values (Ok (negsuc 0)) } ∷
    record { asked = last_of (const 1 ∷ const 31 ∷ operator ShiftLeft 1 2 ∷ []); answered = values (Ok (pos 2147483648)) } ∷
    record { asked = last_of (const 2 ∷ const 31 ∷ operator ShiftLeft 1 2 ∷ []); answered = values (Err (record { cause = OutOfRange; node = 3 })) } ∷
    record { asked = last_of (const 0 ∷ const 1 ∷ operator Divide 2 1 ∷ operator And 1 3 ∷ []); answered = values (Err (record { cause = ZeroDivisor; node = 3 })) } ∷ []

-- every case comes to what it must
abbrev pub CasesHold : Type 0
CasesHold = map (λ c. c.asked) cases ≡ map (λ c. c.answered) cases
