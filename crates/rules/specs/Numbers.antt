-- The numbers by which users know kinds of item, causes of a reading's fault, and operators.
use Rattle.std.specs.Prelude.{ℕ, cond, Some, None, Option, ◌==◌}
use Rattle.rules.specs.declared.items.Kind.{Kind}
use Rattle.rules.specs.declared.items.Kind.TheVariants.{Value, Open, Close}
use Rattle.rules.specs.declared.faults.ReadingCause.{ReadingCause}
use Rattle.rules.specs.declared.faults.ReadingCause.TheVariants.{Unchecked, SourceEnds, ObjectEnds, SkippedBits, OutsideBounds, NoSuchIndex, UnknownId, Size, PastWindow, TooFew, BitsLeft, OutOfRange, ZeroDivisor, BadOperand, WidthOrCount, TooManyRounds}
use Rattle.rules.specs.declared.terms.Operator.{Operator}
use Rattle.rules.specs.declared.terms.Operator.TheVariants.{Multiply, Divide, Remainder, Add, Subtract, ShiftLeft, ShiftRight, Less, AtMost, Greater, AtLeast, Equal, Unequal, BitAnd, BitOr, And, Or}

abbrev pub kind_number : Kind → ℕ
kind_number Value = 1
kind_number Open = 2
kind_number Close = 3

-- a kind where the number is its own, or else
abbrev pub kind_or : Kind → ℕ → Option Kind → Option Kind
kind_or k n else = cond (n == kind_number k) (Some k) else

-- the kind that has a number
abbrev pub kind_with : ℕ → Option Kind
kind_with n = kind_or Value n (kind_or Open n (kind_or Close n None))

-- 0 never comes of a checked description
abbrev pub reading_cause_number : ReadingCause → ℕ
reading_cause_number Unchecked = 0
reading_cause_number SourceEnds = 11
reading_cause_number ObjectEnds = 12
reading_cause_number SkippedBits = 13
reading_cause_number OutsideBounds = 14
reading_cause_number NoSuchIndex = 15
reading_cause_number UnknownId = 16
reading_cause_number Size = 17
reading_cause_number PastWindow = 18
reading_cause_number TooFew = 19
reading_cause_number BitsLeft = 20
reading_cause_number OutOfRange = 21
reading_cause_number ZeroDivisor = 22
reading_cause_number BadOperand = 23
reading_cause_number WidthOrCount = 24
reading_cause_number TooManyRounds = 25

abbrev pub operator_number : Operator → ℕ
operator_number Multiply = 4
operator_number Divide = 5
operator_number Remainder = 6
operator_number Add = 7
operator_number Subtract = 8
operator_number ShiftLeft = 9
operator_number ShiftRight = 10
operator_number Less = 11
operator_number AtMost = 12
operator_number Greater = 13
operator_number AtLeast = 14
operator_number Equal = 15
operator_number Unequal = 16
operator_number BitAnd = 17
operator_number BitOr = 18
operator_number And = 19
operator_number Or = 20

-- an operator where the number is its own, or else
abbrev pub operator_or : Operator → ℕ → Option Operator → Option Operator
operator_or o n else = cond (n == operator_number o) (Some o) else

-- the operator that has a number
abbrev pub operator_with : ℕ → Option Operator
operator_with n =
    operator_or Multiply n (operator_or Divide n (operator_or Remainder n (operator_or Add n (operator_or Subtract n
    (operator_or ShiftLeft n (operator_or ShiftRight n (operator_or Less n (operator_or AtMost n (operator_or Greater n
    (operator_or AtLeast n (operator_or Equal n (operator_or Unequal n (operator_or BitAnd n (operator_or BitOr n
    (operator_or And n (operator_or Or n None))))))))))))))))
