-- The value of a node, from the values of earlier nodes.
use Rattle.std.specs.Prelude.{◌≡◌, ℕ, zero, suc, ◌^◌, Bool, true, false, cond, not, ◌&&◌, ◌||◌, List, ℤ, pos, negsuc, Some, None, Option, ◌+ℤ◌, ◌-ℤ◌, ◌*ℤ◌, Ok, Err, Result, ◌==◌, bit_and, bit_or, int_div, int_le, int_lt, int_rem, nat_lt, unsigned_abs}
use Rattle.std.specs.Int.Signed.{shr_z}
use Rattle.records.specs.declared.records.Node.{Node}
use Rattle.table.specs.Description.{entry, no_node}
use Rattle.rules.specs.declared.faults.ReadingCause.{ReadingCause}
use Rattle.rules.specs.declared.faults.ReadingCause.TheVariants.{Unchecked, OutOfRange, ZeroDivisor, BadOperand}
use Rattle.rules.specs.declared.terms.Operator.{Operator}
use Rattle.rules.specs.declared.terms.Operator.TheVariants.{Multiply, Divide, Remainder, Add, Subtract, ShiftLeft, ShiftRight, Less, AtMost, Greater, AtLeast, Equal, Unequal, BitAnd, BitOr, And, Or}
use Rattle.rules.specs.declared.terms.Term.{Term}
use Rattle.rules.specs.declared.terms.Term.TheVariants.{Constant, Named, OwnSize, Apply}
use Rattle.rules.specs.Terms.{term}
use Rattle.rules.specs.Checks.{Check, fails, pick, then}

-- a value, or why there is none
abbrev pub Worked : Type 0
Worked = Result ℤ ReadingCause

-- every number lies from -2,147,483,648 to 4,294,967,295
abbrev pub in_range : ℤ → Bool
in_range z = int_le (negsuc 2147483647) z && int_le z (pos 4294967295)

abbrev pub ranged : ℤ → Worked
ranged z = cond (in_range z) (Ok z) (Err OutOfRange)

abbrev pub is_zero : ℤ → Bool
is_zero (pos n) = n == 0
is_zero (negsuc n) = false

abbrev pub same : ℤ → ℤ → Bool
same x y = int_le x y && int_le y x

-- a test gives 1 or 0
abbrev pub flag : Bool → Worked
flag b = Ok (cond b (pos 1) (pos 0))

-- a division by 0 fails
abbrev pub divided : (ℤ → ℤ → ℤ) → ℤ → ℤ → Worked
divided by x y = cond (is_zero y) (Err ZeroDivisor) (ranged (by x y))

-- a shift by less than 0 or more than 31 fails
abbrev pub shifted : (ℤ → ℕ → ℤ) → ℤ → ℤ → Worked
shifted by x y = cond (int_lt y (pos 0) || int_lt (pos 31) y) (Err BadOperand) (ranged (by x (2 ^ unsigned_abs y)))

-- a negative operand fails
abbrev pub bitwise : (ℕ → ℕ → ℕ) → ℤ → ℤ → Worked
bitwise by x y = cond (int_lt x (pos 0) || int_lt y (pos 0)) (Err BadOperand) (ranged (pos (by (unsigned_abs x) (unsigned_abs y))))

-- an operator of two values: division drops the fraction, a remainder has the dividend's sign, a shift to the right
-- rounds down, and anything but 0 is true
abbrev pub applied : Operator → ℤ → ℤ → Worked
applied Multiply x y = ranged (x *ℤ y)
applied Divide x y = divided int_div x y
applied Remainder x y = divided int_rem x y
applied Add x y = ranged (x +ℤ y)
applied Subtract x y = ranged (x -ℤ y)
applied ShiftLeft x y = shifted (λ a m. a *ℤ pos m) x y
applied ShiftRight x y = shifted shr_z x y
applied Less x y = flag (int_lt x y)
applied AtMost x y = flag (int_le x y)
applied Greater x y = flag (int_lt y x)
applied AtLeast x y = flag (int_le y x)
applied Equal x y = flag (same x y)
applied Unequal x y = flag (not (same x y))
applied BitAnd x y = bitwise bit_and x y
applied BitOr x y = bitwise bit_or x y
applied And x y = flag (not (is_zero x) && not (is_zero y))
applied Or x y = flag (not (is_zero x) || not (is_zero y))

-- what an operator gives lies in the range
abbrev pub OperatorsLaw : Type 0
OperatorsLaw = (o : Operator) (x y v : ℤ) → applied o x y ≡ Ok v → in_range v ≡ true

-- an operator's failure is that of its node
abbrev pub of_node : ℕ → Worked → Check ℤ
of_node k (Ok v) = Ok v
of_node k (Err cause) = Err (record { cause = cause; node = k })

-- the values of an object's names
abbrev pub Names : Type 0
Names = ℕ → ℤ

-- node k, which is a term or none, from the names' values, the own object's size and the values of earlier nodes:
-- left first, always both
unfoldable pub term_value : (k : ℕ) → Option Term → Names → (size : ℕ) → (earlier : ℕ → Check ℤ) → Check ℤ
term_value k (Some (Constant v)) names size earlier = Ok (pos v)
term_value k (Some (Named n)) names size earlier = Ok (names n)
term_value k (Some OwnSize) names size earlier = Ok (pos size)
term_value k (Some (Apply operator left right)) names size earlier =
    then (earlier left) λ x. then (earlier right) λ y. of_node k (applied operator x y)
term_value k None names size earlier = fails Unchecked

-- the value of a node before node k
abbrev pub before : (k : ℕ) → (ℕ → Check ℤ) → ℕ → Check ℤ
before k value j = pick (nat_lt j k) (λ _. value j) (λ _. fails Unchecked)

-- the same, where so many nodes may stand one above the other
unfoldable pub value_within : ℕ → List Node → (size : ℕ) → Names → ℕ → Check ℤ
value_within zero nodes size names k = fails Unchecked
value_within (suc f) nodes size names k =
    term_value k (term (entry nodes k no_node)) names size (before k (value_within f nodes size names))

-- the value of node k in an object of a size, with its names
unfoldable pub value : List Node → (size : ℕ) → Names → ℕ → Check ℤ
value nodes size names k = value_within (suc k) nodes size names k

-- the same with no bound in it: a node's value comes from those of the nodes before it
abbrev pub ValueLaw : Type 0
ValueLaw =
    (nodes : List Node) (size : ℕ) (names : Names) (k : ℕ) →
    value nodes size names k ≡ term_value k (term (entry nodes k no_node)) names size (before k (value nodes size names))
