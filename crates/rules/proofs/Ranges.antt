-- What an operator gives lies in the range, or its cause is one of the rules'.
use Rattle.std.proofs.Common.{◌≡◌, ◌^◌, Bool, true, false, cond, not, ◌&&◌, ◌||◌, ℤ, pos, ◌+ℤ◌, ◌-ℤ◌, ◌*ℤ◌, nat_abs, Ok, Err, refl, subst, lit≤}
use Rattle.rules.specs.Ranks.{Known}
use lib.Bits.{bit_and, bit_or}
use lib.Signed.{le_z, lt_z, quot_z, rem_z, shr_z}
use Rattle.rules.specs.declared.faults.ReadingCause.{ReadingCause}
use Rattle.rules.specs.declared.faults.ReadingCause.TheVariants.{OutOfRange, ZeroDivisor, BadOperand}
use Rattle.rules.specs.declared.terms.Operator.{Operator}
use Rattle.rules.specs.declared.terms.Operator.TheVariants.{Multiply, Divide, Remainder, Add, Subtract, ShiftLeft, ShiftRight, Less, AtMost, Greater, AtLeast, Equal, Unequal, BitAnd, BitOr, And, Or}
use Rattle.rules.specs.Values.{Worked, in_range, ranged, flag, is_zero, same, applied, OperatorsLaw}

abbrev pub Good : Worked → Type 0
Good (Ok v) = in_range v ≡ true
Good (Err c) = Known c

good_ranged : (z : ℤ) → Good (ranged z)
good_ranged z = go (in_range z) refl
  where
    go : (b : Bool) → in_range z ≡ b → Good (cond b (Ok z) (Err OutOfRange))
    go true e = e
    go false e = (lit≤ tt, lit≤ tt)

good_or : (b : Bool) (c : ReadingCause) (r : Worked) → Known c → Good r → Good (cond b (Err c) r)
good_or true c r k g = k
good_or false c r k g = g

good_flag : (b : Bool) → Good (flag b)
good_flag true = refl
good_flag false = refl

pub good : (o : Operator) (x y : ℤ) → Good (applied o x y)
good Multiply x y = good_ranged (x *ℤ y)
good Divide x y = good_or (is_zero y) ZeroDivisor _ (lit≤ tt, lit≤ tt) (good_ranged (quot_z x y))
good Remainder x y = good_or (is_zero y) ZeroDivisor _ (lit≤ tt, lit≤ tt) (good_ranged (rem_z x y))
good Add x y = good_ranged (x +ℤ y)
good Subtract x y = good_ranged (x -ℤ y)
good ShiftLeft x y = good_or (lt_z y (pos 0) || lt_z (pos 31) y) BadOperand _ (lit≤ tt, lit≤ tt) (good_ranged (x *ℤ pos (2 ^ nat_abs y)))
good ShiftRight x y = good_or (lt_z y (pos 0) || lt_z (pos 31) y) BadOperand _ (lit≤ tt, lit≤ tt) (good_ranged (shr_z x (2 ^ nat_abs y)))
good Less x y = good_flag (lt_z x y)
good AtMost x y = good_flag (le_z x y)
good Greater x y = good_flag (lt_z y x)
good AtLeast x y = good_flag (le_z y x)
good Equal x y = good_flag (same x y)
good Unequal x y = good_flag (not (same x y))
good BitAnd x y = good_or (lt_z x (pos 0) || lt_z y (pos 0)) BadOperand _ (lit≤ tt, lit≤ tt) (good_ranged (pos (bit_and (nat_abs x) (nat_abs y))))
good BitOr x y = good_or (lt_z x (pos 0) || lt_z y (pos 0)) BadOperand _ (lit≤ tt, lit≤ tt) (good_ranged (pos (bit_or (nat_abs x) (nat_abs y))))
good And x y = good_flag (not (is_zero x) && not (is_zero y))
good Or x y = good_flag (not (is_zero x) || not (is_zero y))

pub operators_law : OperatorsLaw
operators_law o x y v e = subst Good e (good o x y)
