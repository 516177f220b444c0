-- Bits that are all 0.
use Rattle.std.proofs.Common.{◌≡◌, ℕ, ◌+◌, ◌-◌, ◌*◌, ◌^◌, ◌≤◌, Bool, true, false, ◌&&◌, eqb, List, [], ◌∷◌, ◌++◌, length, replicate, Ok, sym, refl, ap, ◌∙◌, arith}
use Rattle.std.proofs.lemmas.Nat.{pow_pos}
use Rattle.std.proofs.lemmas.Bool.{le-ltb, ne_eqb, false≢true, and_right}
use Rattle.bits.specs.Bits.{number, part}
use Rattle.bits.specs.Zero.{all_zero, zero_answer}
use Rattle.bits.specs.Get.{get_answer}
use Rattle.bits.proofs.Numbers.{part_split}
use Rattle.bits.proofs.Gets.{answered}

pub zero_append : (a b : List Bool) → all_zero (a ++ b) ≡ (all_zero a && all_zero b)
unfolding all_zero
zero_append [] b = refl
zero_append (true ∷ a) b = refl
zero_append (false ∷ a) b = zero_append a b

-- bits are all 0 exactly if they write 0
pub zero_number : (l : List Bool) → all_zero l ≡ eqb (number l) 0
unfolding all_zero number
zero_number [] = refl
zero_number (true ∷ l) = sym (ne_eqb _ 0 (λ e. omega (arith, pow_pos (length l))))
zero_number (false ∷ l) =
    let e : 0 * 2 ^ length l + number l ≡ number l = omega arith in
    rw e (zero_number l)

pub zero_bits : (l : List Bool) → all_zero l ≡ true → l ≡ replicate (length l) false
unfolding all_zero
zero_bits [] e = refl
zero_bits (true ∷ l) e = absurd (false≢true e)
zero_bits (false ∷ l) e = ap (λ t. false ∷ t) (zero_bits l e)

-- no bits are all 0
pub zero_none : (l : List Bool) (p n : ℕ) → n ≡ 0 → all_zero (part l p n) ≡ true
unfolding all_zero
zero_none l p n e = rw e

-- what a `get` tells
pub zero_got : (l : List Bool) (p n v : ℕ) → Ok v ≡ get_answer l p n → all_zero (part l p n) ≡ eqb v 0
zero_got l p n v e = zero_number (part l p n) ∙ ap (λ t. eqb t 0) (sym (answered l p n v e).2)

-- zero bits from p up to q, and n more
pub zero_more : (l : List Bool) (p q n : ℕ) → p ≤ q → all_zero (part l p (q - p)) ≡ true → all_zero (part l q n) ≡ true → all_zero (part l p (q + n - p)) ≡ true
zero_more l p q n h f g =
    let at : p + (q - p) ≡ q = omega arith in
    let sum : q + n - p ≡ q - p + n = omega arith in
    rw (sum, part_split l p (q - p) n, zero_append (part l p (q - p)), f, at, g)

-- a part with other bits among its own
pub zero_not : (l : List Bool) (p c q n : ℕ) → p ≤ q → q + n ≤ p + c → all_zero (part l q n) ≡ false → all_zero (part l p c) ≡ false
zero_not l p c q n h k f =
    let at : p + (q - p) ≡ q = omega arith in
    let sum : c ≡ q - p + (n + (p + c - q - n)) = omega arith in
    ap (λ t. all_zero (part l p t)) sum ∙ rw (part_split l p (q - p), at, part_split l q n, zero_append (part l p (q - p)), zero_append (part l q n), f) (and_right (all_zero (part l p (q - p))) false refl)

-- what is answered where the bits are all there
pub zero_told : (l : List Bool) (p n : ℕ) (b : Bool) → p + n ≤ length l → all_zero (part l p n) ≡ b → Ok b ≡ zero_answer l p n
zero_told l p n b h e = rw (le-ltb (length l) (p + n) h, e)
