-- The number that bits write: of two lists, of a part, of the bits of numbers.
use Rattle.std.proofs.Common.{◌≡◌, ℕ, zero, suc, ◌+◌, ◌-◌, ◌*◌, ◌/◌, ◌%◌, ◌^◌, ◌<◌, ◌≤◌, Bool, true, false, eqb, List, [], ◌∷◌, ◌++◌, length, take, drop, sym, refl, ap, ◌∙◌, subst, add_assoc, mul_assoc, suc-mul, add-mul, zero-mul, one-add, arith, take-add}
use native.Mathlib.Nat.{pow-succ'}
use lib.Bits.{bit_or}
use lib.Seq.{take-nil, drop-nil, take-append-add, drop-append-add}
use Rattle.std.proofs.lemmas.Nat.{pow-add, shr_high, mod_low, mod-pow-add, mod_below, shl_whole, or_shifted}
use Rattle.std.proofs.lemmas.List.{length-append, take_rest, length-take, length-drop, take-append-drop, drop-drop, drop-take, append_assoc, drop-append-le, take-take}
use Rattle.bits.specs.Bits.{bit_value, number, part, bits_of, bits_all, length-bits_of}

pub number_append : (a b : List Bool) → number (a ++ b) ≡ number a * 2 ^ length b + number b
unfolding number
number_append [] b = omega arith
number_append (x ∷ a) b =
    let e : 2 ^ length (a ++ b) ≡ 2 ^ length a * 2 ^ length b = ap (λ n. 2 ^ n) (length-append a b) ∙ pow-add 2 (length a) (length b) in
    simp (e, number_append a b, add-mul, mul_assoc, add_assoc)

pub number_lt : (a : List Bool) → number a < 2 ^ length a
unfolding number
number_lt [] = omega arith
number_lt (true ∷ a) = omega (arith, number_lt a, pow-succ' 2 (length a))
number_lt (false ∷ a) = omega (arith, number_lt a, pow-succ' 2 (length a))

pub length_part : (l : List Bool) (p n : ℕ) → p + n ≤ length l → length (part l p n) ≡ n
length_part l p n h = simp (length-take, length-drop) (omega arith)

pub number-part_lt : (l : List Bool) (p n : ℕ) → p + n ≤ length l → number (part l p n) < 2 ^ n
number-part_lt l p n h = subst (λ m. number (part l p n) < 2 ^ m) (length_part l p n h) (number_lt (part l p n))

number_mid : (a b c : List Bool) → number b ≡ number ((a ++ b) ++ c) / 2 ^ length c % 2 ^ length b
number_mid a b c =
    rw (number_append (a ++ b) c, shr_high (number (a ++ b)) (length c) (number c) (number_lt c), number_append a b, mod_low (number a) (length b) (number b) (number_lt b))

-- the part from p of n bits, with k bits after it
pub number-part : (l : List Bool) (p n k : ℕ) → p + n + k ≡ length l → number (part l p n) ≡ number l / 2 ^ k % 2 ^ n
number-part l p n k h =
    let e : (take p l ++ part l p n) ++ drop n (drop p l) ≡ l = append_assoc (take p l) (part l p n) (drop n (drop p l)) ∙ (ap (λ t. take p l ++ t) (take-append-drop n (drop p l)) ∙ take-append-drop p l) in
    let b : length (part l p n) ≡ n = length_part l p n (omega arith) in
    let c : length (drop n (drop p l)) ≡ k = simp (length-drop) (omega arith) in
    number_mid (take p l) (part l p n) (drop n (drop p l)) ∙ (ap (λ t. number t / 2 ^ length (drop n (drop p l)) % 2 ^ length (part l p n)) e ∙ (ap (λ t. number l / 2 ^ t % 2 ^ length (part l p n)) c ∙ ap (λ t. number l / 2 ^ k % 2 ^ t) b))

bit_value_eqb : (y : ℕ) → y < 2 → bit_value (eqb y 1) ≡ y
bit_value_eqb zero h = refl
bit_value_eqb (suc zero) h = refl
bit_value_eqb (suc (suc y)) h = absurd (omega arith)

pub number-bits_of : (w x : ℕ) → number (bits_of w x) ≡ x % 2 ^ w
unfolding number bits_of
number-bits_of zero x = omega arith
number-bits_of (suc w) x =
    simp (bit_value_eqb (x / 2 ^ w % 2) (mod_below (x / 2 ^ w) 2 (omega arith)), length-bits_of w x, number-bits_of w x)
    (rw (← one-add w) (sym (mod-pow-add x 1 w)))

pub drop-bits_all : (w i : ℕ) (xs : List ℕ) → drop (i * w) (bits_all w xs) ≡ bits_all w (drop i xs)
drop-bits_all w zero xs = rw zero-mul
drop-bits_all w (suc i) [] = drop-nil (suc i * w)
drop-bits_all w (suc i) (x ∷ xs) =
    let e : suc i * w ≡ length (bits_of w x) + i * w = rw length-bits_of (omega (arith, suc-mul i w)) in
    rw e (drop-append-add (bits_of w x) (bits_all w xs) (i * w) ∙ drop-bits_all w i xs)

pub take-bits_all : (w i : ℕ) (xs : List ℕ) → take (i * w) (bits_all w xs) ≡ bits_all w (take i xs)
take-bits_all w zero xs = rw zero-mul
take-bits_all w (suc i) [] = take-nil (suc i * w)
take-bits_all w (suc i) (x ∷ xs) =
    let e : suc i * w ≡ length (bits_of w x) + i * w = rw length-bits_of (omega (arith, suc-mul i w)) in
    rw e (take-append-add (bits_of w x) (bits_all w xs) (i * w) ∙ ap (λ t. bits_of w x ++ t) (take-bits_all w i xs))

pub part-part : (l : List Bool) (f m p n : ℕ) → p + n ≤ m → part (part l f m) p n ≡ part l (f + p) n
part-part l f m p n h =
    let k : p + (m - p) ≡ m = omega arith in
    let i : n ≤ m - p = omega arith in
    ap (λ t. take n (drop p (take t (drop f l)))) (sym k) ∙ (ap (take n) (drop-take p (m - p) (drop f l)) ∙ (take-take n (m - p) (drop p (drop f l)) i ∙ ap (take n) (drop-drop p f l)))

-- a part is made of two, one after the other
pub part_split : (l : List Bool) (p m n : ℕ) → part l p (m + n) ≡ part l p m ++ part l (p + m) n
part_split l p m n = take-add m n (drop p l) ∙ ap (λ t. take m (drop p l) ++ take n t) (drop-drop m p l)

pub bits_all-append : (w : ℕ) (xs ys : List ℕ) → bits_all w (xs ++ ys) ≡ bits_all w xs ++ bits_all w ys
bits_all-append w [] ys = refl
bits_all-append w (x ∷ xs) ys = rw (bits_all-append w xs ys) (sym (append_assoc (bits_of w x) (bits_all w xs) (bits_all w ys)))

-- a number across the boundary of two lists, `past` bits of it in the second
pub number_across : (a b : List Bool) (p n past : ℕ) → p ≤ length a → p + n ≡ length a + past → past ≤ length b → number (part (a ++ b) p n) ≡ number (part a p (length a - p)) * 2 ^ past + number (part b 0 past)
number_across a b p n past h e k =
    let i : n ≡ length (drop p a) + past = rw length-drop (omega arith) in
    let all : take (length a - p) (drop p a) ≡ drop p a = take_rest a p in
    let len : length (take past b) ≡ past = rw length-take (omega arith) in
    rw (drop-append-le p a b h, i, take-append-add (drop p a) b past, number_append, len, all)

-- a shift by `past` and an or make it of its two pieces, where it fits in 64 bits
pub across : (a b : List Bool) (p n past high low : ℕ) → p ≤ length a → p + n ≡ length a + past → n ≤ 64 → past ≤ length b → high ≡ number (part a p (length a - p)) → low ≡ number (part b 0 past) → bit_or ((high * 2 ^ past) % 2 ^ 64) low ≡ number (part (a ++ b) p n)
across a b p n past high low h e s k i j =
    let top : high < 2 ^ (length a - p) = rw i (number-part_lt a p (length a - p) (omega arith)) in
    let less : low < 2 ^ past = rw j (number-part_lt b 0 past (omega arith)) in
    let fits : length a - p + past ≤ 64 = omega arith in
    rw (shl_whole high (length a - p) past 64 top fits, or_shifted high past low less, i, j) (sym (number_across a b p n past h e k))
