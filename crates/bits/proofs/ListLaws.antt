-- The laws that the layers above rest on.
use Rattle.std.proofs.Common.{◌≡◌, ℕ, ◌+◌, ◌-◌, ◌%◌, ◌^◌, ◌≤◌, min, Bool, true, false, List, [], ◌∷◌, ◌++◌, length, take, drop, sym, refl, ap, ◌∙◌, zero-add, arith}
use Rattle.std.proofs.lemmas.Nat.{shr_high}
use Rattle.std.proofs.lemmas.List.{length-append, length-take, length-drop, take-append-drop, drop-drop, take_at, drop_at, take-append-le, drop-append-le}
use Rattle.bits.specs.Bits.{number, part, bits_of, length-bits_of}
use Rattle.bits.specs.Put.{with_bits}
use Rattle.bits.specs.Laws.{Laws, BitsOfNumber, GetAgrees, PutLength, PutGet, PutBefore, PutAfter, PutSame}
use Rattle.bits.proofs.Numbers as numbers
use Rattle.bits.proofs.Numbers.{number_lt, number-bits_of, length_part}
use Rattle.bits.proofs.Gets.{got, get_same}
use Rattle.bits.proofs.Puts.{bits_of-high}
use Rattle.bits.proofs.Zeros as zeros

pub bits_of_number : BitsOfNumber
unfolding number bits_of
bits_of_number [] = refl
bits_of_number (true ∷ l) = rw (shr_high 1 (length l) (number l) (number_lt l), bits_of-high (length l) 1 (number l), bits_of_number l)
bits_of_number (false ∷ l) = rw (shr_high 0 (length l) (number l) (number_lt l), bits_of-high (length l) 0 (number l), bits_of_number l)

pub get_agrees : GetAgrees
get_agrees l m q p n e d h =
    let k : q + (p - q) ≡ p = omega arith in
    let at : drop p l ≡ drop p m = ap (λ t. drop t l) (sym k) ∙ (sym (drop-drop (p - q) q l) ∙ (ap (drop (p - q)) d ∙ (drop-drop (p - q) q m ∙ ap (λ t. drop t m) k))) in
    get_same l m p p n (λ i. omega arith) (λ i. omega arith) (ap (take n) at)

pub put_length : PutLength
unfolding with_bits
put_length l p n v h = rw (length-append, length-append, length-bits_of, length-take, length-drop) (omega arith)

-- the stored bits, and those that stand after them
drop_put : (l : List Bool) (p n v : ℕ) → p + n ≤ length l → drop p (with_bits l p n v) ≡ bits_of n v ++ drop (p + n) l
unfolding with_bits
drop_put l p n v h =
    let cut : min p (length l) ≡ p = omega arith in
    drop_at (take p l) (bits_of n v ++ drop (p + n) l) p (rw (length-take, cut))

pub put_get : PutGet
put_get l p n v w h =
    let len : p + n ≤ length (with_bits l p n v) = rw put_length (omega arith) in
    sym (got (with_bits l p n v) p n (v % 2 ^ n) w len (sym (ap (λ t. number (take n t)) (drop_put l p n v h) ∙ (ap number (take_at (bits_of n v) (drop (p + n) l) n (length-bits_of n v)) ∙ number-bits_of n v))))

pub put_before : PutBefore
unfolding with_bits
put_before l p n v q m h k =
    let after = bits_of n v ++ drop (p + n) l in
    let cut : length (take p l) ≡ p = rw length-take (omega arith) in
    let less : q ≤ length (take p l) = omega arith in
    let few : m ≤ length (drop q (take p l)) = rw length-drop (omega arith) in
    let same : part (take p l ++ after) q m ≡ part l q m =
    ap (take m) (drop-append-le q (take p l) after less) ∙ (take-append-le m (drop q (take p l)) after few ∙ (numbers.part-part l 0 p q m k ∙ ap (λ t. part l t m) (zero-add q))) in
    let len = put_length l p n v h in
    get_same (take p l ++ after) l q q m (λ i. omega arith) (λ i. omega arith) same

pub put_after : PutAfter
put_after l p n v q m h k =
    let rest : drop (p + n) (with_bits l p n v) ≡ drop (p + n) l =
    sym (drop-drop n p (with_bits l p n v)) ∙ (ap (drop n) (drop_put l p n v h) ∙ drop_at (bits_of n v) (drop (p + n) l) n (length-bits_of n v)) in
    get_agrees (with_bits l p n v) l (p + n) q m (put_length l p n v h) rest k

pub put_same : PutSame
unfolding with_bits
put_same l p n h =
    let len : length (part l p n) ≡ n = length_part l p n h in
    let bits : bits_of n (number (part l p n)) ≡ part l p n = ap (λ t. bits_of t (number (part l p n))) (sym len) ∙ bits_of_number (part l p n) in
    rw (bits, ← drop-drop n p l, take-append-drop n (drop p l), take-append-drop p l)

pub laws : Laws
laws = record {
  part_of_part = numbers.part-part;
  part_split = numbers.part_split;
  number_append = numbers.number_append;
  number_below = number_lt;
  number_of_part = numbers.number-part;
  number_of_bits = number-bits_of;
  bits_of_number = bits_of_number;
  zero_number = zeros.zero_number;
  zero_bits = zeros.zero_bits;
  get_agrees = get_agrees;
  put_length = put_length;
  put_get = put_get;
  put_before = put_before;
  put_after = put_after;
  put_same = put_same;
}
