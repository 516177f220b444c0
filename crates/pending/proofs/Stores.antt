-- Storing a stretch of a source's bits piece by piece.
use Rattle.std.proofs.Common.{◌≡◌, ℕ, ◌+◌, ◌-◌, ◌≤◌, min, Bool, true, List, ◌++◌, length, take, drop, is_ok, sym, ap, ◌∙◌, arith}
use Rattle.std.proofs.lemmas.Bool.Decides.{nat_tests}
use Rattle.std.proofs.lemmas.List.{length-append, length-take, append_assoc, take-append-drop, take_at, drop_at, drop-drop}
use Rattle.bits.specs.Bits.{number, part, bits_of}
use Rattle.bits.specs.Put.{with_bits, put_answer}
use Rattle.bits.proofs.Numbers.{length_part, part_split}
use Rattle.bits.proofs.ListLaws.{laws}
use Rattle.pending.specs.Store.{with_part}

-- few bits that lie in the bytes are stored
pub can_put : (size p n : ℕ) → n ≤ 32 → p + n ≤ size → is_ok (put_answer size p n) ≡ true
can_put size p n h k = grind (arith, nat_tests)

-- nothing stored yet
pub part_none : (l s : List Bool) (from : ℕ) → l ≡ with_part l s from from
unfolding with_part
part_none l s from = let z : from - from ≡ 0 = omega arith in sym (rw z (take-append-drop from l))

-- up to a place, and n more bits
pub part_more : (l s : List Bool) (from at n v : ℕ) → from ≤ at → at + n ≤ length s → at + n ≤ length l → v ≡ number (part s at n) →
    with_bits (with_part l s from at) at n v ≡ with_part l s from (at + n)
unfolding with_part with_bits
part_more l s from at n v h j k e =
    let front = take from l ++ part s from (at - from) in
    let whole : take from l ++ (part s from (at - from) ++ drop at l) ≡ front ++ drop at l = sym (append_assoc (take from l) (part s from (at - from)) (drop at l)) in
    let cut : min from (length l) ≡ from = omega arith in
    let a : from + (at - from) ≡ at = omega arith in
    let b : at + n - from ≡ at - from + n = omega arith in
    let long : length front ≡ at = rw (length-append, length-take from l, length_part s from (at - from) (omega arith), cut) a in
    let piece : bits_of n v ≡ part s at n = rw e (ap (λ t. bits_of t (number (part s at n))) (sym (length_part s at n j)) ∙ laws.bits_of_number (part s at n)) in
    let before : take at (front ++ drop at l) ≡ front = take_at front (drop at l) at long in
    let after : drop (at + n) (front ++ drop at l) ≡ drop (at + n) l = sym (drop-drop n at (front ++ drop at l)) ∙ (ap (drop n) (drop_at front (drop at l) at long) ∙ drop-drop n at l) in
    let both : part s from (at + n - from) ≡ part s from (at - from) ++ part s at n = ap (part s from) b ∙ (part_split s from (at - from) n ∙ ap (λ t. part s from (at - from) ++ part s t n) a) in
    rw (whole, before, after, piece, both) (simp append_assoc)
