-- What `get` answers over lists, and what its answers tell.
use Rattle.std.proofs.Common.{◌≡◌, ℕ, ◌+◌, ◌-◌, ◌^◌, ◌<◌, ◌≤◌, min, Bool, ltb, List, ◌++◌, length, take, drop, Ok, Err, ap, ◌∙◌, zero-add, arith}
use lib.Seq.{drop-append-add}
use Rattle.std.proofs.lemmas.List.{length-append, length-take, length-drop, take-append-le, drop-append-le}
use Rattle.std.proofs.lemmas.Bool.{le-ltb}
use Rattle.std.proofs.lemmas.Bool.Decides.{nat_tests}
use Rattle.bits.specs.declared.refusal.Refusal.{Refusal}
use Rattle.bits.specs.declared.refusal.Refusal.TheVariants.{PastEnd}
use Rattle.bits.specs.Bits.{number, part, limited, longest, length-limited}
use Rattle.bits.specs.Get.{widest, end_answer, place_answer, get_answer}
use Rattle.bits.proofs.Numbers.{part-part, number-part_lt}

-- what `get` answers where it does not refuse
pub got : (l : List Bool) (p n v : ℕ) → n ≤ widest → p + n ≤ length l → v ≡ number (part l p n) → Ok v ≡ get_answer l p n
got l p n v h k e = rw (le-ltb widest n h, le-ltb (length l) (p + n) k, e)

-- what an `Ok` of `get` tells
pub answered : (l : List Bool) (p n v : ℕ) → Ok v ≡ get_answer l p n → (n ≤ widest) × (p + n ≤ length l) × (v ≡ number (part l p n))
answered l p n v e = grind (arith, nat_tests)

pub answered_lt : (l : List Bool) (p n v : ℕ) → Ok v ≡ get_answer l p n → v < 2 ^ n
answered_lt l p n v e =
    let a = answered l p n v e in
    rw a.2 (number-part_lt l p n a.1)

-- what an `Err` of `get` tells, where not too many bits were asked for
pub refused : (l : List Bool) (p n : ℕ) (e : Refusal) → n ≤ widest → Err e ≡ get_answer l p n → (e ≡ PastEnd) × (length l < p + n)
refused l p n e h k = grind (arith, nat_tests)

-- no bits write 0
pub number_none : (l : List Bool) (p n : ℕ) → n ≡ 0 → 0 ≡ number (part l p n)
unfolding number
number_none l p n e = rw e

same_test : (a b c d : ℕ) → (a < b → c < d) → (c < d → a < b) → ltb a b ≡ ltb c d
same_test a b c d f g = grind (arith, nat_tests)

-- lists that end alike and have the same part answer alike
pub get_same : (l m : List Bool) (p q n : ℕ) → (length l < p + n → length m < q + n) → (length m < q + n → length l < p + n) → part l p n ≡ part m q n → get_answer l p n ≡ get_answer m q n
get_same l m p q n f g e = rw (same_test (length l) (p + n) (length m) (q + n) f g, e)

part-limited : (l : List Bool) (p n : ℕ) → p + n ≤ longest → part (limited l) p n ≡ part l p n
unfolding limited
part-limited l p n h = part-part l 0 longest p n h ∙ ap (λ t. part l t n) (zero-add p)

pub get_limited : (l : List Bool) (p n : ℕ) → p + n ≤ longest → get_answer (limited l) p n ≡ get_answer l p n
get_limited l p n h =
    let e : length (limited l) ≡ min longest (length l) = length-limited l in
    get_same (limited l) l p p n (λ k. omega arith) (λ k. omega arith) (part-limited l p n h)

-- a part of the first of two lists
pub get_front : (a b : List Bool) (p n : ℕ) → p + n ≤ length a → get_answer (a ++ b) p n ≡ get_answer a p n
get_front a b p n h =
    let e : length (a ++ b) ≡ length a + length b = length-append a b in
    let k : p ≤ length a = omega arith in
    let m : n ≤ length (drop p a) = rw length-drop (omega arith) in
    get_same (a ++ b) a p p n (λ k. omega arith) (λ k. omega arith) (ap (take n) (drop-append-le p a b k) ∙ take-append-le n (drop p a) b m)

-- a part of the second
pub get_back : (a b : List Bool) (p n : ℕ) → length a ≤ p → get_answer (a ++ b) p n ≡ get_answer b (p - length a) n
get_back a b p n h =
    let e : length (a ++ b) ≡ length a + length b = length-append a b in
    let k : p ≡ length a + (p - length a) = omega arith in
    get_same (a ++ b) b p (p - length a) n (λ k. omega arith) (λ k. omega arith) (ap (λ t. take n (drop t (a ++ b))) k ∙ ap (take n) (drop-append-add a b (p - length a)))

-- a part of a part
pub get_window : (l : List Bool) (f m p n : ℕ) → 0 < n → p + n ≤ m → get_answer (part l f m) p n ≡ get_answer l (f + p) n
get_window l f m p n z h =
    let e : length (part l f m) ≡ min m (length l - f) = rw (length-take, length-drop) in
    get_same (part l f m) l p (f + p) n (λ k. omega arith) (λ k. omega arith) (part-part l f m p n h)

-- what an `Ok` tells of a place
pub placed : (size p n : ℕ) (u : Unit {0}) → Ok u ≡ place_answer size p n → (n ≤ widest) × (p + n ≤ size)
placed size p n u e = grind (arith, nat_tests)

-- what an `Ok` tells of an end
pub ended : (size p n : ℕ) (u : Unit {0}) → Ok u ≡ end_answer size p n → p + n ≤ size
ended size p n u e = grind (arith, nat_tests)

-- what an `Ok` tells of a place in two lists, one after the other
pub placed_joined : (a b : List Bool) (size p n : ℕ) (u : Unit {0}) → size ≡ length (limited (a ++ b)) → Ok u ≡ place_answer size p n → (n ≤ widest) × (p + n ≤ longest) × (p + n ≤ length a + length b)
placed_joined a b size p n u e h =
    let at = placed size p n u h in
    let all : size ≡ min longest (length a + length b) = e ∙ rw (length-limited, length-append) in
    (at.0, omega arith, omega arith)
