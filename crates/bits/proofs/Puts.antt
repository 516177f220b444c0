-- Storing bits: into a list, into one byte, and byte by byte.
use Rattle.std.proofs.Common.{◌≡◌, ℕ, zero, suc, ◌+◌, ◌-◌, ◌*◌, ◌/◌, ◌%◌, ◌^◌, ◌<◌, ◌≤◌, min, Bool, eqb, List, ◌∷◌, ◌++◌, length, get_or, take, drop, set, sym, refl, ap, ◌∙◌, subst, add-zero, add_assoc, mul_assoc, add-mul, add_comm, suc-add, pow-suc, zero-add, arith, drop-cons}
use native.Mathlib.Nat.{mul-add-div_right, mul-add-mod_self_right}
use lib.Arith.{digits_lt}
use lib.Bits.{bit_and}
use lib.Seq.{drop-append-add}
use Rattle.std.proofs.lemmas.Nat.{pow_pos, pow-add, shr-shr, shr_below, shr_high, mod_below, div-add-mod', one_shl, and_mask, shl_whole, shr_split, mod-pow-add}
use Rattle.std.proofs.lemmas.List.{length-append, append_assoc, take-append-drop, drop-drop, take_at, drop_at, set_split, length-take}
use Rattle.bits.specs.Bits.{bits_of, bits_all, length-bits_of, length-bits_all}
use Rattle.bits.specs.Put.{with_bits, with_piece}
use Rattle.bits.proofs.Numbers.{bits_all-append}

-- the bits of a number, in two pieces
pub bits_of_split : (m k v : ℕ) → bits_of (m + k) v ≡ bits_of m (v / 2 ^ k) ++ bits_of k v
unfolding bits_of
bits_of_split zero k v = rw zero-add
bits_of_split (suc m) k v = rw (suc-add m k, bits_of_split m k v, shr-shr v k m, add_comm k m)

-- what lies above does not show
pub bits_of_add : (w d x y : ℕ) → bits_of w (x * 2 ^ (w + d) + y) ≡ bits_of w y
unfolding bits_of
bits_of_add zero d x y = refl
bits_of_add (suc w) d x y =
    let s : suc w + d ≡ w + suc d = omega arith in
    let t : suc w + d ≡ suc d + w = omega arith in
    let pw : 2 ^ (suc w + d) ≡ 2 ^ d * 2 * 2 ^ w = ap (λ t. 2 ^ t) t ∙ (pow-add 2 (suc d) w ∙ ap (λ t. t * 2 ^ w) (pow-suc 2 d)) in
    let q : x * 2 ^ (suc w + d) ≡ x * 2 ^ d * 2 * 2 ^ w = ap (λ t. x * t) pw ∙ (sym (mul_assoc x (2 ^ d * 2) (2 ^ w)) ∙ ap (λ t. t * 2 ^ w) (sym (mul_assoc x (2 ^ d) 2))) in
    let head : (x * 2 ^ (suc w + d) + y) / 2 ^ w % 2 ≡ y / 2 ^ w % 2 =
    ap (λ t. (t + y) / 2 ^ w % 2) q ∙ (ap (λ t. t % 2) (mul-add-div_right (pow_pos w) (x * 2 ^ d * 2) y) ∙ mul-add-mod_self_right (x * 2 ^ d) 2 (y / 2 ^ w)) in
    let rest : bits_of w (x * 2 ^ (suc w + d) + y) ≡ bits_of w y = ap (λ t. bits_of w (x * 2 ^ t + y)) s ∙ bits_of_add w (suc d) x y in
    ap (λ t. eqb t 1 ∷ bits_of w (x * 2 ^ (suc w + d) + y)) head ∙ ap (λ t. eqb (y / 2 ^ w % 2) 1 ∷ t) rest

pub bits_of-high : (w x y : ℕ) → bits_of w (x * 2 ^ w + y) ≡ bits_of w y
bits_of-high w x y = ap (λ t. bits_of w (x * 2 ^ t + y)) (sym (add-zero w)) ∙ bits_of_add w 0 x y

pub bits_of_mod : (w x : ℕ) → bits_of w (x % 2 ^ w) ≡ bits_of w x
bits_of_mod w x = sym (bits_of-high w (x / 2 ^ w) (x % 2 ^ w)) ∙ ap (bits_of w) (div-add-mod' x (2 ^ w))

-- a list in three parts, the middle one replaced
pub put_mid : (p m r : List Bool) (q k v : ℕ) → length p ≡ q → length m ≡ k → with_bits (p ++ (m ++ r)) q k v ≡ p ++ (bits_of k v ++ r)
unfolding with_bits
put_mid p m r q k v f e =
    rw (take_at p (m ++ r) q f, ← f, drop-append-add p (m ++ r) k, drop_at m r k e)

-- one piece after the other
pub put_more : (l : List Bool) (p m k v : ℕ) → p + m + k ≤ length l → with_bits (with_bits l p m (v / 2 ^ k)) (p + m) k v ≡ with_bits l p (m + k) v
unfolding with_bits
put_more l p m k v h =
    let a = take p l in
    let x = bits_of m (v / 2 ^ k) in
    let r = drop (p + m) l in
    let g : a ++ (x ++ r) ≡ (a ++ x) ++ r = sym (append_assoc a x r) in
    let cut : min p (length l) ≡ p = omega arith in
    let len : length (a ++ x) ≡ p + m = rw (length-append, length-bits_of, length-take, cut) in
    let t : take (p + m) (a ++ (x ++ r)) ≡ a ++ x = ap (take (p + m)) g ∙ take_at (a ++ x) r (p + m) len in
    let d : drop (p + m + k) (a ++ (x ++ r)) ≡ drop (p + (m + k)) l =
    ap (drop (p + m + k)) g ∙ (sym (drop-drop k (p + m) ((a ++ x) ++ r)) ∙ (ap (drop k) (drop_at (a ++ x) r (p + m) len) ∙ (drop-drop k (p + m) l ∙ ap (λ t. drop t l) (add_assoc p m k)))) in
    rw (t, d, bits_of_split m k v) (append_assoc a x (bits_of k v ++ drop (p + (m + k)) l) ∙ ap (λ z. a ++ z) (sym (append_assoc x (bits_of k v) (drop (p + (m + k)) l))))

pub put_none : (l : List Bool) (p v : ℕ) → with_bits l p 0 v ≡ l
unfolding with_bits bits_of
put_none l p v = rw add-zero (take-append-drop p l)

-- a byte in three parts
byte_parts : (from m tail c : ℕ) → from + (m + tail) ≡ 8 → bits_of 8 c ≡ bits_of from (c / 2 ^ (m + tail)) ++ (bits_of m (c / 2 ^ tail) ++ bits_of tail c)
byte_parts from m tail c e =
    ap (λ t. bits_of t c) (sym e) ∙ (bits_of_split from (m + tail) c ∙ ap (λ t. bits_of from (c / 2 ^ (m + tail)) ++ t) (bits_of_split m tail c))

low_lt : (b m tail x : ℕ) → x % 2 ^ m * 2 ^ tail + b % 2 ^ tail < 2 ^ (m + tail)
low_lt b m tail x = rw pow-add (digits_lt (mod_below x (2 ^ m) (pow_pos m)) (mod_below b (2 ^ tail) (pow_pos tail)))

piece_parts : (from m tail b x : ℕ) → from + (m + tail) ≡ 8 → bits_of 8 (with_piece b m tail x) ≡ bits_of from (b / 2 ^ (m + tail)) ++ (bits_of m x ++ bits_of tail b)
piece_parts from m tail b x e =
    let h = b / 2 ^ (m + tail) in
    let low = b % 2 ^ tail in
    let g : with_piece b m tail x ≡ (h * 2 ^ m + x % 2 ^ m) * 2 ^ tail + low = simp (pow-add, add-mul, mul_assoc, add_assoc) in
    let first : with_piece b m tail x / 2 ^ (m + tail) ≡ h = shr_high h (m + tail) (x % 2 ^ m * 2 ^ tail + low) (low_lt b m tail x) in
    let next : with_piece b m tail x / 2 ^ tail ≡ h * 2 ^ m + x % 2 ^ m = ap (λ t. t / 2 ^ tail) g ∙ shr_high (h * 2 ^ m + x % 2 ^ m) tail low (mod_below b (2 ^ tail) (pow_pos tail)) in
    let mid : bits_of m (with_piece b m tail x / 2 ^ tail) ≡ bits_of m x = ap (bits_of m) next ∙ (bits_of-high m h (x % 2 ^ m) ∙ bits_of_mod m x) in
    let last : bits_of tail (with_piece b m tail x) ≡ bits_of tail b = ap (bits_of tail) g ∙ (bits_of-high tail (h * 2 ^ m + x % 2 ^ m) low ∙ bits_of_mod tail b) in
    byte_parts from m tail (with_piece b m tail x) e ∙ (ap (λ t. bits_of from t ++ (bits_of m (with_piece b m tail x / 2 ^ tail) ++ bits_of tail (with_piece b m tail x))) first ∙ (ap (λ t. bits_of from h ++ (t ++ bits_of tail (with_piece b m tail x))) mid ∙ ap (λ t. bits_of from h ++ (bits_of m x ++ t)) last))

-- one piece in one byte
pub put_piece : (xs : List ℕ) (i from m tail x : ℕ) → i < length xs → from + (m + tail) ≡ 8 → bits_all 8 (set xs i (with_piece (get_or xs i 0) m tail x)) ≡ with_bits (bits_all 8 xs) (i * 8 + from) m x
put_piece xs i from m tail x h e =
    let b = get_or xs i 0 in
    let a = bits_all 8 (take i xs) in
    let f = bits_of from (b / 2 ^ (m + tail)) in
    let o = bits_of m (b / 2 ^ tail) in
    let t = bits_of tail b in
    let z = bits_all 8 (drop (suc i) xs) in
    let whole : (c : ℕ) → bits_all 8 (take i xs ++ (c ∷ drop (suc i) xs)) ≡ a ++ (bits_of 8 c ++ z) = λ c. bits_all-append 8 (take i xs) (c ∷ drop (suc i) xs) in
    let old : bits_all 8 xs ≡ (a ++ f) ++ (o ++ (t ++ z)) =
    ap (bits_all 8) (sym (take-append-drop i xs) ∙ ap (λ t. take i xs ++ t) (drop-cons xs i 0 h)) ∙ (whole b ∙ (ap (λ t. a ++ (t ++ z)) (byte_parts from m tail b e) ∙ simp append_assoc)) in
    let new : bits_all 8 (set xs i (with_piece b m tail x)) ≡ (a ++ f) ++ (bits_of m x ++ (t ++ z)) =
    ap (bits_all 8) (set_split xs i (with_piece b m tail x) h) ∙ (whole (with_piece b m tail x) ∙ (ap (λ t. a ++ (t ++ z)) (piece_parts from m tail b x e) ∙ simp append_assoc)) in
    let cut : min i (length xs) ≡ i = omega arith in
    let len : length (a ++ f) ≡ i * 8 + from = rw (length-append, length-bits_all, length-bits_of, length-take, cut) in
    new ∙ sym (ap (λ l. with_bits l (i * 8 + from) m x) old ∙ put_mid (a ++ f) o (t ++ z) (i * 8 + from) m x len (length-bits_of m (b / 2 ^ tail)))

pub with_piece_lt : (b m tail x : ℕ) → b < 256 → m + tail ≤ 8 → with_piece b m tail x < 256
with_piece_lt b m tail x h k =
    let e : 8 - (m + tail) + (m + tail) ≡ 8 = omega arith in
    let w : 2 ^ (8 - (m + tail)) * 2 ^ (m + tail) ≡ 256 = sym (pow-add 2 (8 - (m + tail)) (m + tail)) ∙ ap (λ t. 2 ^ t) e in
    let top : b / 2 ^ (m + tail) < 2 ^ (8 - (m + tail)) = shr_below b (8 - (m + tail)) (m + tail) (subst (λ t. b < 2 ^ t) (sym e) h) in
    subst (λ t. with_piece b m tail x < t) w (digits_lt top (low_lt b m tail x))

-- the m lowest bits of a number, moved up, as shifts and masks of 64 bits make them
pub masked : (y m tail : ℕ) → m + tail ≤ 8 → (bit_and y ((1 * 2 ^ m) % 2 ^ 64 - 1) * 2 ^ tail) % 2 ^ 64 ≡ y % 2 ^ m * 2 ^ tail
masked y m tail k =
    let middle : y % 2 ^ m < 2 ^ m = mod_below y (2 ^ m) (pow_pos m) in
    rw (one_shl m 64 (omega arith), and_mask y m) (shl_whole (y % 2 ^ m) m tail 64 middle (omega arith))

-- a byte less its own bits in the middle, and with others there
pub own_le : (b m tail : ℕ) → b / 2 ^ tail % 2 ^ m * 2 ^ tail ≤ b
own_le b m tail = omega (arith, shr_split b (m + tail), mod-pow-add b m tail)

pub swapped : (b m tail x : ℕ) → b - b / 2 ^ tail % 2 ^ m * 2 ^ tail + x % 2 ^ m * 2 ^ tail ≡ with_piece b m tail x
swapped b m tail x = omega (arith, shr_split b (m + tail), mod-pow-add b m tail)
