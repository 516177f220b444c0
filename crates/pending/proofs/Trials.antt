-- The bits of a trial: how many there are, the number that some of them write, and that they are an item's guess.
use Rattle.std.proofs.Common.{◌≡◌, ℕ, zero, suc, ◌+◌, ◌-◌, ◌*◌, ◌/◌, ◌%◌, ◌^◌, ◌<◌, ◌≤◌, min, Bool, false, List, ◌++◌, length, take, replicate, Ok, sym, refl, ap, ◌∙◌, ⊎_elim, add-zero, mul_assoc, zero-add, mul-one, div-one, arith, pow_mono}
use Rattle.std.proofs.lemmas.Nat.{pow-add, pow_pos, shl-shr, shr-shr, mod-pow-add, mod_low, mod_below, shr_below}
use Rattle.std.proofs.lemmas.List.{length-append, length-replicate, length-take, append_assoc, drop-append-le, drop-replicate, take_at}
use Rattle.std.proofs.lemmas.Bool.{cases_lt}
use Rattle.bits.specs.Bits.{number, part, bits_of, limited, longest, length-bits_of, limited-whole}
use Rattle.bits.specs.Get.{widest, get_answer}
use Rattle.bits.proofs.Numbers.{number_append, number-part, number-bits_of, part-part}
use Rattle.bits.proofs.Gets.{got, get_limited}
use Rattle.rules.specs.declared.items.Item.{Item}
use Rattle.table.specs.Description.{Description}
use Rattle.roundtrip.specs.Own.{own_bits, end_of, pending}
use Rattle.roundtrip.specs.Writing.{appended}
use Rattle.pending.specs.Trial.{trial_bits}

-- a number in fewer bits, and then in fewer still
pub mod_mod : (x j k : ℕ) → k ≤ j → x % 2 ^ j % 2 ^ k ≡ x % 2 ^ k
mod_mod x j k h =
    let e : j - k + k ≡ j = omega arith in
    ap (λ t. x % 2 ^ t % 2 ^ k) (sym e) ∙ (ap (λ t. t % 2 ^ k) (mod-pow-add x (j - k) k) ∙ mod_low (x / 2 ^ k % 2 ^ (j - k)) k (x % 2 ^ k) (mod_below x (2 ^ k) (pow_pos k)))

-- a shift to the left and one to the right come to one shift
shift_both : (a j k : ℕ) → a * 2 ^ j / 2 ^ k ≡ a * 2 ^ (j - k) / 2 ^ (k - j)
shift_both a j k =
    ⊎_elim
    (λ (h : j < k).
    let e : k ≡ j + (k - j) = omega arith in
    let z : j - k ≡ 0 = omega arith in
    ap (λ t. a * 2 ^ j / 2 ^ t) e ∙ (sym (shr-shr (a * 2 ^ j) j (k - j)) ∙ (ap (λ t. t / 2 ^ (k - j)) (shl-shr a j ∙ sym (mul-one a)) ∙ ap (λ t. a * 2 ^ t / 2 ^ (k - j)) (sym z))))
    (λ (h : k ≤ j).
    let e : j ≡ j - k + k = omega arith in
    let z : k - j ≡ 0 = omega arith in
    ap (λ t. a * 2 ^ t / 2 ^ k) e ∙ (ap (λ t. t / 2 ^ k) (ap (λ t. a * t) (pow-add 2 (j - k) k) ∙ sym (mul_assoc a (2 ^ (j - k)) (2 ^ k))) ∙ (shl-shr (a * 2 ^ (j - k)) k ∙ (sym (div-one (a * 2 ^ (j - k))) ∙ ap (λ t. a * 2 ^ (j - k) / 2 ^ t) (sym z)))))
    (cases_lt j k)

-- a shift by 64 or more leaves nothing of a number of 64 bits
pub shift_out : (a q end : ℕ) → 64 ≤ q - end → 0 ≡ a * 2 ^ (q - end) / 2 ^ (end - q) % 2 ^ 64
shift_out a q end h =
    let e : q - end ≡ q - end - 64 + 64 = omega arith in
    let z : end - q ≡ 0 = omega arith in
    let high = a * 2 ^ (q - end - 64) in
    let m : a * 2 ^ (q - end) ≡ high * 2 ^ 64 + 0 = ap (λ t. a * 2 ^ t) e ∙ (ap (λ t. a * t) (pow-add 2 (q - end - 64) 64) ∙ (sym (mul_assoc a (2 ^ (q - end - 64)) (2 ^ 64)) ∙ sym (add-zero (high * 2 ^ 64)))) in
    sym (ap (λ t. a * 2 ^ (q - end) / 2 ^ t % 2 ^ 64) z ∙ (ap (λ t. t % 2 ^ 64) (div-one (a * 2 ^ (q - end)) ∙ m) ∙ mod_low high 64 0 (pow_pos 64)))

pub shift_off : (a q end : ℕ) → a < 2 ^ 64 → 64 ≤ end - q → 0 ≡ a * 2 ^ (q - end) / 2 ^ (end - q) % 2 ^ 64
shift_off a q end l h =
    let z : q - end ≡ 0 = omega arith in
    let one : a * 2 ^ (q - end) ≡ a = ap (λ t. a * 2 ^ t) z ∙ mul-one a in
    let m : 2 ^ 64 ≤ 2 ^ (0 + (end - q)) = pow_mono (let y : 64 ≤ 0 + (end - q) = omega arith in y) in
    let none : a / 2 ^ (end - q) < 2 ^ 0 = shr_below a 0 (end - q) (omega arith) in
    let zero : a / 2 ^ (end - q) ≡ 0 = omega arith in
    sym (ap (λ t. t / 2 ^ (end - q) % 2 ^ 64) one ∙ ap (λ t. t % 2 ^ 64) zero)

number_zeros : (n : ℕ) → number (replicate n false) ≡ 0
unfolding number
number_zeros zero = refl
number_zeros (suc n) = let e = number_zeros n in omega arith

module _ (L place w v : ℕ) where
  abbrev whole : List Bool
  whole = replicate place false ++ (bits_of w v ++ replicate L false)

  length_whole : length whole ≡ place + w + L
  length_whole = simp (length-append, length-replicate, length-bits_of) (omega arith)

  number_whole : number whole ≡ v % 2 ^ w * 2 ^ L
  number_whole =
      let e : number (replicate place false) ≡ 0 = number_zeros place in
      let f : number (replicate L false) ≡ 0 = number_zeros L in
      rw (number_append, number_append, e, f, number-bits_of, length-replicate) (omega arith)

  pub length_trial : length (trial_bits L place w v) ≡ L
  unfolding trial_bits
  length_trial = rw (length-take, length_whole) (omega arith)

  -- the bits up to place q, shifted down to the own bits' end or up from it
  pub number_trial : (p n : ℕ) → p + n ≤ L → number (part (trial_bits L place w v) p n) ≡ v % 2 ^ w * 2 ^ (p + n - (place + w)) / 2 ^ (place + w - (p + n)) % 2 ^ n
  unfolding trial_bits
  number_trial p n h =
      let k = place + w + L - (p + n) in
      let a : L - k ≡ p + n - (place + w) = omega arith in
      let b : k - L ≡ place + w - (p + n) = omega arith in
      ap number (part-part whole 0 L p n h ∙ ap (λ t. part whole t n) (zero-add p))
      ∙ number-part whole p n k (rw length_whole (omega arith))
      ∙ ap (λ t. t / 2 ^ k % 2 ^ n) number_whole
      ∙ ap (λ t. t % 2 ^ n) (shift_both (v % 2 ^ w) L k)
      ∙ ap (λ t. v % 2 ^ w * 2 ^ t / 2 ^ (k - L) % 2 ^ n) a
      ∙ ap (λ t. v % 2 ^ w * 2 ^ (p + n - (place + w)) / 2 ^ t % 2 ^ n) b

  pub trial_got : (p n r : ℕ) → n ≤ widest → p + n ≤ min longest L → r ≡ v % 2 ^ w * 2 ^ (p + n - (place + w)) / 2 ^ (place + w - (p + n)) % 2 ^ 64 % 2 ^ n →
      Ok r ≡ get_answer (limited (trial_bits L place w v)) p n
  trial_got p n r few h e =
      let A = v % 2 ^ w * 2 ^ (p + n - (place + w)) / 2 ^ (place + w - (p + n)) in
      got (trial_bits L place w v) p n r few (rw length_trial (omega arith)) (e ∙ (mod_mod A 64 n (omega arith) ∙ sym (number_trial p n (omega arith))))
      ∙ sym (get_limited (trial_bits L place w v) p n (omega arith))

-- The bits of a trial are the guess of an item that has those own bits there. This and the next are for the crate that
-- puts items, which stands above this one.
pub trial_pending : (d : Description) (i : Item) (L place w v : ℕ) → L ≤ longest → place ≡ i.place → bits_of w v ≡ own_bits d i →
    limited (trial_bits L place w v) ≡ pending d L i
unfolding trial_bits pending
trial_pending d i L place w v h e f =
    limited-whole (trial_bits L place w v) (rw (length_trial L place w v) h)
    ∙ ap (λ t. take L (replicate t false ++ (bits_of w v ++ replicate L false))) e
    ∙ ap (λ t. take L (replicate i.place false ++ (t ++ replicate L false))) f

-- from a place up to the item's end the guess has what putting the item appends
pub pending-part : (d : Description) (i : Item) (L p : ℕ) → p ≤ i.place → end_of d i ≤ L → part (pending d L i) p (end_of d i - p) ≡ appended d p i
unfolding pending
pending-part d i L p h k =
    let q = i.place in
    let own = own_bits d i in
    let rest = replicate L false in
    let n = end_of d i - p in
    let zeros = replicate (q - p) false in
    let long : length (replicate q false) ≡ q = length-replicate q false in
    let much : length (zeros ++ own) ≡ n = rw (length-append, length-replicate) (omega arith) in
    part-part (replicate q false ++ (own ++ rest)) 0 L p n (omega arith)
    ∙ ap (λ t. part (replicate q false ++ (own ++ rest)) t n) (zero-add p)
    ∙ ap (take n) (drop-append-le p (replicate q false) (own ++ rest) (omega arith) ∙ ap (λ t. t ++ (own ++ rest)) (drop-replicate p q false))
    ∙ ap (take n) (sym (append_assoc zeros own rest))
    ∙ take_at (zeros ++ own) rest n much
