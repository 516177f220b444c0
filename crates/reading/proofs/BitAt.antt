-- A bit of a source.
use Rattle.std.proofs.Common.{◌≡◌, ℕ, zero, suc, ◌+◌, ◌-◌, ◌<◌, ◌≤◌, Bool, true, false, cond, eqb, List, [], ◌∷◌, length, get_or, take, Ok, sym, refl, ap, ◌∙◌, arith, drop-cons}
use Rattle.std.proofs.lemmas.List.{get_or_past}
use Rattle.bits.specs.Bits.{number}
use Rattle.bits.specs.Get.{get_answer}
use Rattle.bits.proofs.Gets.{answered}
use Rattle.reading.specs.Positions.{size_length}

-- there is none past the end
pub bit_past : (l : List Bool) (p : ℕ) → length l ≤ p → false ≡ get_or l p false
bit_past l p h = sym (get_or_past l p false h)

one_bit : (b : Bool) → eqb (number (b ∷ [])) 1 ≡ b
unfolding number
one_bit true = refl
one_bit false = refl

-- the number of one bit tells the bit
pub bit_got : (l : List Bool) (p v : ℕ) → p < length l → Ok v ≡ get_answer l p 1 → eqb v 1 ≡ get_or l p false
bit_got l p v h e =
    let is = (answered l p 1 v e).2 in
    ap (λ n. eqb n 1) (is ∙ ap (λ (xs : List Bool). number (take 1 xs)) (drop-cons l p false h)) ∙ one_bit (get_or l p false)

-- a size by its first byte
pub size_none : (l : List Bool) (b p : ℕ) → b ≡ 0 → 0 ≡ size_length l b p
unfolding size_length
size_none l b p z = sym (ap (λ n. size_length l n p) z)

pub size_last : (l : List Bool) (b p : ℕ) → 0 < b → get_or l p false ≡ false → 8 ≡ size_length l b p
unfolding size_length
size_last l zero p h e = absurd (omega arith)
size_last l (suc b) p h e = sym (ap (λ (t : Bool). 8 + cond t (size_length l b (p + 8)) 0) e)

pub size_more : (l : List Bool) (b p : ℕ) → 0 < b → get_or l p false ≡ true → 8 + size_length l (b - 1) (p + 8) ≡ size_length l b p
unfolding size_length
size_more l zero p h e = absurd (omega arith)
size_more l (suc b) p h e =
    let z : suc b - 1 ≡ b = omega arith in
    ap (λ n. 8 + size_length l n (p + 8)) z ∙ sym (ap (λ (t : Bool). 8 + cond t (size_length l b (p + 8)) 0) e)
