-- Bits and the numbers that they write.
use Rattle.std.proofs.Common.{◌≡◌, ℕ, zero, suc, ◌+◌, ◌-◌, ◌*◌, ◌^◌, ◌<◌, ◌≤◌, Bool, true, false, cond, ◌&&◌, T, ltb, leb, List, [], ◌∷◌, ◌++◌, length, take, drop, ℤ, pos, negsuc, ◌-ℤ◌, refl, ap, ◌∙◌, subst, arith, le→leb, ltb→lt, leb→le, nltb→le, drop_of_length-le, drop-cons}
use Rattle.std.proofs.Math.Facts.{and_yes, yes_and}
use Rattle.rules.proofs.Facts.{minus}
use Rattle.rules.proofs.Booleans.{decide}
use Rattle.bits.specs.Bits.{bit_value, number, part}
use Rattle.rules.specs.Steps.{signed}
use Rattle.rules.specs.Values.{same}
use Rattle.roundtrip.specs.Own.{complement}
use Rattle.roundtrip.specs.Standing.{Zeros, Has}

-- bits that stand at a place are what is taken there
pub has_part : (B : List Bool) (p : ℕ) (xs : List Bool) → p + length xs ≤ length B → Has B p xs → part B p (length xs) ≡ xs
has_part B p [] l h = refl
has_part B p (x ∷ xs) l h =
    ap (take (suc (length xs))) (drop-cons B p false (omega arith)) ∙
    (λ i. h.0 i ∷ has_part B (suc p) xs (omega arith) h.1 i)

pub has_append : (B : List Bool) (p : ℕ) (xs ys : List Bool) → Has B p (xs ++ ys) → Has B p xs × Has B (p + length xs) ys
has_append B p [] ys h = (tt, subst (λ q. Has B q ys) (omega arith) h)
has_append B p (x ∷ xs) ys h =
    let r = has_append B (suc p) xs ys h.1 in
    ((h.0, r.0), subst (λ q. Has B q ys) (omega arith) r.1)

pub zeros_number : (B : List Bool) (n p : ℕ) → Zeros B p (p + n) → number (part B p n) ≡ 0
unfolding number
zeros_number B zero p z = refl
zeros_number B (suc n) p z =
    decide (ltb p (length B))
    (λ t. ap (λ l. number (take (suc n) l)) (drop-cons B p false (ltb→lt p (length B) t)) ∙
    (λ i. bit_value (z p (omega arith) (omega arith) i) * 2 ^ length (take n (drop (suc p) B)) + zeros_number B n (suc p) (λ k u v. z k (omega arith) (omega arith)) i) ∙ omega arith)
    (λ t. ap (λ l. number (take (suc n) l)) (drop_of_length-le B (nltb→le p (length B) t)))

-- two's complement
pub complement_minus : (n raw : ℕ) → raw < 2 ^ n → complement n (pos raw -ℤ pos (2 ^ n)) ≡ raw
complement_minus n raw h = ap (complement n) (minus raw (2 ^ n) h) ∙ omega arith

pub complement-value : (n raw : ℕ) (sign : Bool) → raw < 2 ^ n → complement n (cond sign (signed n raw) (pos raw)) ≡ raw
complement-value n raw false h = refl
complement-value n raw true h = go (ltb 0 n && leb (2 ^ (n - 1)) raw)
  where
    go : (b : Bool) → complement n (cond b (pos raw -ℤ pos (2 ^ n)) (pos raw)) ≡ raw
    go true = complement_minus n raw h
    go false = refl

pub same_eq : (x y : ℤ) → T (same x y) → x ≡ y
same_eq (pos a) (pos b) t = let h = and_yes (leb a b) (leb b a) t in let u = leb→le a b h.0 in let v = leb→le b a h.1 in ap pos (omega arith)
same_eq (pos a) (negsuc b) t = absurd t
same_eq (negsuc a) (pos b) t = absurd t
same_eq (negsuc a) (negsuc b) t = let h = and_yes (leb b a) (leb a b) t in let u = leb→le b a h.0 in let v = leb→le a b h.1 in ap negsuc (omega arith)

pub same_refl : (x : ℤ) → T (same x x)
same_refl (pos a) = let t = le→leb a a (omega arith) in yes_and (leb a a) (leb a a) t t
same_refl (negsuc a) = let t = le→leb a a (omega arith) in yes_and (leb a a) (leb a a) t t
