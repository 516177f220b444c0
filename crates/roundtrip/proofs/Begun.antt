-- Bits that begin with what was written, and the guess.
use Rattle.std.proofs.Common.{◌≡◌, ℕ, zero, suc, ◌+◌, ◌-◌, ◌<◌, ◌≤◌, Bool, false, ltb, List, [], ◌∷◌, ◌++◌, length, get_or, drop, replicate, sym, refl, ap, ◌∙◌, subst, append_assoc, arith, ltb→lt, nltb→le, length-append, length-drop, length-take, get_or-drop, get_or-take, get_or-append-add}
use lib.ListN.{length-replicate, get_or-replicate, get_or-append}
use Rattle.rules.specs.declared.items.Item.{Item}
use Rattle.table.specs.Description.{Description}
use Rattle.roundtrip.specs.Own.{own_bits, end_of, pending}
use Rattle.roundtrip.specs.Standing.{Zeros, Has, Fits}
use Rattle.rules.specs.Growth.{Begins}
use Rattle.rules.proofs.Booleans.{decide}

has_shift : (b : Bool) (B : List Bool) (p : ℕ) (xs : List Bool) → Has B p xs → Has (b ∷ B) (suc p) xs
has_shift b B p [] h = tt
has_shift b B p (x ∷ xs) h = (h.0, has_shift b B (suc p) xs h.1)

has_here : (xs zs : List Bool) → Has (xs ++ zs) 0 xs
has_here [] zs = tt
has_here (x ∷ xs) zs = (refl, has_shift x (xs ++ zs) 0 xs (has_here xs zs))

pub has_at : (w xs zs : List Bool) → Has (w ++ (xs ++ zs)) (length w) xs
has_at [] xs zs = has_here xs zs
has_at (b ∷ w) xs zs = has_shift b (w ++ (xs ++ zs)) (length w) xs (has_at w xs zs)

pub zeros_of : (B : List Bool) (n p : ℕ) → Has B p (replicate n false) → Zeros B p (p + n)
zeros_of B zero p h k u v = let z : ⊥ = omega arith in absurd z
zeros_of B (suc n) p h k u v =
    decide (ltb p k)
    (λ t. zeros_of B n (suc p) h.1 k (ltb→lt p k t) (omega arith))
    (λ t. let l = nltb→le p k t in let e : p ≡ k = omega arith in subst (λ z. get_or B z false ≡ false) e h.0)

-- bits agree from a place on
pub has_agree : (B C : List Bool) (xs : List Bool) (p : ℕ) → ((k : ℕ) → p ≤ k → k < p + length xs → get_or C k false ≡ get_or B k false) → Has B p xs → Has C p xs
has_agree B C [] p e h = tt
has_agree B C (x ∷ xs) p e h =
    (e p (omega arith) (omega arith) ∙ h.0, has_agree B C xs (suc p) (λ k u v. e k (omega arith) (omega arith)) h.1)

-- bits that begin with what was written and appended have it
pub appended-fits : (d : Description) (w : List Bool) (i : Item) (B : List Bool) → length w ≤ i.place →
    Begins (w ++ (replicate (i.place - length w) false ++ own_bits d i)) B → Begins w B × Fits d (length w) i B
appended-fits d w i B l (zs, e) =
    let n = i.place - length w in
    let own = own_bits d i in
    let e₁ : B ≡ w ++ (replicate n false ++ (own ++ zs)) = e ∙ append_assoc w (replicate n false ++ own) zs ∙ ap (λ x. w ++ x) (append_assoc (replicate n false) own zs) in
    let e₂ : B ≡ (w ++ replicate n false) ++ (own ++ zs) = e₁ ∙ sym (append_assoc w (replicate n false) (own ++ zs)) in
    let le = length-append w (replicate n false) in
    let lr = length-replicate n false in
    let at : length (w ++ replicate n false) ≡ i.place = omega arith in
    let to : length w + n ≡ i.place = omega arith in (
      (replicate n false ++ (own ++ zs), e₁),
      (
        subst (λ q. Zeros B (length w) q) to
            (zeros_of B n (length w) (subst (λ X. Has X (length w) (replicate n false)) (sym e₁) (has_at w (replicate n false) (own ++ zs)))),
        subst (λ q. Has B q own) at (subst (λ X. Has X (length (w ++ replicate n false)) own) (sym e₂) (has_at (w ++ replicate n false) own zs)),
      ),
    )

-- the guess
pub pending_long : (d : Description) (L : ℕ) (i : Item) → length (pending d L i) ≡ L
unfolding pending
pending_long d L i =
    let xs = replicate i.place false ++ (own_bits d i ++ replicate L false) in
    let a = length-take L xs in
    let b = length-append (replicate i.place false) (own_bits d i ++ replicate L false) in
    let c = length-append (own_bits d i) (replicate L false) in
    let e = length-replicate L false in
    omega arith

pending_raw : (d : Description) (L : ℕ) (i : Item) (k : ℕ) → k < L → get_or (pending d L i) k false ≡ get_or (replicate i.place false ++ (own_bits d i ++ replicate L false)) k false
unfolding pending
pending_raw d L i k l = get_or-take L _ k false l

pub pending-fits : (d : Description) (L : ℕ) (i : Item) (p : ℕ) → end_of d i ≤ L → Fits d p i (pending d L i)
pending-fits d L i p l = (
  (λ k u v. pending_raw d L i k (omega arith) ∙
      get_or-append (replicate i.place false) (own_bits d i ++ replicate L false) false k (let e = length-replicate i.place false in omega arith) ∙
      get_or-replicate i.place k false false v),
  has_agree (replicate i.place false ++ (own_bits d i ++ replicate L false)) (pending d L i) (own_bits d i) i.place
      (λ k u v. pending_raw d L i k (omega arith))
      (subst (λ q. Has (replicate i.place false ++ (own_bits d i ++ replicate L false)) q (own_bits d i)) (length-replicate i.place false)
      (has_at (replicate i.place false) (own_bits d i) (replicate L false))),
)

-- bits after those written
pub overlay_at : (w C : List Bool) (k : ℕ) → length w ≤ k → get_or (w ++ drop (length w) C) k false ≡ get_or C k false
overlay_at w C k l =
    let e : length w + (k - length w) ≡ k = omega arith in
    subst (λ z. get_or (w ++ drop (length w) C) z false ≡ get_or C z false) e
    (get_or-append-add w (drop (length w) C) (k - length w) false ∙ get_or-drop (length w) C (k - length w) false)

pub overlay_long : (w C : List Bool) → length w ≤ length C → length (w ++ drop (length w) C) ≡ length C
overlay_long w C l = let a = length-append w (drop (length w) C) in let b = length-drop (length w) C in omega arith

pub overlay_fits : (d : Description) (w C : List Bool) (i : Item) → length w ≤ i.place → Fits d (length w) i C → Fits d (length w) i (w ++ drop (length w) C)
overlay_fits d w C i l f =
    ((λ k u v. overlay_at w C k u ∙ f.0 k u v), has_agree C (w ++ drop (length w) C) (own_bits d i) i.place (λ k u v. overlay_at w C k (omega arith)) f.1)

pub zeros_after : (w : List Bool) (n q : ℕ) → q ≤ length w + n → Zeros (w ++ replicate n false) (length w) q
zeros_after w n q l k u v =
    let e : length w + (k - length w) ≡ k = omega arith in
    subst (λ z. get_or (w ++ replicate n false) z false ≡ false) e
    (get_or-append-add w (replicate n false) (k - length w) false ∙ get_or-replicate n (k - length w) false false (omega arith))
