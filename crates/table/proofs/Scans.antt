-- The steps of a search and of a count.
use Rattle.std.proofs.Common.{◌≡◌, ℕ, zero, suc, ◌+◌, ◌-◌, ◌<◌, ◌≤◌, Bool, true, false, cond, Some, None, Option, sym, refl, ap, ◌∙◌, inl, inr, add-zero, add-suc, add-one, arith}
use Rattle.std.proofs.lemmas.Bool.Decides.{leb_tells}
use Rattle.table.specs.First.{or_else, when, is_some, first_upto, some_upto, count_upto}

first_more : (p : ℕ → Bool) (i : ℕ) → first_upto p (i + 1) ≡ or_else (first_upto p i) (when (p (i + 1)) (i + 1))
unfolding first_upto
first_more p i = rw add-one

stays : (p : ℕ → Bool) (n x : ℕ) → first_upto p n ≡ Some x → (k : ℕ) → first_upto p (n + k) ≡ Some x
unfolding first_upto
stays p n x e zero = rw add-zero e
stays p n x e (suc k) = rw (add-suc, stays p n x e k)

-- a search that found nothing so far, and does not find the next number either
pub first_passed : (p : ℕ → Bool) (i : ℕ) → first_upto p i ≡ None → false ≡ p (i + 1) → first_upto p (i + 1) ≡ None
first_passed p i e h = first_more p i ∙ rw (e, ← h)

pub first_found : (p : ℕ → Bool) (i count : ℕ) → i < count → first_upto p i ≡ None → true ≡ p (i + 1) → Some (i + 1) ≡ first_upto p count
first_found p i count l e h =
    let t : first_upto p (i + 1) ≡ Some (i + 1) = first_more p i ∙ rw (e, ← h) in
    let s : (i + 1) + (count - (i + 1)) ≡ count = omega arith in
    sym (ap (first_upto p) (sym s) ∙ stays p (i + 1) (i + 1) t (count - (i + 1)))

pub count_none : (p : ℕ → Bool) → 0 ≡ count_upto p 0
unfolding count_upto
count_none p = refl

pub count_more : (p : ℕ → Bool) (i : ℕ) → count_upto p (i + 1) ≡ count_upto p i + cond (p (i + 1)) 1 0
unfolding count_upto
count_more p i = rw add-one

-- Where none passes, and where two tests agree.
none_joined : (o : Option ℕ) (b : Bool) (m : ℕ) → o ≡ None → b ≡ false → or_else o (when b m) ≡ None
none_joined o b m e f = rw (e, f)

pub none_pass : (p : ℕ → Bool) (n : ℕ) → ((k : ℕ) → 0 < k → k ≤ n → p k ≡ false) → first_upto p n ≡ None
unfolding first_upto
none_pass p zero h = refl
none_pass p (suc n) h =
    none_joined (first_upto p n) (p (suc n)) (suc n) (none_pass p n (λ k a b. h k a (omega arith))) (h (suc n) (omega arith) (omega arith))

pub first_agree : (p q : ℕ → Bool) (n : ℕ) → ((k : ℕ) → 0 < k → k ≤ n → p k ≡ q k) → first_upto p n ≡ first_upto q n
unfolding first_upto
first_agree p q zero h = refl
first_agree p q (suc n) h =
    rw (first_agree p q n (λ k a b. h k a (omega arith)), h (suc n) (omega arith) (omega arith))

none_each : (o : Option ℕ) (b : Bool) (m : ℕ) → is_some (or_else o (when b m)) ≡ false → (is_some o ≡ false) × (b ≡ false)
none_each (Some x) b m e = let z : ◌≡◌ {A = ℕ} 0 1 = cc in absurd (omega arith)
none_each None true m e = let z : ◌≡◌ {A = ℕ} 0 1 = cc in absurd (omega arith)
none_each None false m e = (refl, refl)

pub no_some : (p : ℕ → Bool) (n : ℕ) → some_upto p n ≡ false → (u : ℕ) → 0 < u → u ≤ n → p u ≡ false
unfolding first_upto
no_some p zero e u a b = absurd (omega arith)
no_some p (suc n) e u a b =
    let k = none_each (first_upto p n) (p (suc n)) (suc n) e in
    elim (leb_tells u n) [
      | inl t ↦ no_some p n k.0 u a t.1
      | inr t ↦ let q : u ≡ suc n = omega (arith, t.1) in ap p q ∙ k.1
    ]
