-- The first multiple at or after a place.
use Rattle.std.proofs.Common.{◌≡◌, ℕ, ◌+◌, ◌-◌, ◌*◌, ◌/◌, ◌%◌, ◌<◌, cond, sym, ap, ◌∙◌, inl, inr, arith, mod-lt, div-add-mod', mod-eq_of_lt, add-mul, one-mul, ne_eqb}
use Rattle.std.proofs.lemmas.Bool.Decides.{leb_tells}
use Rattle.std.proofs.Math.Nat.{mod_self}
use Rattle.std.proofs.lemmas.Nat.{div-mul-add}
use Rattle.std.specs.Int.{next_multiple_of}
use Rattle.rules.specs.Steps.{next_multiple}

-- a place that is a multiple of a number above 0
exact : (of p : ℕ) → 0 < of → p % of ≡ 0 → next_multiple_of p of ≡ (p + (of - 1)) / of * of
exact of p some e =
    let all = div-add-mod' p of in
    let whole : of - p % of ≡ of = omega arith in
    let none : (of - p % of) % of ≡ 0 = ap (λ n. n % of) whole ∙ mod_self of in
    let past : p / of * of + (of - 1) ≡ p + (of - 1) = omega arith in
    let same : (p + (of - 1)) / of ≡ p / of = ap (λ n. n / of) (sym past) ∙ div-mul-add (p / of) of (of - 1) (omega arith) in
    rw (none, same) (omega arith)

-- a place between two multiples
between : (of p : ℕ) → 0 < of → 0 < p % of → next_multiple_of p of ≡ (p + (of - 1)) / of * of
between of p some e =
    let all = div-add-mod' p of in
    let less : p % of < of = mod-lt p some in
    let left : (of - p % of) % of ≡ of - p % of = mod-eq_of_lt (omega arith) in
    let more : (p / of + 1) * of ≡ p / of * of + of = add-mul (p / of) 1 of ∙ ap (λ n. p / of * of + n) (one-mul of) in
    let past : (p / of + 1) * of + (p % of - 1) ≡ p + (of - 1) = omega arith in
    let next : (p + (of - 1)) / of ≡ p / of + 1 = ap (λ n. n / of) (sym past) ∙ div-mul-add (p / of + 1) of (p % of - 1) (omega arith) in
    rw (left, next, more) (omega arith)

pub first_multiple : (of p : ℕ) → 0 < of → next_multiple_of p of ≡ next_multiple of p
first_multiple of p some =
    let h : next_multiple_of p of ≡ (p + (of - 1)) / of * of =
    elim (leb_tells (p % of) 0) [
      | inl t ↦ exact of p some (omega (arith, t.1))
      | inr t ↦ between of p some (omega (arith, t.1))
    ] in
    h ∙ ap (λ b. cond b p ((p + (of - 1)) / of * of)) (sym (ne_eqb of 0 (λ e. omega arith)))

-- it is less than the number away
pub near : (of p : ℕ) → 0 < of → next_multiple_of p of < p + of
near of p some =
    let l : (of - p % of) % of < of = mod-lt (of - p % of) some in
    omega arith
