-- What follows where no fault is found: no rule is broken, and a line is in one stretch.
use Rattle.std.proofs.Common.{◌≡◌, ℕ, zero, suc, ◌+◌, ◌<◌, ◌≤◌, Bool, true, false, cond, ◌&&◌, List, [], ◌∷◌, length, Some, None, Option, sym, refl, ap, ◌∙◌, subst, inl, inr, arith, eqb-true}
use Rattle.std.proofs.lemmas.Bool.Decides.{leb_tells}
use Rattle.std.proofs.lemmas.Bool.{cases_Bool, false≢true, not-false, or_parts}
use Rattle.records.specs.declared.faults.Cause.{Cause}
use Rattle.records.specs.declared.faults.Table.{Table}
use Rattle.records.specs.declared.faults.Fault.{Fault}
use Rattle.table.specs.Description.{Description, extension_at}
use Rattle.table.specs.First.{or_else, when, first_upto, count_upto}
use Rattle.blocks.specs.Stretches.{in_class, in_extension, in_one}
use Rattle.owners.specs.Lines.{class_of_line}
use Rattle.checked.specs.Law.{Rule, rules, Breaks, Says}
use Rattle.checked.specs.Faultless.{Unbroken, Faultless, FaultlessLaw}
use Rattle.checked.proofs.Firsts.{first_fault_law}

-- rule by rule
abbrev Held : List Rule → Type 0
Held [] = Unit {0}
Held (r ∷ rs) = ((n : ℕ) → r.names n → ⊥) × Held rs

held : (rs : List Rule) → ((cause : Cause) (table : Table) (n : ℕ) → Breaks rs cause table n → ⊥) → Held rs
held [] h = tt
held (r ∷ rs) h = ((λ n b. h r.cause r.table n (inl (refl, refl, b))), held rs (λ cause table n b. h cause table n (inr b)))

unbroken : (count : ℕ) (p : ℕ → Bool) → ((n : ℕ) → (0 < n) × (n ≤ count) × (p n ≡ true) → ⊥) → Unbroken count p
unbroken count p h n low high = elim (cases_Bool (p n)) [ inl e ↦ absurd (h n (low, high, e)) | inr e ↦ e ]

whole : (b : Bool) → ((n : ℕ) → (n ≡ 0) × (b ≡ true) → ⊥) → b ≡ false
whole true h = absurd (h 0 (refl, refl))
whole false h = refl

pub faultless : FaultlessLaw
faultless d e =
    let h = held (rules d) (subst (λ (o : Option Fault). Says (rules d) o) e (first_fault_law d)) in
    record {
      top_there = whole _ h.0;
      class_fields = unbroken _ _ h.1.0;
      name_fields = unbroken _ _ h.1.1.0;
      extension_fields = unbroken _ _ h.1.1.1.0;
      line_fields = unbroken _ _ h.1.1.1.1.0;
      node_fields = unbroken _ _ h.1.1.1.1.1.0;
      map_fields = unbroken _ _ h.1.1.1.1.1.1.0;
      line_stretches = unbroken _ _ h.1.1.1.1.1.1.1.0;
      line_depths = unbroken _ _ h.1.1.1.1.1.1.1.1.0;
      node_depths = unbroken _ _ h.1.1.1.1.1.1.1.1.1.0;
      line_ranks = unbroken _ _ h.1.1.1.1.1.1.1.1.1.1.0;
      line_owners = unbroken _ _ h.1.1.1.1.1.1.1.1.1.1.1.0;
      node_owners = unbroken _ _ h.1.1.1.1.1.1.1.1.1.1.1.1.0;
      top_no_member = whole _ h.1.1.1.1.1.1.1.1.1.1.1.1.1.0;
      class_places = unbroken _ _ h.1.1.1.1.1.1.1.1.1.1.1.1.1.1.0;
      extension_places = unbroken _ _ h.1.1.1.1.1.1.1.1.1.1.1.1.1.1.1.0;
      line_places = unbroken _ _ h.1.1.1.1.1.1.1.1.1.1.1.1.1.1.1.1.0;
      row_places = unbroken _ _ h.1.1.1.1.1.1.1.1.1.1.1.1.1.1.1.1.1.0;
    }

-- Of the numbers 1 to n, one that passes the test is counted; and if it is the only one, it is found.
module _ (p : ℕ → Bool) (c : ℕ) (passes : p c ≡ true) (low : 0 < c) where
  counted : (n : ℕ) → c ≤ n → 1 ≤ count_upto p n
  unfolding count_upto
  counted zero h = absurd (omega arith)
  counted (suc n) h =
      elim (leb_tells c n) [
        | inl t ↦ let k = counted n t.1 in omega arith
        | inr t ↦ let q : c ≡ suc n = omega (arith, t.1) in let e : p (suc n) ≡ true = sym (ap p q) ∙ passes in rw e (omega arith)
      ]

none_step : (o : Option ℕ) (b : Bool) (k m : ℕ) → k + cond b 1 0 ≡ 0 → (k ≡ 0 → o ≡ None) → or_else o (when b m) ≡ None
none_step o true k m e h = absurd (omega arith)
none_step o false k m e h = rw (h (omega arith))

none_found : (p : ℕ → Bool) (n : ℕ) → count_upto p n ≡ 0 → first_upto p n ≡ None
unfolding count_upto first_upto
none_found p zero e = refl
none_found p (suc n) e = none_step (first_upto p n) (p (suc n)) (count_upto p n) (suc n) e (none_found p n)

only_found : (p : ℕ → Bool) (c : ℕ) → p c ≡ true → 0 < c → (n : ℕ) → c ≤ n → count_upto p n ≤ 1 → first_upto p n ≡ Some c
unfolding count_upto first_upto
only_found p c passes low zero h l = absurd (omega arith)
only_found p c passes low (suc n) h l =
    elim (leb_tells c n) [
      | inl t ↦ rw (only_found p c passes low n t.1 (omega arith))
      | inr t ↦
          let q : c ≡ suc n = omega (arith, t.1) in
          let e : p (suc n) ≡ true = sym (ap p q) ∙ passes in
          let k : count_upto p n + 1 ≤ 1 = rw e at l in
          rw (none_found p n (omega arith), e) (ap Some (sym q))
    ]

pub and_rest : (x y : Bool) → (x && y) ≡ false → x ≡ true → y ≡ false
and_rest true y e h = e
and_rest false y e h = absurd (false≢true h)

-- A line that is in one stretch has the class of that stretch.
module _ (d : Description) (n : ℕ) (one : in_one d n ≡ true) where
  pub sum_one : count_upto (in_class d n) (length d.classes) + count_upto (in_extension d n) (length d.extensions) ≡ 1
  sum_one = eqb-true _ 1 one

  pub of_class : (c : ℕ) → 0 < c → c ≤ length d.classes → in_class d n c ≡ true → class_of_line d n ≡ c
  of_class c low high h =
      let s = sum_one in
      rw (only_found (in_class d n) c h low (length d.classes) high (omega arith))

  pub of_extension : (e : ℕ) → 0 < e → e ≤ length d.extensions → in_extension d n e ≡ true → class_of_line d n ≡ (extension_at d e).class
  of_extension e low high h =
      let s = sum_one in
      let k = counted (in_extension d n) e h low (length d.extensions) high in
      rw (none_found (in_class d n) (length d.classes) (omega arith), only_found (in_extension d n) e h low (length d.extensions) high (omega arith))

pub in_one-holds : (d : Description) → Faultless d → (n : ℕ) → 0 < n → n ≤ length d.lines → in_one d n ≡ true
in_one-holds d ok n low high = not-false (in_one d n) (or_parts _ _ (ok.line_stretches n low high)).0
