-- The lowest index of a map that gives a value, row by row.
use Rattle.std.proofs.Common.{◌≡◌, ℕ, zero, suc, ◌+◌, ◌^◌, ◌<◌, ◌≤◌, min, Bool, true, false, cond, if◌then◌else◌, ◌&&◌, T, eqb, [], Option, Some, None, ℤ, is_err, Ok, Err, sym, refl, ap, ◌∙◌, subst, inl, inr, add-zero, arith}
use Rattle.std.specs.List.{range_with_len, filter_map, cons_option, fold}
use Rattle.std.proofs.lemmas.Bool.{eq-eqb, eqb-true, false≢true, and_parts, cases_lt, false_from_ne_true}
use Rattle.roundtrip.proofs.Again.{gives_ok, ok_gives}
use Rattle.records.specs.declared.records.Row.{Row}
use Rattle.table.specs.Description.{Description, row_at}
use Rattle.rules.specs.declared.faults.ReadingCause.TheVariants.{NoSuchIndex}
use Rattle.rules.specs.Checks.{Check, fails, pick}
use Rattle.rules.specs.Lookups.{output, find_row}
use Rattle.rules.specs.Values.{same}
use Rattle.pending.specs.Indices.{index_giving}
use Rattle.roundtrip.specs.Own.{gives_value, first_such, lowest_index}
use Rattle.checked.proofs.Booleans.{true_of}
use Rattle.roundtrip.proofs.Numbers.{same_eq, same_refl}

-- the first number that passes a test, or the one after all of them
first_is : (f : ℕ → Bool) (n x y : ℕ) → x ≤ y → y ≤ x + n → (y < x + n → f y ≡ true) → ((z : ℕ) → x ≤ z → z < y → f z ≡ false) → first_such f n x ≡ y
unfolding first_such
first_is f zero x y l m t g = omega arith
first_is f (suc n) x y l m t g = elim (cases_lt x y) [
  | inl h ↦ ap (λ b. cond b x (first_such f n (suc x))) (g x (omega arith) h) ∙ first_is f n (suc x) y h (omega arith) (λ k. t (omega arith)) (λ z u v. g z (omega arith) v)
  | inr h ↦ (let e : x ≡ y = omega arith in ap (λ b. cond b x (first_such f n (suc x))) (ap f e ∙ t (omega arith)) ∙ e)
]

-- an index that gives a value, and no lower one does; or the number of indices, and none does
pub record Lowest (width : ℕ) (outputs : ℕ → Check ℤ) (v : ℤ) (lowest : ℕ) : Type 0 where
  pub within : lowest ≤ 2 ^ width
  pub gives : lowest < 2 ^ width → outputs lowest ≡ Ok v
  pub none : (x : ℕ) → x < lowest → outputs x ≡ Ok v → ⊥

gives_false : (v : ℤ) (c : Check ℤ) → (c ≡ Ok v → ⊥) → gives_value v c ≡ false
gives_false v c h = false_from_ne_true (gives_value v c) (λ t. h (gives_ok v c (subst T (sym t) tt)))

pub lowest_is : (width : ℕ) (outputs : ℕ → Check ℤ) (v : ℤ) (lowest : ℕ) → Lowest width outputs v lowest → lowest ≡ lowest_index width outputs v
unfolding lowest_index
lowest_is width outputs v lowest l =
    sym (first_is (λ x. gives_value v (outputs x)) (2 ^ width) 0 lowest (omega arith) (let w = l.within in omega arith)
    (λ h. true_of _ (ok_gives v (outputs lowest) (l.gives (omega arith))))
    (λ z u h. gives_false v (outputs z) (l.none z h)))

-- what a further row adds
abbrev or_else : Check ℤ → Check ℤ → Check ℤ
or_else (Ok v) r = Ok v
or_else (Err f) r = r

abbrev of_row : Row → ℕ → Check ℤ
of_row r x = pick (eqb r.index x) (λ _. Ok (output r)) (λ _. fails NoSuchIndex)

pub one_more : (d : Description) (at n x : ℕ) → find_row d at (suc n) x ≡ or_else (find_row d at n x) (of_row (row_at d (at + n)) x)
unfolding find_row
one_more d at zero x = rw add-zero
one_more d at (suc n) x =
    go (eqb (row_at d at).index x) (one_more d (suc at) n x ∙ ap (λ k. or_else (find_row d (suc at) n x) (of_row (row_at d k) x)) (let e : suc at + n ≡ at + suc n = omega arith in e))
  where
    go : (b : Bool) → find_row d (suc at) (suc n) x ≡ or_else (find_row d (suc at) n x) (of_row (row_at d (at + suc n)) x) →
        pick b (λ _. Ok (output (row_at d at))) (λ _. find_row d (suc at) (suc n) x) ≡
        or_else (pick b (λ _. Ok (output (row_at d at))) (λ _. find_row d (suc at) n x)) (of_row (row_at d (at + suc n)) x)
    go true e = refl
    go false e = e

-- whether a row gives the value, and no row before it has its index
abbrev gives : Row → ℤ → (before : Check ℤ) → Bool
gives r v before = same (output r) v && is_err before

kept_ok : (a b : Check ℤ) (v : ℤ) → a ≡ Ok v → or_else a b ≡ Ok v
kept_ok a b v e = ap (λ z. or_else z b) e

-- at a number below the lowest the further row gives the value only if its index is that number
no_lower : (r : Row) (v : ℤ) (lowest x : ℕ) (a : Check ℤ) → x < lowest → (a ≡ Ok v → ⊥) → (r.index ≡ x → gives r v a ≡ true → lowest ≤ x) → or_else a (of_row r x) ≡ Ok v → ⊥
no_lower r v lowest x (Ok u) h none f e = none e
no_lower r v lowest x (Err z) h none f e = go (eqb r.index x) refl e
  where
    go : (b : Bool) → eqb r.index x ≡ b → pick b (λ _. Ok (output r)) (λ _. fails NoSuchIndex) ≡ Ok v → ⊥
    go true q e =
        let i : r.index ≡ x = eqb-true r.index x q in
        let o : output r ≡ v = cc in
        let s : same (output r) v ≡ true = ap (λ y. same y v) o ∙ true_of (same v v) (same_refl v) in
        let t : gives r v (Err z) ≡ true = rw s refl in
        let l = f i t in
        omega arith
    go false q e = let y : ◌≡◌ {A = ℕ} 0 1 = cc in omega arith

module _ (d : Description) (at n width : ℕ) (v : ℤ) (lowest : ℕ) (so_far : Lowest width (find_row d at n) v lowest) where
  abbrev row : Row
  row = row_at d (at + n)

  -- the lowest stays where the further row gives no value that is new
  stays : ((x : ℕ) → x < lowest → row.index ≡ x → gives row v (find_row d at n x) ≡ true → ⊥) → Lowest width (find_row d at (n + 1)) v lowest
  stays f =
      subst (λ k. Lowest width (find_row d at k) v lowest) (let e : suc n ≡ n + 1 = omega arith in e)
      (record {
        within = so_far.within;
        gives = λ h. one_more d at n lowest ∙ kept_ok (find_row d at n lowest) _ v (so_far.gives h);
        none = λ x h e.
            no_lower row v lowest x (find_row d at n x) h (so_far.none x h) (λ i t. absurd (f x h i t)) (sym (one_more d at n x) ∙ e);
      })

  here : (a : Check ℤ) → is_err a ≡ true → or_else a (of_row row row.index) ≡ Ok (output row)
  here (Ok u) e = absurd (false≢true e)
  here (Err f) e = rw (eq-eqb row.index row.index refl)

  -- it falls to the index of a further row that gives the value lower
  falls : row.index < lowest → gives row v (find_row d at n row.index) ≡ true → Lowest width (find_row d at (n + 1)) v row.index
  falls l t =
      let p = and_parts (same (output row) v) _ t in
      let w = so_far.within in
      subst (λ k. Lowest width (find_row d at k) v row.index) (let e : suc n ≡ n + 1 = omega arith in e)
      (record {
        within = omega arith;
        gives = λ h. one_more d at n row.index ∙ here (find_row d at n row.index) p.1 ∙ ap (λ z. Ok z) (same_eq (output row) v (subst T (sym p.0) tt));
        none = λ x h e.
            no_lower row v row.index x (find_row d at n x) h (so_far.none x (omega arith)) (λ i t. omega arith) (sym (one_more d at n x) ∙ e);
      })

  lowest_step : Lowest width (find_row d at (n + 1)) v (fold min lowest (cons_option (index_giving d at v n) []))
  lowest_step = go (gives row v (find_row d at n row.index)) refl
    where
      go : (b : Bool) → gives row v (find_row d at n row.index) ≡ b →
          Lowest width (find_row d at (n + 1)) v (fold min lowest (cons_option (if b then Some row.index else None) []))
      go false e = stays (λ x h i t. false≢true (sym e ∙ ap (λ k. gives row v (find_row d at n k)) i ∙ t))
      go true e = elim (cases_lt row.index lowest) [
        | inl h ↦ (let m : min lowest row.index ≡ row.index = omega arith in subst (Lowest width (find_row d at (n + 1)) v) (sym m) (falls h e))
        | inr h ↦ (let m : min lowest row.index ≡ lowest = omega arith in
            subst (Lowest width (find_row d at (n + 1)) v) (sym m) (stays (λ x l i t. (let z : ⊥ = omega arith in z))))
      ]

pub lowest_first : (d : Description) (at width : ℕ) (v : ℤ) → Lowest width (find_row d at 0) v (2 ^ width)
unfolding find_row
lowest_first d at width v =
    record { within = omega arith; gives = λ h. absurd (let z : ⊥ = omega arith in z); none = λ x h e. let y : ◌≡◌ {A = ℕ} 0 1 = cc in omega arith }

-- the chain over n more rows from row k on
pub lowest_chain : (d : Description) (at width : ℕ) (v : ℤ) (n k lowest : ℕ) → Lowest width (find_row d at k) v lowest →
    Lowest width (find_row d at (k + n)) v (fold min lowest (filter_map (index_giving d at v) (range_with_len k n)))
lowest_chain d at width v zero k lowest l = rw add-zero l
lowest_chain d at width v (suc n) k lowest l =
    subst (λ m. Lowest width (find_row d at m) v (fold min lowest (filter_map (index_giving d at v) (range_with_len k (suc n)))))
    (let e : k + 1 + n ≡ k + suc n = omega arith in e)
    (go (index_giving d at v k) (lowest_step d at k width v lowest l) (lowest_chain d at width v n (k + 1)))
  where
    go : (g : Option ℕ) → Lowest width (find_row d at (k + 1)) v (fold min lowest (cons_option g [])) →
        ((a : ℕ) → Lowest width (find_row d at (k + 1)) v a → Lowest width (find_row d at (k + 1 + n)) v (fold min a (filter_map (index_giving d at v) (range_with_len (k + 1) n)))) →
        Lowest width (find_row d at (k + 1 + n)) v (fold min lowest (cons_option g (filter_map (index_giving d at v) (range_with_len (k + 1) n))))
    go (Some i) step more = more (min lowest i) step
    go None step more = more lowest step
