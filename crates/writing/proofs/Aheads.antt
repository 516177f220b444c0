-- Descriptions in which no line looks ahead.
use Rattle.std.proofs.Common.{◌≡◌, ℕ, zero, suc, ◌+◌, ◌<◌, ◌≤◌, Bool, true, false, cond, ◌||◌, ltb, List, [], ◌∷◌, length, get_or, drop, Some, None, Option, sym, refl, ap, ◌∙◌, add-one, arith, drop_of_length-le, drop-cons}
use Rattle.std.proofs.lemmas.Bool.Decides.{nat_tests}
use Rattle.records.specs.declared.records.Line.{Line}
use Rattle.records.specs.Statements.{statement}
use Rattle.table.specs.Description.{Description, entry, no_line}
use Rattle.table.specs.First.{is_some}
use Rattle.roundtrip.specs.Writing.{looks_ahead, Straight}
use Rattle.writing.specs.Ready.{some_ahead}

true_not_false : true ≡ false → ⊥
true_not_false e = let z : ◌≡◌ {A = ℕ} 0 1 = ap (λ (b : Bool). cond b 0 1) e in omega arith

one_more : (xs : List Line) (i : ℕ) → i < length xs → some_ahead (drop i xs) ≡ (ltb 0 (looks_ahead (statement (get_or xs i no_line))) || some_ahead (drop (i + 1) xs))
unfolding some_ahead
one_more xs i h = ap some_ahead (drop-cons xs i no_line h) ∙ ap (λ n. ltb 0 (looks_ahead (statement (get_or xs i no_line))) || some_ahead (drop n xs)) (sym (add-one i))

pub ahead-here : (xs : List Line) (i : ℕ) → i < length xs → 0 < looks_ahead (statement (get_or xs i no_line)) → some_ahead xs ≡ some_ahead (drop i xs) → true ≡ some_ahead xs
ahead-here xs i h a e =
    let t : ltb 0 (looks_ahead (statement (get_or xs i no_line))) ≡ true = grind (arith, nat_tests) in
    sym (e ∙ one_more xs i h ∙ ap (λ b. b || some_ahead (drop (i + 1) xs)) t)

pub ahead_not : (xs : List Line) (i : ℕ) → i < length xs → looks_ahead (statement (get_or xs i no_line)) ≤ 0 → some_ahead xs ≡ some_ahead (drop i xs) → some_ahead xs ≡ some_ahead (drop (i + 1) xs)
ahead_not xs i h a e =
    let t : ltb 0 (looks_ahead (statement (get_or xs i no_line))) ≡ false = grind (arith, nat_tests) in
    e ∙ one_more xs i h ∙ ap (λ b. b || some_ahead (drop (i + 1) xs)) t

pub ahead_end : (xs : List Line) (i : ℕ) → length xs ≤ i → some_ahead xs ≡ some_ahead (drop i xs) → false ≡ some_ahead xs
unfolding some_ahead
ahead_end xs i h e = sym (e ∙ ap some_ahead (drop_of_length-le xs h))

none_at : (xs : List Line) → some_ahead xs ≡ false → (i : ℕ) → looks_ahead (statement (get_or xs i no_line)) ≡ 0
unfolding some_ahead
none_at [] e i = refl
none_at (x ∷ xs) e zero = let t = first (ltb 0 (looks_ahead (statement x))) (some_ahead xs) e in grind (arith, nat_tests)
  where
    first : (a b : Bool) → (a || b) ≡ false → a ≡ false
    first true b e = e
    first false b e = refl
none_at (x ∷ xs) e (suc i) = none_at xs (second (ltb 0 (looks_ahead (statement x))) (some_ahead xs) e) i
  where
    second : (a b : Bool) → (a || b) ≡ false → b ≡ false
    second true b e = absurd (true_not_false e)
    second false b e = e

-- a description of which the first fault is none
pub no_fault : {A : Type 0} (o : Option A) → is_some o ≡ false → o ≡ None
no_fault (Some x) e = absurd (true_not_false e)
no_fault None e = refl

pub straight : (d : Description) → some_ahead d.lines ≡ false → Straight d
unfolding entry
straight d e zero = refl
straight d e (suc n) = none_at d.lines e n
