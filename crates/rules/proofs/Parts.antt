-- Of two readings that are under way, the struck list and the older's list: one is a beginning of the other.
use Rattle.std.proofs.Common.{◌≡◌, ℕ, Bool, true, false, ◌⊎◌, List, [], ◌∷◌, ◌++◌, sym, refl, ap, ◌∙◌, inl, inr, append_assoc, append-nil}
use Rattle.rules.specs.declared.items.Item.{Item}
use Rattle.rules.specs.Trace.{Run, items, outcome}
use Rattle.table.specs.Description.{Description}
use Rattle.rules.specs.Reading.{reading}
use Rattle.rules.specs.Growth.{Begins, Compares, strike, struck, depth_after, deeper, left_of, lacked, grown, ReadsOn, PartsLaw}
use Rattle.rules.specs.Passed.{PassesCheck}
use Rattle.rules.proofs.ByTests.{grown_means}
use Rattle.rules.proofs.Objects.{growth_law}

strike-append : (older : Description) (k : ℕ) (xs ys : List Item) → strike older k (xs ++ ys) ≡ strike older k xs ++ strike older (depth_after older k xs) ys
unfolding strike depth_after
strike-append older k [] ys = refl
strike-append older k (x ∷ xs) ys =
    ap (λ is. left_of older k x ++ is) (strike-append older (deeper older k x) xs ys) ∙
    sym (append_assoc (left_of older k x) (strike older (deeper older k x) xs) (strike older (depth_after older (deeper older k x) xs) ys))

compared_begins : {A B : Type 0} (older : Description) (k : ℕ) (n : Run A) (o : Run B) → Compares older k n o → Begins (strike older k (items n)) (items o)
compared_begins older k n o c = go (lacked older k (items n) (outcome n)) refl
  where
    go : (b : Bool) → lacked older k (items n) (outcome n) ≡ b → Begins (strike older k (items n)) (items o)
    go true e = let s = c.short e in (s.0 ∷ s.1, s.2)
    go false e = ([], sym (c.agree e).1 ∙ sym (append-nil (strike older k (items n))))

either_begins : {A : Type 0} (xs ys a b : List A) → xs ++ a ≡ ys ++ b → Begins xs ys ⊎ Begins ys xs
either_begins [] ys a b e = inl (ys, refl)
either_begins (x ∷ xs) [] a b e = inr (x ∷ xs, refl)
either_begins {A} (x ∷ xs) (y ∷ ys) a b e =
    let h : x ≡ y = cc in
    let t : xs ++ a ≡ ys ++ b = cc in
    go h (either_begins xs ys a b t)
  where
    go : x ≡ y → Begins xs ys ⊎ Begins ys xs → Begins (x ∷ xs) (y ∷ ys) ⊎ Begins (y ∷ ys) (x ∷ xs)
    go h (inl r) = inl (r.0, λ i. sym h i ∷ r.1 i)
    go h (inr r) = inr (r.0, λ i. h i ∷ r.1 i)

pub parts_law : PartsLaw
parts_law older newer bits so sn gr new old p q =
    let c = compared_begins older 0 (reading newer bits) (reading older bits) (growth_law older newer bits so sn gr) in
    let s : items (reading older bits) ≡ struck older new ++ (strike older (depth_after older 0 new) p.0 ++ c.0) =
    c.1 ∙ ap (λ is. strike older 0 is ++ c.0) p.1 ∙ ap (λ is. is ++ c.0) (strike-append older 0 new p.0) ∙
    append_assoc (struck older new) (strike older (depth_after older 0 new) p.0) c.0 in
    either_begins (struck older new) old _ _ (sym s ∙ q.1)

pub reads_on : (older newer : Description) → PassesCheck older → PassesCheck newer → grown older newer ≡ true → ReadsOn older newer
reads_on older newer po pn e =
    record {
      whole = λ bits. growth_law older newer bits po pn (grown_means older newer e);
      parts = λ bits. parts_law older newer bits po pn (grown_means older newer e);
    }
