-- What a search and a count over 1 to `count` come to, by a test that each call leaves as it was.
use Rattle.std.proofs.Common.{◌≡◌, ℕ, suc, ◌+◌, ◌-◌, ◌<◌, ◌≤◌, Bool, true, false, cond, List, [], ◌∷◌, length, Some, None, Option, refl, sym, ap, subst, ◌∙◌, add-zero, arith}
use denote.Ref.{Bor}
use denote.Param.Members.{Mut}
use Rattle.std.specs.Bool.{IsTrue}
use Rattle.std.specs.Option.{MatchOption, IsSomeAnd, IfSome, option_map}
use Rattle.std.specs.List.{fold, slice_get}
use Rattle.std.specs.Fn.{CalledAt}
use Rattle.std.specs.declared.ops.Range.{Range}
use Rattle.std.specs.Iterator.{ActsAs, ActsAsAt}
use Rattle.std.specs.Iterator.Runs.{Run, SomeRun, WholeRun, EachRunFrom, ItemsCountUp, NoItemPasses, EndsAtFirstPassing, IsFilterRun, IsMapRun, CallKeepsClosure}
use Rattle.std.proofs.iter.runs.Made.{at-is}
use Rattle.std.proofs.iter.runs.Lists.{same_Some, slice_get-map}
use Rattle.std.proofs.iter.Yields.{nat_range_steps}
use Rattle.std.proofs.iter.runs.Sources.{range_runs}
use Rattle.table.specs.First.{first_upto, count_upto}
use Rattle.table.proofs.Scans.{none_pass, first_found, count_none, count_more}

plainly : {A : Type 0} (o : Option A) → option_map (λ y. y) o ≡ o
plainly None = refl
plainly (Some x) = refl

-- a count goes on over a list of the numbers from i + 1 on
counted : (p : ℕ → Bool) (xs : List ℕ) (i : ℕ) → ((k : ℕ) → k < length xs → slice_get xs k ≡ Some (i + 1 + k)) → fold (λ n x. n + cond (p x) 1 0) (count_upto p i) xs ≡ count_upto p (i + length xs)
counted p [] i h = rw add-zero refl
counted p (x ∷ xs) i h =
    let e : x ≡ i + 1 = same_Some x (i + 1) (h 0 (omega arith) ∙ ap Some (omega arith)) in
    let l : i + suc (length xs) ≡ i + 1 + length xs = omega arith in
    rw l (ap (λ a. fold (λ n x. n + cond (p x) 1 0) a xs) (ap (λ y. count_upto p i + cond (p y) 1 0) e ∙ sym (count_more p i))
    ∙ counted p xs (i + 1) (λ k b. h (suc k) (omega arith) ∙ ap Some (omega arith)))

-- the source counts up from 1, as every run of it does
module _ (count : ℕ) {S : Type 0} {steps : S → Option ℕ → S → Type 0} (s : S) (numbers : (u : Run steps) → u.from ≡ s → ItemsCountUp u 1 (count + 1)) where
  number_at : (u : Run steps) → u.from ≡ s → (k : ℕ) → k < u.len → u.at k ≡ Some (1 + k)
  number_at u q k l = sym (plainly (u.at k)) ∙ (numbers u q).3 k l

  place_of : (u : Run steps) → u.from ≡ s → (n : ℕ) → 0 < n → n ≤ u.len → u.at (n - 1) ≡ Some n
  place_of u q n a b = number_at u q (n - 1) (omega arith) ∙ ap Some (omega arith)

  module _ {F : Type 0} (g : Mut F (Bor ℕ × Unit {0}) Bool) (f : F) (p : ℕ → Bool) (tells : ActsAsAt g f p) where
    keeps : CallKeepsClosure g f
    keeps a r h t = (tells a.0.now r h (record { shown = a.0; shows = refl; called = t })).0

    says : (x : ℕ) (b : Bool) → CalledAt g f x b f → b ≡ p x
    says x b t = (tells x b f t).1

    pub found : (r : Option ℕ) → SomeRun steps s (λ u. MatchOption r (IsTrue u.whole × NoItemPasses u g f) (EndsAtFirstPassing u g f)) → r ≡ first_upto p count
    found None t =
        let u = t.0 in
        let c = numbers u t.1 in
        sym (none_pass p count (λ n a b. sym (says n false (subst (λ o. IfSome o (λ x. CalledAt g f x false f)) (place_of u t.1 n a (omega (arith, c.1 t.2.0))) (t.2.1 keeps (n - 1))))))
    found (Some x) t =
        let u = t.0 in
        let i = t.2.0 in
        let here = subst (λ o. IfSome o (λ v. (v ≡ 1 + i) × (v < count + 1))) t.2.2 ((numbers u t.1).2 i) in
        let e : x ≡ i + 1 = omega (arith, here.0) in
        let none = none_pass p i (λ n a b. sym (says n false (subst (λ o. IsSomeAnd o (λ y. CalledAt g f y false f)) (place_of u t.1 n a (omega (arith, t.2.1))) ((t.2.3 keeps).1 (n - 1) (omega arith))))) in
        ap Some e ∙ first_found p i count (omega (arith, here.1, e)) none (says x true (t.2.3 keeps).0 ∙ ap p e)

    pub passed : {T : Type 0} {taken : T → Option ℕ → T → Type 0} (r : ℕ) (v : T) → WholeRun taken v (λ u. r ≡ u.len)
        → EachRunFrom taken v (λ u. SomeRun steps s (λ q. IsFilterRun u q g f)) → r ≡ count_upto p count
    passed r v t each =
        let w = each t.0 t.0.seen t.1 in
        let q = w.0 in
        let long : 0 + length q.items ≡ count = omega (arith, q.long, (numbers q w.1).1 (w.2.0 ∙ t.2)) in
        t.3 ∙ w.2.5 (λ n x. n + cond (p x) 1 0) (λ x b h n e. let k = tells x b h e in (k.0, rw k.1 refl))
        ∙ ap (λ n. fold (λ n x. n + cond (p x) 1 0) n q.items) (count_none p)
        ∙ counted p q.items 0 (λ k l. sym (at-is q k) ∙ number_at q w.1 k (omega (arith, q.long)) ∙ ap Some (omega arith))
        ∙ ap (count_upto p) long

-- where each item of 0 to `count` is made one more
module _ (count : ℕ) (s : Range ℕ) (from : s.start ≡ 0) (to : s.end ≡ count) {F : Type 0} (g : Mut F (ℕ × Unit {0}) ℕ) (f : F) (more : ActsAs g f (λ i. i + 1)) where
  shifted : (o : Option ℕ) (k : ℕ) → IfSome o (λ x. (x ≡ 0 + k) × (x < count)) → IfSome (option_map (λ i. i + 1) o) (λ x. (x ≡ 1 + k) × (x < count + 1))
  shifted None k h = tt
  shifted (Some x) k h = (omega (arith, h.0), omega (arith, h.1))

  pub ones : {S : Type 0} {steps : S → Option ℕ → S → Type 0} (v : S) → EachRunFrom steps v (λ u. SomeRun nat_range_steps s (λ q. IsMapRun u q g f)) → (u : Run steps) → u.from ≡ v → ItemsCountUp u 1 (count + 1)
  ones v each u e =
      let w = each u u.seen e in
      let q = w.0 in
      let begun : q.from.start ≡ 0 = ap (λ (r : Range ℕ). r.start) w.1 ∙ from in
      let ended : q.from.end ≡ count = ap (λ (r : Range ℕ). r.end) w.1 ∙ to in
      let h : ItemsCountUp q 0 count = subst (λ a. ItemsCountUp q a count) begun (subst (λ b. ItemsCountUp q q.from.start b) ended (range_runs q q.seen)) in
      let at : (k : ℕ) → u.at k ≡ option_map (λ i. i + 1) (q.at k) = λ k. at-is u k ∙ ap (λ l. slice_get l k) (w.2.3 (λ i. i + 1) more) ∙ slice_get-map (λ i. i + 1) q.items k ∙ ap (option_map (λ i. i + 1)) (sym (at-is q k)) in (
        omega (arith, h.0, w.2.1),
        (λ z. omega (arith, h.1 (w.2.0 ∙ z), w.2.1)),
        (λ k. subst (λ o. IfSome o (λ x. (x ≡ 1 + k) × (x < count + 1))) (sym (at k)) (shifted (q.at k) k (h.2 k))),
        λ k l. plainly (u.at k) ∙ at k ∙ ap (option_map (λ i. i + 1)) (sym (plainly (q.at k)) ∙ h.3 k (omega (arith, w.2.1))) ∙ ap Some (omega arith),
      )
