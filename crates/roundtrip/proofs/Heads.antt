-- How standing goes through steps that look at no bits, and through one run after another.
use Rattle.std.proofs.Common.{◌≡◌, ℕ, ◌≤◌, Bool, true, false, not, T, ◌⊎◌, List, length, Ok, Err, sym, refl, ap, ◌∙◌, subst, inl, inr, arith}
use Rattle.rules.specs.declared.items.Item.{Item}
use Rattle.rules.specs.Trace.{Run, out, pass, stop, done, bind}
use Rattle.rules.specs.Checks.{Check, attempt, pick}
use Rattle.table.specs.Description.{Description}
use Rattle.roundtrip.specs.Standing.{Head, gives, halts, ends, head, Halted, Fam, Zeros, Stands, stuck, quiet, hands}

unfoldable pub onwards : {A B : Type 0} → Head A → (A → Run B) → Head B
onwards (gives i t) k = gives i (bind t k)
onwards (halts f) k = halts f
onwards (ends a) k = head (k a)

pub head-bind : {A B : Type 0} (t : Run A) (k : A → Run B) → head (bind t k) ≡ onwards (head t) k
unfolding bind head onwards
head-bind (out i t) k = refl
head-bind (pass t) k = head-bind t k
head-bind (stop f) k = refl
head-bind (done a) k = refl

from : {A B : Type 0} (t : Run A) (k : A → Run B) (h : Head A) → head t ≡ h → head (bind t k) ≡ onwards h k
from t k h e = head-bind t k ∙ ap (λ h. onwards h k) e

halted_onwards : {A B : Type 0} (h : Head A) (k : A → Run B) → Halted h → Halted (onwards h k)
unfolding onwards
halted_onwards (gives i t) k z = absurd z
halted_onwards (halts f) k z = tt
halted_onwards (ends a) k z = absurd z

-- what comes next after a run that halts or ends in one way
after_quiet : {A B : Type 0} (h : Head A) (k : A → Run B) (a : A) → (Halted h ⊎ (h ≡ ends a)) → Halted (onwards h k) ⊎ (onwards h k ≡ head (k a))
unfolding onwards
after_quiet h k a (inl z) = inl (halted_onwards h k z)
after_quiet h k a (inr e) = inr (ap (λ x. onwards x k) e)

pub halted_gives : {A : Type 0} (h : Head A) (i : Item) (r : Run A) → Halted h → h ≡ gives i r → ⊥
halted_gives (gives j t) i r z e = z
halted_gives (halts f) i r z e = let y : ◌≡◌ {A = ℕ} 0 1 = cc in omega arith
halted_gives (ends a) i r z e = z

pub halted_ends : {A : Type 0} (h : Head A) (a : A) → Halted h → h ≡ ends a → ⊥
halted_ends (gives j t) a z e = z
halted_ends (halts f) a z e = let y : ◌≡◌ {A = ℕ} 0 1 = cc in omega arith
halted_ends (ends b) a z e = z

pub record Given {A B : Type 0} (h : Head A) (k : A → Run B) (i : Item) (r : Run B) : Type 0 where
  pub run : Run A
  pub first : h ≡ gives i run
  pub rest : r ≡ bind run k

-- what is handed out after a run that doesn't end is handed out by that run
given_by : {A B : Type 0} (h : Head A) (k : A → Run B) (i : Item) (r : Run B) → ((a : A) → h ≡ ends a → ⊥) → onwards h k ≡ gives i r → Given h k i r
unfolding onwards
given_by (gives j t) k i r nev e = record { run = t; first = cc; rest = cc }
given_by (halts f) k i r nev e = let y : ◌≡◌ {A = ℕ} 0 1 = cc in let z : ⊥ = omega arith in absurd z
given_by (ends a) k i r nev e = absurd (nev a refl)

not_ends : {A B : Type 0} (h : Head A) (k : A → Run B) (b : B) → ((a : A) → h ≡ ends a → ⊥) → onwards h k ≡ ends b → ⊥
unfolding onwards
not_ends (gives j t) k b nev e = let y : ◌≡◌ {A = ℕ} 0 1 = cc in omega arith
not_ends (halts f) k b nev e = let y : ◌≡◌ {A = ℕ} 0 1 = cc in omega arith
not_ends (ends a) k b nev e = nev a refl

module _ (d : Description) (L : ℕ) where
  -- what stands at a place stands before it too, where the bits up to it are 0
  module _ {A B : Type 0} {end' : B → ℕ} {most' : ℕ} (G : A → Fam B) where
    through : {p : ℕ} (q : ℕ) (F : Fam A) (a : A) → p ≤ q →
        ((C : List Bool) → length C ≡ L → Halted (head (F C)) ⊎ (head (F C) ≡ ends a)) →
        ((C : List Bool) → length C ≡ L → Zeros C p q → head (F C) ≡ ends a) →
        Stands d L end' most' q (G a) → Stands d L end' most' p (λ C. bind (F C) (λ x. G x C))
    unfolding onwards
    through {p} q F a le any ok (stuck s) =
        stuck λ C l. subst Halted (sym (head-bind (F C) (λ x. G x C))) (go C l (after_quiet (head (F C)) (λ x. G x C) a (any C l)))
      where
        go : (C : List Bool) → length C ≡ L → (Halted (onwards (head (F C)) (λ x. G x C)) ⊎ (onwards (head (F C)) (λ x. G x C) ≡ head (G a C))) →
            Halted (onwards (head (F C)) (λ x. G x C))
        go C l (inl z) = z
        go C l (inr e) = subst Halted (sym e) (s C l)
    through {p} q F a le any ok (quiet b le' m' any' ok') =
        quiet b (omega arith) m'
        (λ C l. subst (λ h. Halted h ⊎ (h ≡ ends b)) (sym (head-bind (F C) (λ x. G x C))) (go C l (after_quiet (head (F C)) (λ x. G x C) a (any C l))))
        (λ C l z. from (F C) (λ x. G x C) (ends a) (ok C l (λ k u v. z k u (omega arith))) ∙ ok' C l (λ k u v. z k (omega arith) v))
      where
        go : (C : List Bool) → length C ≡ L → (Halted (onwards (head (F C)) (λ x. G x C)) ⊎ (onwards (head (F C)) (λ x. G x C) ≡ head (G a C))) →
            Halted (onwards (head (F C)) (λ x. G x C)) ⊎ (onwards (head (F C)) (λ x. G x C) ≡ ends b)
        go C l (inl z) = inl z
        go C l (inr e) = subst (λ h. Halted h ⊎ (h ≡ ends b)) (sym e) (any' C l)
    through {p} q F a le any ok (hands K nev step rest) =
        hands K
        (λ C l b e. not C l b (sym (head-bind (F C) (λ x. G x C)) ∙ e))
        (λ C i r l e. let h = was C i r l (sym (head-bind (F C) (λ x. G x C)) ∙ e) in let st = step C i r l h in (
          omega (arith, st.0),
          st.1,
          st.2,
          λ C' l' f.
              from (F C') (λ x. G x C') (ends a) (ok C' l' (λ k u v. f.0 k u (omega (arith, st.0)))) ∙ st.3 C' l' ((λ k u v. f.0 k (omega arith) v), f.1),
        ))
        (λ C i r l e. rest C i r l (was C i r l (sym (head-bind (F C) (λ x. G x C)) ∙ e)))
      where
        was : (C : List Bool) (i : Item) (r : Run B) → length C ≡ L → onwards (head (F C)) (λ x. G x C) ≡ gives i r → head (G a C) ≡ gives i r
        was C i r l e = elim (after_quiet (head (F C)) (λ x. G x C) a (any C l)) [
          | inl z ↦ absurd (halted_gives _ i r z e)
          | inr q ↦ sym q ∙ e
        ]

        not : (C : List Bool) → length C ≡ L → (b : B) → onwards (head (F C)) (λ x. G x C) ≡ ends b → ⊥
        not C l b e = elim (after_quiet (head (F C)) (λ x. G x C) a (any C l)) [
          | inl z ↦ halted_ends _ b z e
          | inr q ↦ nev C l b (sym q ∙ e)
        ]

    pub stands_bind : {end : A → ℕ} {most p : ℕ} {F : Fam A} → Stands d L end most p F →
        ((a : A) → p ≤ end a → end a ≤ most → Stands d L end' most' (end a) (G a)) →
        Stands d L end' most' p (λ C. bind (F C) (λ x. G x C))
    unfolding onwards
    stands_bind {end} {most} {p} {F} (stuck s) g = stuck λ C l. subst Halted (sym (head-bind (F C) (λ x. G x C))) (halted_onwards (head (F C)) (λ x. G x C) (s C l))
    stands_bind {end} {most} {p} {F} (quiet a le m any ok) g = through (end a) F a le any ok (g a le m)
    stands_bind {end} {most} {p} {F} (hands K nev step rest) g =
        hands (λ i C. bind (K i C) (λ x. G x C))
        (λ C l b e. not_ends (head (F C)) (λ x. G x C) b (nev C l) (sym (head-bind (F C) (λ x. G x C)) ∙ e))
        (λ C i r l e.
        let st = step C i _ l (by C i r l e).first in
        (st.0, st.1, st.2, λ C' l' f. from (F C') (λ x. G x C') (gives i (K i C')) (st.3 C' l' f)))
        (λ C i r l e.
        let st = step C i _ l (by C i r l e).first in
        stands_bind (rest C i _ l (by C i r l e).first) (λ a x y. g a (omega (arith, st.0)) y))
      where
        by : (C : List Bool) (i : Item) (r : Run B) → length C ≡ L → head (bind (F C) (λ x. G x C)) ≡ gives i r → Given (head (F C)) (λ x. G x C) i r
        by C i r l e = given_by (head (F C)) (λ x. G x C) i r (nev C l) (sym (head-bind (F C) (λ x. G x C)) ∙ e)

  module _ {A : Type 0} {end : A → ℕ} {most : ℕ} where
    pub stands_pass : {p : ℕ} {F : Fam A} → Stands d L end most p F → Stands d L end most p (λ C. pass (F C))
    unfolding head
    stands_pass (stuck s) = stuck s
    stands_pass (quiet a le m any ok) = quiet a le m any ok
    stands_pass (hands K nev step rest) = hands K nev step rest

    pub stands_done : {p : ℕ} (a : A) → p ≤ end a → end a ≤ most → Stands d L end most p (λ C. done a)
    unfolding head
    stands_done a le m = quiet a le m (λ C l. inr refl) (λ C l z. refl)

    -- a step that looks at no bits
    pub stands_attempt : {X : Type 0} {p : ℕ} (line place : ℕ) (c : Check X) (G : X → Fam A) →
        ((x : X) → c ≡ Ok x → Stands d L end most p (G x)) → Stands d L end most p (λ C. attempt line place c (λ x. G x C))
    unfolding attempt head
    stands_attempt line place (Ok x) G h = h x refl
    stands_attempt line place (Err f) G h = stuck (λ C l. tt)

    pub stands_pick : {p : ℕ} (b : Bool) (F G : Unit {0} → Fam A) →
        (T b → Stands d L end most p (F tt)) → (T (not b) → Stands d L end most p (G tt)) → Stands d L end most p (λ C. pick b (λ u. F u C) (λ u. G u C))
    stands_pick true F G x y = x tt
    stands_pick false F G x y = y tt

    -- families that agree over bits of the length
    pub stands_same : {p : ℕ} (F G : Fam A) → ((B : List Bool) → length B ≡ L → F B ≡ G B) → Stands d L end most p F → Stands d L end most p G
    stands_same F G e (stuck s) = stuck λ C l. subst (λ t. Halted (head t)) (e C l) (s C l)
    stands_same F G e (quiet a le m any ok) =
        quiet a le m (λ C l. subst (λ t. Halted (head t) ⊎ (head t ≡ ends a)) (e C l) (any C l)) (λ C l z. ap head (sym (e C l)) ∙ ok C l z)
    stands_same F G e (hands K nev step rest) =
        hands K (λ C l a q. nev C l a (ap head (e C l) ∙ q))
        (λ C i r l q. let st = step C i r l (ap head (e C l) ∙ q) in (st.0, st.1, st.2, λ C' l' f. ap head (sym (e C' l')) ∙ st.3 C' l' f))
        (λ C i r l q. rest C i r l (ap head (e C l) ∙ q))
