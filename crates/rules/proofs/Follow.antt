-- Runs of a newer description that follow those of an older one, and runs of which nothing is left.
use Rattle.std.proofs.Common.{◌≡◌, ℕ, zero, ◌<◌, ◌≤◌, Bool, true, false, not, ◌||◌, T, ltb, ◌⊎◌, List, [], ◌∷◌, ◌++◌, length, Ok, Err, sym, refl, ap, ◌∙◌, subst, inl, inr, arith}
use Rattle.std.proofs.lemmas.Bool.{lt-ltb, le-ltb, false≢true, or_left, or_right}
use Rattle.rules.specs.declared.items.Item.{Item}
use Rattle.rules.specs.declared.faults.ReadingFault.{ReadingFault}
use Rattle.rules.specs.Trace.{Run, out, pass, stop, done, bind, items, outcome, Outcome, ended, refused}
use Rattle.rules.specs.Checks.{Check, attempt, pick}
use Rattle.table.specs.Description.{Description}
use Rattle.rules.specs.Growth.{new_line, deeper, left_of, strike, depth_after, lacked, Shorter, Compares}

-- a run that hands out something yet
abbrev pub More : {A : Type 0} → Run A → Type 0
More (out i t) = Unit {0}
More (pass t) = More t
More (stop f) = ⊥
More (done a) = ⊥

pub more_bind : {A B : Type 0} (t : Run A) (g : A → Run B) → More t → More (bind t g)
unfolding bind
more_bind (out i t) g m = tt
more_bind (pass t) g m = more_bind t g m
more_bind (stop f) g m = absurd m
more_bind (done a) g m = absurd m

not_ended : (f : ReadingFault) → refused f ≡ ended → ⊥
not_ended f e = let z : ◌≡◌ {A = ℕ} 0 1 = cc in omega arith

module _ (older : Description) where
  -- what stands at a depth or comes from a line is struck
  abbrev pub Hidden : ℕ → ℕ → Type 0
  Hidden k line = (0 < k) ⊎ (length older.lines < line)

  -- a run of which nothing is left; it begins at a depth, and is done at its home
  pub data Blank {A : Type 0} (P : A → Type 0) (home : ℕ) : ℕ → Run A → Type 0 where
    ends : {a : A} → P a → Blank P home home (done a)
    refuses : {f : ReadingFault} {k : ℕ} → Hidden k f.line → Blank P home k (stop f)
    hidden : {i : Item} {k m : ℕ} {n : Run A} → left_of older k i ≡ [] → deeper older k i ≡ m → Blank P home m n → Blank P home k (out i n)
    quiet : {k : ℕ} {n : Run A} → Blank P home k n → Blank P home k (pass n)

  pub blank_bind : {A B : Type 0} {P : A → Type 0} {Q : B → Type 0} {home away : ℕ} (f : A → Run B) →
      ((a : A) → P a → Blank Q home away (f a)) → {k : ℕ} {n : Run A} → Blank P away k n → Blank Q home k (bind n f)
  unfolding bind
  blank_bind f h (ends {a = a} p) = h a p
  blank_bind f h (refuses l) = refuses l
  blank_bind f h (hidden e d t) = hidden e d (blank_bind f h t)
  blank_bind f h (quiet t) = quiet (blank_bind f h t)

  -- a step of a hidden line
  pub blank_attempt : {A B : Type 0} {P : B → Type 0} {home : ℕ} (k line p : ℕ) → Hidden k line →
      (f : A → Run B) (m : Check A) → ((a : A) → Blank P home k (f a)) → Blank P home k (attempt line p m f)
  unfolding attempt
  blank_attempt k line p l f (Ok a) h = h a
  blank_attempt k line p l f (Err x) h = refuses l

  pub blank_pick : {A : Type 0} {P : A → Type 0} {home k : ℕ} (b : Bool) (f g : Unit {0} → Run A) →
      (T b → Blank P home k (f tt)) → (T (not b) → Blank P home k (g tt)) → Blank P home k (pick b f g)
  blank_pick true f g x y = x tt
  blank_pick false f g x y = y tt

module _ (older : Description) (tidy : Bool) where
  -- from a depth on, what is left of the newer run's items are the older run's, as far as both go;
  -- where the older run is tidy, all is left, and nothing is said where the older run stops
  pub data Follows {A B : Type 0} (R : A → B → Type 0) : ℕ → Run A → Run B → Type 0 where
    ends : {a : A} {b : B} → R a b → Follows R zero (done a) (done b)
    refuses : {f : ReadingFault} → f.line ≤ length older.lines → Follows R zero (stop f) (stop f)
    shown : {i j : Item} {k m : ℕ} {n : Run A} {o : Run B} →
        left_of older k i ≡ j ∷ [] → deeper older k i ≡ m → (T tidy → i ≡ j) → Follows R m n o → Follows R k (out i n) (out j o)
    hidden : {i : Item} {k m : ℕ} {n : Run A} {o : Run B} →
        T (not tidy) → left_of older k i ≡ [] → deeper older k i ≡ m → Follows R m n o → Follows R k (out i n) o
    lost : {f : ReadingFault} {k : ℕ} {o : Run B} → T (not tidy) → Hidden older k f.line → More o → Follows R k (stop f) o
    gives_up : {f : ReadingFault} {k : ℕ} {n : Run A} → T tidy → Follows R k n (stop f)
    new_pass : {k : ℕ} {n : Run A} {o : Run B} → Follows R k n o → Follows R k (pass n) o
    old_pass : {k : ℕ} {n : Run A} {o : Run B} → Follows R k n o → Follows R k n (pass o)

  pub both_pass : {A B : Type 0} {R : A → B → Type 0} {k : ℕ} {n : Run A} {o : Run B} → Follows R k n o → Follows R k (pass n) (pass o)
  both_pass h = new_pass (old_pass h)

  pub follows_bind : {A B C D : Type 0} {R : A → B → Type 0} {S : C → D → Type 0} (f : A → Run C) (g : B → Run D) →
      ((a : A) (b : B) → R a b → Follows S zero (f a) (g b)) → {k : ℕ} {n : Run A} {o : Run B} → Follows R k n o → Follows S k (bind n f) (bind o g)
  unfolding bind
  follows_bind f g h (ends {a = a} {b = b} r) = h a b r
  follows_bind f g h (refuses l) = refuses l
  follows_bind f g h (shown e d q t) = shown e d q (follows_bind f g h t)
  follows_bind f g h (hidden x e d t) = hidden x e d (follows_bind f g h t)
  follows_bind f g h (lost {o = o} x l m) = lost x l (more_bind o g m)
  follows_bind f g h (gives_up x) = gives_up x
  follows_bind f g h (new_pass t) = new_pass (follows_bind f g h t)
  follows_bind f g h (old_pass t) = old_pass (follows_bind f g h t)

  pub blank_follows : {A B C : Type 0} {P : A → Type 0} {S : C → B → Type 0} {home : ℕ} (f : A → Run C) (o : Run B) → T (not tidy) → More o →
      ((a : A) → P a → Follows S home (f a) o) → {k : ℕ} {n : Run A} → Blank older P home k n → Follows S k (bind n f) o
  unfolding bind
  blank_follows f o x m h (Blank.ends {a = a} p) = h a p
  blank_follows f o x m h (Blank.refuses l) = lost x l m
  blank_follows f o x m h (Blank.hidden e d t) = hidden x e d (blank_follows f o x m h t)
  blank_follows f o x m h (Blank.quiet t) = new_pass (blank_follows f o x m h t)

  -- a step of an older line, the same in both
  pub follows_attempt : {A B C : Type 0} {R : B → C → Type 0} (line p : ℕ) → line ≤ length older.lines →
      (f : A → Run B) (g : A → Run C) (new old : Check A) → new ≡ old →
      ((a : A) → Follows R zero (f a) (g a)) → Follows R zero (attempt line p new f) (attempt line p old g)
  unfolding attempt
  follows_attempt {A} {B} {C} {R} line p l f g new old e h = subst (λ x. Follows R zero (attempt line p x f) (attempt line p old g)) (sym e) (go old)
    where
      go : (m : Check A) → Follows R zero (attempt line p m f) (attempt line p m g)
      go (Ok a) = h a
      go (Err x) = refuses l

  pub follows_pick : {A B : Type 0} {R : A → B → Type 0} {k : ℕ} (b : Bool) (f g : Unit {0} → Run A) (u v : Unit {0} → Run B) →
      (T b → Follows R k (f tt) (u tt)) → (T (not b) → Follows R k (g tt) (v tt)) → Follows R k (pick b f g) (pick b u v)
  follows_pick true f g u v x y = x tt
  follows_pick false f g u v x y = y tt

module _ (older : Description) where
  lacked_step : (k m : ℕ) (i : Item) (is : List Item) (oc : Outcome) → deeper older k i ≡ m → lacked older k (i ∷ is) oc ≡ lacked older m is oc
  unfolding depth_after
  lacked_step k m i is ended d = refl
  lacked_step k m i is (refused f) d = λ x. new_line older f.line || ltb 0 (depth_after older (d x) is)

  strike_shown : (k m : ℕ) (i j : Item) (is : List Item) → left_of older k i ≡ j ∷ [] → deeper older k i ≡ m → strike older k (i ∷ is) ≡ j ∷ strike older m is
  unfolding strike
  strike_shown k m i j is e d = λ x. e x ++ strike older (d x) is

  strike_hidden : (k m : ℕ) (i : Item) (is : List Item) → left_of older k i ≡ [] → deeper older k i ≡ m → strike older k (i ∷ is) ≡ strike older m is
  unfolding strike
  strike_hidden k m i is e d = λ x. e x ++ strike older (d x) is

  hidden_true : (k line : ℕ) → Hidden older k line → (new_line older line || ltb 0 k) ≡ true
  hidden_true k line (inl h) = or_right _ _ (lt-ltb 0 k h)
  hidden_true k line (inr h) = or_left _ _ (lt-ltb (length older.lines) line h)

  more_items : {A : Type 0} (o : Run A) → More o → Shorter [] (items o)
  unfolding items
  more_items (out i t) m = (i, items t, refl)
  more_items (pass t) m = more_items t m
  more_items (stop f) m = absurd m
  more_items (done a) m = absurd m

  -- what follows compares as the law says
  pub compares : {A B : Type 0} {R : A → B → Type 0} {k : ℕ} {n : Run A} {o : Run B} → Follows older false R k n o → Compares older k n o
  unfolding items outcome strike depth_after
  compares (ends r) = record { agree = λ e. (refl, refl); short = λ e. absurd (false≢true e) }
  compares (refuses {f} l) =
      record { agree = λ e. (refl, refl); short = λ e. absurd (false≢true (sym (ap (λ b. b || false) (le-ltb (length older.lines) f.line l)) ∙ e)) }
  compares (shown {i} {j} {k} {m} {n} {o} e d q t) =
      let c = compares t in
      let l = lacked_step k m i (items n) (outcome n) d in
      let p = strike_shown k m i j (items n) e d in
      record {
        agree = λ h. let r = c.agree (sym l ∙ h) in (r.0, p ∙ ap (λ (is : List Item). j ∷ is) r.1);
        short = λ h. let r = c.short (sym l ∙ h) in
            (r.0, r.1, ap (λ (is : List Item). j ∷ is) r.2 ∙ ap (λ (is : List Item). is ++ (r.0 ∷ r.1)) (sym p));
      }
  compares (hidden {i} {k} {m} {n} {o} x e d t) =
      let c = compares t in
      let l = lacked_step k m i (items n) (outcome n) d in
      let p = strike_hidden k m i (items n) e d in
      record {
        agree = λ h. let r = c.agree (sym l ∙ h) in (r.0, p ∙ r.1);
        short = λ h. let r = c.short (sym l ∙ h) in
            (r.0, r.1, r.2 ∙ ap (λ (is : List Item). is ++ (r.0 ∷ r.1)) (sym p));
      }
  compares (lost {f} {k} {o} x l m) =
      record { agree = λ h. absurd (false≢true (sym h ∙ hidden_true k f.line l)); short = λ h. more_items o m }
  compares (gives_up x) = absurd x
  compares (new_pass t) = record { agree = (compares t).agree; short = (compares t).short }
  compares (old_pass t) = record { agree = (compares t).agree; short = (compares t).short }

  -- and where the older run is tidy and ends, the newer run is a copy of it
  pub copies : {A B : Type 0} {R : A → B → Type 0} {k : ℕ} {n : Run A} {o : Run B} → Follows older true R k n o → outcome o ≡ ended → (items n ≡ items o) × (outcome n ≡ ended)
  unfolding items outcome
  copies (ends r) e = (refl, refl)
  copies (refuses {f} l) e = absurd (not_ended f e)
  copies (shown l d q t) e = let c = copies t e in (λ i. q tt i ∷ c.0 i, c.1)
  copies (hidden x l d t) e = absurd x
  copies (lost x l m) e = absurd x
  copies (gives_up {f} x) e = absurd (not_ended f e)
  copies (new_pass t) e = copies t e
  copies (old_pass t) e = copies t e
