-- The tidy reading goes as the plain one does, up to the first item that is not neat.
use Rattle.records.specs.declared.statements.Statement.TheVariants.{Read, Use}
use Rattle.rules.specs.declared.faults.ReadingCause.TheVariants.{UnknownId, BitsLeft}
use Rattle.std.proofs.Common.{◌≡◌, ℕ, zero, suc, ◌+◌, ◌-◌, ◌*◌, ◌/◌, ◌%◌, ◌^◌, ◌<◌, ◌≤◌, Bool, true, false, not, ◌&&◌, ◌||◌, T, eqb, ltb, leb, List, [], ◌∷◌, length, get_or, take, drop, ℤ, Ok, Err, sym, refl, ap, ◌∙◌, subst, arith, eqb→eq, ltb→lt, nltb→le, drop-cons, pow_pos, Some}
use Rattle.std.proofs.Math.Facts.{and_yes, yes_and}
use Rattle.std.proofs.lemmas.Bool.{eqb-true}
use Rattle.rules.proofs.Facts.{ensure_ok, via, ok_same, aligned_facts, header_facts, inner_facts, multiple_above}
use Rattle.rules.proofs.Booleans.{decide}
use lib.Dec.{eqb_refl}
use lib.ListN.{get_or-eq_default}
use Rattle.rules.specs.declared.faults.ReadingFault.{ReadingFault}
use Rattle.records.specs.declared.records.Extension.{Extension}
use Rattle.rules.specs.declared.items.Item.{Item}
use Rattle.rules.specs.Trace.{Run, out, pass, stop, done, bind}
use Rattle.rules.specs.Checks.{Check, ensure, pick, attempt}
use Rattle.table.specs.Description.{Description, class_at, map_at}
use Rattle.rules.specs.Lookups.{greatest, object_class}
use Rattle.rules.specs.Values.{is_zero}
use Rattle.bits.specs.Bits.{bit_value, number, part, length-bits_of}
use Rattle.rules.specs.declared.steps.Window.{Window}
use Rattle.rules.specs.declared.steps.Got.{Got}
use Rattle.rules.specs.declared.steps.Header.{Header}
use Rattle.rules.specs.Steps.{aligned, header, at_end, next_multiple}
use Rattle.records.specs.declared.statements.ReadLine.{ReadLine}
use Rattle.records.specs.declared.statements.UseLine.{UseLine}
use Rattle.rules.specs.Code.{Code, finish, read, assign, map_read, use_of, branch, while, code}
use Rattle.rules.specs.Reading.{State, Object, Objects, write, all_zero, moved, after_read, after_object, value_item, open_item, close_item, elements, objects, enough_objects, objects_to_end, used, rounds, run, extensions, content, inner, closed}
use Rattle.rules.specs.Tidy.{closable, opened_by, object_by, reading_by}
use Rattle.roundtrip.specs.Own.{complement, header_bits, own_bits, end_of}
use Rattle.rules.specs.Order.{declared_at}
use Rattle.roundtrip.specs.Standing.{Zeros, Has, Fits}
use Rattle.roundtrip.specs.Writing.{Straight}
use Rattle.roundtrip.specs.Rule.{Neat}
use Rattle.rules.specs.Order.{Bytes}
use Rattle.roundtrip.proofs.Numbers.{zeros_number}
use Rattle.roundtrip.proofs.Again.{element_again, mapped_again}
use Rattle.roundtrip.proofs.Sizes.{header_again}
use Rattle.roundtrip.proofs.Lifted.{read_own, map_own}
use Rattle.roundtrip.proofs.Lines.{Tells, code_tells}
use Rattle.rules.proofs.Same.{Each}

-- bits that write 0 are 0
number_zeros : (B : List Bool) (n p : ℕ) → number (part B p n) ≡ 0 → Zeros B p (p + n)
unfolding number
number_zeros B zero p e k u v = let z : ⊥ = omega arith in absurd z
number_zeros B (suc n) p e k u v =
    decide (ltb k (length B))
    (λ t.
    let l = ltb→lt k (length B) t in
    let c = drop-cons B p false (omega arith) in
    let f : bit_value (get_or B p false) * 2 ^ length (take n (drop (suc p) B)) + number (part B (suc p) n) ≡ 0 = ap (λ x. number (take (suc n) x)) (sym c) ∙ e in
    go (λ h l. number_zeros B n (suc p) h k l (omega arith)) (get_or B p false) refl f)
    (λ t. get_or-eq_default B false (nltb→le k (length B) t))
  where
    go : (number (part B (suc p) n) ≡ 0 → suc p ≤ k → get_or B k false ≡ false) → (b : Bool) → get_or B p false ≡ b → bit_value b * 2 ^ length (take n (drop (suc p) B)) + number (part B (suc p) n) ≡ 0 → get_or B k false ≡ false
    go rec true q f = let y = pow_pos (length (take n (drop (suc p) B))) in let z : ⊥ = omega arith in absurd z
    go rec false q f =
        decide (ltb p k)
        (λ t. rec (omega arith) (ltb→lt p k t))
        (λ t. let l = nltb→le p k t in let x : p ≡ k = omega arith in subst (λ z. get_or B z false ≡ false) x q)

aligned_skips : (w : Window) (to p q : ℕ) (B : List Bool) → aligned B w to p ≡ Ok q → Zeros B p q
unfolding aligned
aligned_skips w to p q B e =
    via (Zeros B p q) _ _ q e λ x en e.
    via (Zeros B p q) _ _ q e λ y ze e.
    let m = multiple_above to p in
    let f = ok_same (next_multiple to p) q e in
    let z = number_zeros B (next_multiple to p - p) p (eqb→eq _ 0 (ensure_ok _ _ y ze)) in
    λ k u v. z k u (omega arith)

-- the reading stands at q, the last item's bits end at p: nothing lies between but skipped bits up to the next byte
pub data Idle (B : List Bool) (p : ℕ) : ℕ → Type 0 where
  here : {q : ℕ} → q ≡ p → Idle B p q
  skipped : {q : ℕ} → q ≡ (p + 7) / 8 * 8 → Zeros B p q → Idle B p q

idle_ahead : (B : List Bool) (p q : ℕ) → Idle B p q → p ≤ q
idle_ahead B p q (here f) = omega arith
idle_ahead B p q (skipped e z) = omega arith

idle_aligned : (B : List Bool) (w : Window) (p q r : ℕ) → Idle B p q → aligned B w 8 q ≡ Ok r → Idle B p r
idle_aligned B w p q r (here f) e =
    let x : (q + 7) / 8 * 8 ≡ r = (aligned_facts B w 8 q r e).is in
    skipped (sym x ∙ ap (λ k. (k + 7) / 8 * 8) f) (subst (λ k. Zeros B k r) f (aligned_skips w 8 q r B e))
idle_aligned B w p q r (skipped f z) e =
    let x : (q + 7) / 8 * 8 ≡ r = (aligned_facts B w 8 q r e).is in
    let y : q ≡ r = omega arith in
    skipped (omega arith) (λ k u v. z k u (omega arith))

-- the tidy run goes as the plain one does, up to the first item that is not neat
module _ (d : Description) (B : List Bool) where
  abbrev pub At : ℕ → ℕ → State → Type 0
  At most p s = Idle B p s.place × (s.place ≤ most)

  pub data Tidied {A : Type 0} (Q : ℕ → A → Type 0) : ℕ → Run A → Run A → Type 0 where
    ends : {p : ℕ} {a : A} → Q p a → Tidied Q p (done a) (done a)
    stops : {p : ℕ} {f : ReadingFault} → Tidied Q p (stop f) (stop f)
    passes : {p : ℕ} {t u : Run A} → Tidied Q p t u → Tidied Q p (pass t) (pass u)
    shown : {p q : ℕ} {i : Item} {t u : Run A} → Neat B p i → (Fits d p i B → end_of d i ≡ q) → Tidied Q q t u → Tidied Q p (out i t) (out i u)
    cut : {p : ℕ} {i : Item} {f : ReadingFault} {u : Run A} → (Neat B p i → ⊥) → Tidied Q p (stop f) (out i u)

  pub tidied_bind : {C : Type 0} {most : ℕ} {R : ℕ → C → Type 0} (f g : State → Run C) →
      ((a : State) (p : ℕ) → a.place ≤ most → Idle B p a.place → Tidied R p (f a) (g a)) →
      {p : ℕ} {t u : Run State} → Tidied (At most) p t u → Tidied R p (bind t f) (bind u g)
  unfolding bind
  tidied_bind f g h (ends {p} {a} (i, m)) = h a p m i
  tidied_bind f g h stops = stops
  tidied_bind f g h (passes t) = passes (tidied_bind f g h t)
  tidied_bind f g h (shown n e t) = shown n e (tidied_bind f g h t)
  tidied_bind f g h (cut n) = cut n

  pub tidied_attempt : {X A : Type 0} {Q : ℕ → A → Type 0} {p : ℕ} (line place : ℕ) (c : Check X) (f g : X → Run A) → ((x : X) → c ≡ Ok x → Tidied Q p (f x) (g x)) →
      Tidied Q p (attempt line place c f) (attempt line place c g)
  unfolding attempt
  tidied_attempt line place (Ok x) f g h = h x refl
  tidied_attempt line place (Err e) f g h = stops

  pub tidied_pick : {A : Type 0} {Q : ℕ → A → Type 0} {p : ℕ} (b : Bool) (f g f' g' : Unit {0} → Run A) → Tidied Q p (f tt) (f' tt) → Tidied Q p (g tt) (g' tt) →
      Tidied Q p (pick b f g) (pick b f' g')
  tidied_pick true f g f' g' x y = x
  tidied_pick false f g f' g' x y = y

  neat_value : (o : Object) (line index : ℕ) (g : Got) (p : ℕ) → (o.class ≡ 0 → ⊥) → Neat B p (value_item o line index g)
  neat_value o line index g p h = record { known = h; near = λ x. absurd x; zeros = λ x. absurd x }

  module _ (o : Object) (named : o.class ≡ 0 → ⊥) (fits : o.window.end ≤ length B) where
    pub tidied_elements : (line : ℕ) (l : ReadLine) → Tells d (Some (Read l)) line → (n index : ℕ) (s : State) (p : ℕ) → s.place ≤ o.window.end → Idle B p s.place →
        Tidied (At o.window.end) p (elements d B o line l n index s) (elements d B o line l n index s)
    unfolding elements
    tidied_elements line l ok zero index s p h i = passes (ends (i, h))
    tidied_elements line l ok (suc n) index s p h i =
        tidied_attempt line s.place _ _ _ λ g e.
        let a = element_again o.window l _ _ _ s.place g B ok.0 e in
        let own = read_own d 0 o line index l g ok.1 in
        let long = ap length own ∙ length-bits_of g.length (complement g.length g.value) in
        shown (neat_value o line index g p named) (λ f. omega (arith, a.after)) (tidied_elements line l ok n (suc index) (after_read l.name g s) g.after a.within (here refl))

    module _ (tidy plain : Objects)
        (objs : (line declared index : ℕ) (w : Window) (q p : ℕ) → declared_at d line ≡ declared → q ≤ w.end → w.end ≤ length B → Idle B p q →
        Tidied (At w.end) p (tidy line declared index w q) (plain line declared index w q)) where
      pub tidied_objects : (line : ℕ) (l : UseLine) → Tells d (Some (Use l)) line → (n index : ℕ) (s : State) (p : ℕ) → s.place ≤ o.window.end → Idle B p s.place →
          Tidied (At o.window.end) p (objects d B tidy o line l n index s) (objects d B plain o line l n index s)
      unfolding objects
      tidied_objects line l ok zero index s p h i = passes (ends (i, h))
      tidied_objects line l ok (suc n) index s p h i =
          tidied_bind _ _ (λ t p m i. tidied_objects line l ok n (suc index) (after_object l t s) p m i) (objs line l.class index o.window s.place p ok h fits i)

      pub tidied_enough : (line : ℕ) (l : UseLine) (index : ℕ) (s : State) (p : ℕ) → s.place ≤ o.window.end → Idle B p s.place →
          Tidied (At o.window.end) p (enough_objects d B line l index s) (enough_objects d B line l index s)
      tidied_enough line l index s p h i = tidied_attempt line s.place _ _ _ λ u e. passes (ends (i, h))

      pub tidied_to_end : (line : ℕ) (l : UseLine) → Tells d (Some (Use l)) line → (n index : ℕ) (s : State) (p : ℕ) → s.place ≤ o.window.end → Idle B p s.place →
          Tidied (At o.window.end) p (objects_to_end d B tidy o line l n index s) (objects_to_end d B plain o line l n index s)
      unfolding objects_to_end
      tidied_to_end line l ok zero index s p h i = tidied_enough line l index s p h i
      tidied_to_end line l ok (suc n) index s p h i =
          tidied_pick (leb o.window.end (next_multiple 8 s.place)) _ _ _ _ (tidied_enough line l index s p h i)
          (tidied_bind _ _ (λ t p m i. tidied_to_end line l ok n (suc index) (after_object l t s) p m i) (objs line l.class index o.window s.place p ok h fits i))

      pub tidied_used : (line : ℕ) (l : UseLine) → Tells d (Some (Use l)) line → (k : ℕ) (s : State) (p : ℕ) → s.place ≤ o.window.end → Idle B p s.place →
          Tidied (At o.window.end) p (used d B tidy o line l k s) (used d B plain o line l k s)
      unfolding used
      tidied_used line l ok zero s p h i = passes (tidied_to_end line l ok l.most 0 s p h i)
      tidied_used line l ok (suc k) s p h i = tidied_attempt line s.place _ _ _ λ n e. passes (tidied_objects line l ok n 0 s p h i)

      pub tidied_rounds : (test : State → Check ℤ) (f g : State → Run State) (line : ℕ) →
          ((s : State) (p : ℕ) → s.place ≤ o.window.end → Idle B p s.place → Tidied (At o.window.end) p (f s) (g s)) →
          (n : ℕ) (s : State) (p : ℕ) → s.place ≤ o.window.end → Idle B p s.place →
          Tidied (At o.window.end) p (rounds d B test f line n s) (rounds d B test g line n s)
      unfolding rounds
      tidied_rounds test f g line bo zero s p h i =
          tidied_attempt line s.place _ _ _ λ v e. tidied_attempt line s.place _ _ _ λ u e. passes (ends (i, h))
      tidied_rounds test f g line bo (suc n) s p h i =
          tidied_attempt line s.place _ _ _ λ v e.
          passes (tidied_pick (is_zero v) _ _ _ _ (ends (i, h)) (tidied_bind _ _ (λ t p m i. tidied_rounds test f g line bo n t p m i) (bo s p h i)))

      pub tidied_run : (c : Code) → Each (Tells d) c → (s : State) (p : ℕ) → s.place ≤ o.window.end → Idle B p s.place →
          Tidied (At o.window.end) p (run d B tidy o c s) (run d B plain o c s)
      unfolding run
      tidied_run finish ok s p h i = passes (ends (i, h))
      tidied_run (read line l c) ok s p h i =
          tidied_attempt line s.place _ _ _ λ n e.
          passes (tidied_bind _ _ (λ t p m i. tidied_run c ok.1 t p m i) (tidied_elements line l ok.0 n 0 s p h i))
      tidied_run (assign line name node c) ok s p h i =
          tidied_attempt line s.place _ _ _ λ v e.
          passes (tidied_run c ok.1 (record { place = s.place; names = write name v s.names }) p h i)
      tidied_run (map_read line m name c) ok s p h i =
          tidied_attempt line s.place _ _ _ λ g e.
          let a = mapped_again o.window _ _ s.place g B e in
          let own = map_own d 0 o line 0 m name g ok.0 in
          let long = ap length own ∙ length-bits_of (map_at d m).width _ in
          shown (neat_value o line 0 g p named) (λ f. omega (arith, a.after, a.place)) (tidied_run c ok.1 (after_read name g s) g.after a.within (here refl))
      tidied_run (use_of line l c) ok s p h i =
          tidied_bind _ _ (λ t p m i. tidied_run c ok.1 t p m i) (tidied_used line l ok.0 l.count s p h i)
      tidied_run (branch line node a b c) ok s p h i =
          tidied_attempt line s.place _ _ _ λ v e.
          passes (tidied_bind _ _ (λ t p m i. tidied_run c ok.3 t p m i)
          (tidied_pick (is_zero v) _ _ _ _ (tidied_run b ok.2 s p h i) (tidied_run a ok.1 s p h i)))
      tidied_run (while line node most b c) ok s p h i =
          tidied_bind _ _ (λ t p m i. tidied_run c ok.2 t p m i)
          (tidied_rounds _ _ _ line (λ t p m i. tidied_run b ok.1 t p m i) most s p h i)

      module _ (st : Straight d) where
        pub tidied_extensions : (es : List Extension) (s : State) (p : ℕ) → s.place ≤ o.window.end → Idle B p s.place →
            Tidied (At o.window.end) p (extensions d B tidy o es s) (extensions d B plain o es s)
        unfolding extensions
        tidied_extensions [] s p h i = ends (i, h)
        tidied_extensions (x ∷ es) s p h i =
            tidied_pick (eqb x.class o.class) _ _ _ _
            (tidied_attempt x.first s.place _ _ _ λ q e.
            let a = aligned_facts B o.window 8 s.place q e in
            let j = idle_aligned B o.window p s.place q i e in
            passes (tidied_pick (eqb q o.window.end) _ _ _ _ (ends (j, a.within))
            (tidied_bind _ _ (λ t p m i. tidied_extensions es t p m i)
            (tidied_run (code d.lines x.first x.number) (code_tells d st x.first x.number) (moved q s) p a.within j))))
            (passes (tidied_extensions es s p h i))

        pub tidied_content : (c : ℕ) (s : State) (p : ℕ) → s.place ≤ o.window.end → Idle B p s.place →
            Tidied (At o.window.end) p (content d B tidy o c s) (content d B plain o c s)
        unfolding content
        tidied_content zero s p h i = ends (i, h)
        tidied_content (suc n) s p h i =
            tidied_bind _ _ (λ s p h i.
            tidied_bind _ _ (λ s p h i. tidied_extensions d.extensions s p h i)
            (tidied_run (code d.lines (class_at d (suc n)).first (class_at d (suc n)).number) (code_tells d st _ _) s p h i))
            (tidied_run (code d.lines (class_at d (class_at d (suc n)).base).first (class_at d (class_at d (suc n)).base).number) (code_tells d st _ _) s p h i)

  idle_zeros : (p q : ℕ) → Idle B p q → Zeros B p q
  idle_zeros p q (here f) k u v = let z : ⊥ = omega arith in absurd z
  idle_zeros p q (skipped e z) k u v = z k u v

  idle_near : (p q : ℕ) → Idle B p q → q ≤ p + 7
  idle_near p q (here f) = omega arith
  idle_near p q (skipped e z) = omega arith

  -- what a tidy close asks is that it is neat
  module _ (c line index : ℕ) (named : c ≡ 0 → ⊥) (w : Window) (s : State) (p most : ℕ) (le : s.place ≤ w.end) (m : w.end ≤ most) (i : Idle B p s.place) where
    pub tidied_closing : (g : ℕ) → (0 < g → w.end % 8 ≡ 0) →
        Tidied (At most) p
        (attempt line s.place (closable d B true g w s.place) λ _. out (close_item c line index (closed d B g w s).place) (done (closed d B g w s)))
        (attempt line s.place (closable d B false g w s.place) λ _. out (close_item c line index (closed d B g w s).place) (done (closed d B g w s)))
    unfolding attempt ensure
    tidied_closing zero even =
        shown (record { known = named; near = λ x. idle_near p s.place i; zeros = λ x. idle_zeros p s.place i }) (λ f. omega arith) (ends (here refl, omega arith))
    tidied_closing (suc g) even =
        go (eqb (next_multiple 8 s.place) w.end && eqb (number (part B s.place (w.end - s.place))) 0) refl
      where
        close : Item
        close = close_item c line index w.end

        neat : T (eqb (next_multiple 8 s.place) w.end && eqb (number (part B s.place (w.end - s.place))) 0) → Idle B p s.place → Neat B p close
        neat t (here f) =
            let b = and_yes (eqb (next_multiple 8 s.place) w.end) _ t in
            let x : (s.place + 7) / 8 * 8 ≡ w.end = eqb→eq _ w.end b.0 in
            let z = number_zeros B (w.end - s.place) s.place (eqb→eq _ 0 b.1) in
            record { known = named; near = λ _. omega arith; zeros = λ _ k u v. z k (omega arith) (omega arith) }
        neat t (skipped e y) =
            let b = and_yes (eqb (next_multiple 8 s.place) w.end) _ t in
            let x : (s.place + 7) / 8 * 8 ≡ w.end = eqb→eq _ w.end b.0 in
            record { known = named; near = λ _. omega arith; zeros = λ _ k u v. y k u (omega arith) }

        test : Neat B p close → T (eqb (next_multiple 8 s.place) w.end && eqb (number (part B s.place (w.end - s.place))) 0)
        test n =
            let a = idle_ahead B p s.place i in
            let r : w.end ≤ p + 7 = n.near tt in
            let ev = even (omega arith) in
            let x : (s.place + 7) / 8 * 8 ≡ w.end = omega arith in
            yes_and (eqb (next_multiple 8 s.place) w.end) _ (subst (λ k. T (eqb (next_multiple 8 s.place) k)) x (eqb_refl (next_multiple 8 s.place)))
            (subst (λ k. T (eqb k 0)) (sym (zeros_number B (w.end - s.place) s.place (λ k u v. n.zeros tt k (omega arith) (omega arith)))) tt)

        go : (b : Bool) → (eqb (next_multiple 8 s.place) w.end && eqb (number (part B s.place (w.end - s.place))) 0) ≡ b →
            Tidied (At most) p
            (attempt line s.place (ensure b BitsLeft) λ _. out close (done (moved w.end s)))
            (out close (done (moved w.end s)))
        go true e = shown (neat (subst T (sym e) tt) i) (λ f. omega arith) (ends (here refl, m))
        go false e = cut (λ n. subst T e (test n))

  module _ (st : Straight d) (by : Bytes d) where
    pub tidied_one : (tidy plain : Objects) →
        ((line declared index : ℕ) (w : Window) (q p : ℕ) → declared_at d line ≡ declared → q ≤ w.end → w.end ≤ length B → Idle B p q →
        Tidied (At w.end) p (tidy line declared index w q) (plain line declared index w q)) →
        (line declared index : ℕ) (w : Window) (q p : ℕ) → declared_at d line ≡ declared → q ≤ w.end → w.end ≤ length B → Idle B p q →
        Tidied (At w.end) p
        (attempt line q (header B w (class_at d declared) (greatest d declared) q) λ h.
        attempt line q (ensure (not (eqb (object_class d declared h.id) 0) || (not true && not (eqb (greatest d declared) 0))) UnknownId) λ _.
        opened_by d B true tidy (object_class d declared h.id) (greatest d declared) line index h w)
        (attempt line q (header B w (class_at d declared) (greatest d declared) q) λ h.
        attempt line q (ensure (not (eqb (object_class d declared h.id) 0) || (not false && not (eqb (greatest d declared) 0))) UnknownId) λ _.
        opened_by d B false plain (object_class d declared h.id) (greatest d declared) line index h w)
    unfolding opened_by attempt ensure
    tidied_one tidy plain objs line declared index w q p ok le len i =
        tidied_attempt line q _ _ _ λ h e. go h e (eqb (object_class d declared h.id) 0) (eqb (greatest d declared) 0) refl refl
      where
        inner_even : (g : ℕ) (h : Header) → 0 < g → h.after % 8 ≡ 0 → (inner d B g h w).end % 8 ≡ 0
        inner_even zero h l e = let z : ⊥ = omega arith in absurd z
        inner_even (suc g) h l e = omega arith

        ends_at : (h : Header) → header B w (class_at d declared) (greatest d declared) q ≡ Ok h → Fits d p (open_item (object_class d declared h.id) line index h) B →
            end_of d (open_item (object_class d declared h.id) line index h) ≡ h.after
        ends_at h e fits =
            let a = header_again w (class_at d declared) (greatest d declared) q h B e in
            let own : own_bits d (open_item (object_class d declared h.id) line index h) ≡ header_bits (class_at d declared) (greatest d declared) h.id h.size =
            ap (λ c. header_bits (class_at d c) (greatest d c) h.id h.size) ok in
            let pq = idle_ahead B p q i in
            let r = a.again B len (λ k u v. fits.0 k (omega arith) v) (subst (Has B h.place) own fits.1) in
            let f : h.after ≡ h.place + length (header_bits (class_at d declared) (greatest d declared) h.id h.size) =
            ap (λ (z : Header). z.after) (ok_same h _ (sym e ∙ r)) in
            ap (λ xs. h.place + length xs) own ∙ sym f

        go : (h : Header) → header B w (class_at d declared) (greatest d declared) q ≡ Ok h → (b z : Bool) → eqb (object_class d declared h.id) 0 ≡ b → eqb (greatest d declared) 0 ≡ z →
            Tidied (At w.end) p
            (attempt line q (ensure (not b || (not true && not z)) UnknownId) λ _. opened_by d B true tidy (object_class d declared h.id) (greatest d declared) line index h w)
            (attempt line q (ensure (not b || (not false && not z)) UnknownId) λ _. opened_by d B false plain (object_class d declared h.id) (greatest d declared) line index h w)
        go h e true true x y = stops
        go h e true false x y = cut (λ n. n.known (eqb-true _ 0 x))
        go h e false z x y =
            let c = object_class d declared h.id in
            let g = greatest d declared in
            let named : c ≡ 0 → ⊥ = λ r. subst T x (subst (λ k. T (eqb k 0)) (sym r) tt) in
            let a = header_again w (class_at d declared) g q h B e in
            let f = header_facts B w (class_at d declared) g q h e in
            let n = inner_facts d B g h w f.within in
            let o : Object = record { class = c; size = h.size; window = inner d B g h w } in
            shown (record { known = named; near = λ x. absurd x; zeros = λ x. absurd x })
            (λ fits. ends_at h e fits)
            (tidied_bind _ _ (λ s r m j. tidied_closing c line index named o.window s r w.end m n.1 j g (λ l. inner_even g h l (let end = f.ends l (by declared l) in omega arith)))
            (tidied_content o named (omega (arith, n.1)) tidy plain objs st c (record { place = h.after; names = all_zero }) h.after n.0 (here refl)))

    pub tidied_object : (n line declared index : ℕ) (w : Window) (q p : ℕ) → declared_at d line ≡ declared → q ≤ w.end → w.end ≤ length B → Idle B p q →
        Tidied (At w.end) p (object_by d B true n line declared index w q) (object_by d B false n line declared index w q)
    unfolding object_by
    tidied_object zero line declared index w q p ok le len i = stops
    tidied_object (suc n) line declared index w q p ok le len i =
        tidied_one (object_by d B true n) (object_by d B false n) (tidied_object n) line declared index w q p ok le len i

    pub tidied_reading : Tidied (λ p (u : Unit {0}). Unit {0}) 0 (reading_by d B true) (reading_by d B false)
    unfolding reading_by
    tidied_reading =
        tidied_bind _ _ (λ t p m i. tidied_attempt 0 t.place (at_end B t.place) done done (λ x e. ends tt))
        (tidied_object 16 0 d.top 0 (record { end = length B; object = false }) 0 0 refl (omega arith) (omega arith) (here refl))
