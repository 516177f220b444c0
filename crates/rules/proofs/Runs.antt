-- A run of an older line by the newer description follows its run by the older one.
use Rattle.records.specs.declared.statements.Statement.TheVariants.{Read, Use}
use Rattle.std.proofs.Common.{◌≡◌, ℕ, zero, suc, ◌+◌, ◌<◌, ◌≤◌, Bool, cond, T, eqb, leb, ◌⊎◌, List, length, ℤ, sym, refl, ap, ◌∙◌, subst, inl, inr, arith, Option, Some}
use Rattle.rules.specs.Trace.{Run}
use Rattle.rules.specs.Checks.{Check}
use Rattle.records.specs.Classes.{is_base}
use Rattle.table.specs.Description.{Description, class_at}
use Rattle.rules.specs.Lookups.{greatest}
use Rattle.rules.specs.Values.{Names, is_zero}
use Rattle.rules.specs.declared.steps.Window.{Window}
use Rattle.rules.specs.Steps.{element, mapped, natural, next_multiple}
use Rattle.records.specs.declared.statements.Statement.{Statement}
use Rattle.records.specs.declared.statements.UseLine.{UseLine}
use Rattle.records.specs.declared.statements.ReadLine.{ReadLine}
use Rattle.rules.specs.Code.{Code, finish, read, assign, map_read, use_of, branch, while, code}
use Rattle.rules.specs.Reading.{State, Object, Objects, write, after_object, valued, counted, elements, objects, enough_objects, objects_to_end, used, rounds, run, stretch}
use Rattle.rules.specs.Growth.{Grown}
use Rattle.checked.specs.Sound.{Sound, LineSound}
use Rattle.rules.proofs.Follow.{Follows, ends, shown, both_pass, follows_bind, follows_attempt, follows_pick}
use Rattle.rules.proofs.Struck.{show_value, value_deeper}
use Rattle.rules.proofs.Same.{Each, code_each, code_same, value_same, map_same, map_output_same}

abbrev pub at : ℕ → Names → State
at p names = record { place = p; names = names }

module _ (older : Description) where
  -- names that are equal as far as the older has them
  abbrev pub Agree : Names → Names → Type 0
  Agree new old = (m : ℕ) → m ≤ length older.names → new m ≡ old m

  abbrev pub Same : State → State → Type 0
  Same s t = (s.place ≡ t.place) × Agree s.names t.names

  -- how an object of a class is left: its names may differ where nothing can be carried from it
  abbrev pub Left : ℕ → State → State → Type 0
  Left declared s t = (s.place ≡ t.place) × (Agree s.names t.names ⊎ (T (is_base (class_at older declared)) × (0 < greatest older declared)))

  abbrev pub OldLine : Option Statement → ℕ → Type 0
  OldLine st line = (line ≤ length older.lines) × LineSound older st

  write_agree : (x : ℕ) (v u : ℤ) (new old : Names) → v ≡ u → Agree new old → Agree (write x v new) (write x u old)
  write_agree zero v u new old e h = h
  write_agree (suc x) v u new old e h = λ m l i. cond (eqb m (suc x)) (e i) (h m l i)

  carried_agree : (l : UseLine) → LineSound older (Some (Use l)) → (s t : State) → Left l.class s t → (new old : Names) → Agree new old →
      Agree (write l.receiving (s.names l.carried) new) (write l.receiving (t.names l.carried) old)
  carried_agree l ok s t left new old h = go left.1
    where
      go : (Agree s.names t.names ⊎ (T (is_base (class_at older l.class)) × (0 < greatest older l.class))) →
          Agree (write l.receiving (s.names l.carried) new) (write l.receiving (t.names l.carried) old)
      go (inl a) = write_agree l.receiving _ _ new old (a l.carried ok.2) h
      go (inr b) =
          subst (λ x. Agree (write x (s.names l.carried) new) (write x (t.names l.carried) old)) (sym (ok.3 b.0 b.1)) h

module _ (older : Description) (tidy : Bool) where
  abbrev pub FollowObjects : Objects → Objects → Type 0
  FollowObjects new old =
      (line declared index : ℕ) (w : Window) (p : ℕ) → line ≤ length older.lines → declared ≤ length older.classes →
      Follows older tidy (Left older declared) zero (new line declared index w p) (old line declared index w p)

  -- what holds from one place with names that agree holds from two states that are the same
  pub meet : {A : Type 0} {S : A → A → Type 0} {k : ℕ} (f g : State → Run A) →
      ((p : ℕ) (new old : Names) → Agree older new old → Follows older tidy S k (f (at p new)) (g (at p old))) →
      (s t : State) → Same older s t → Follows older tidy S k (f s) (g t)
  meet {A} {S} {k} f g h s t e =
      subst (λ p. Follows older tidy S k (f (at p s.names)) (g t)) (sym e.0) (h t.place s.names t.names e.1)

module _ (older newer : Description) (gr : Grown older newer) (so : Sound older) (bits : List Bool) (tidy : Bool) where
  module _ (o : Object) where
    valued_same : (p : ℕ) (new old : Names) → Agree older new old → (k : ℕ) → k ≤ length older.nodes →
        valued newer bits o (at p new) k ≡ valued older bits o (at p old) k
    valued_same p new old h k l = value_same older newer gr so o.size new old h k l

    counted_same : (p : ℕ) (new old : Names) → Agree older new old → (k : ℕ) → k ≤ length older.nodes →
        counted newer bits o (at p new) k ≡ counted older bits o (at p old) k
    counted_same p new old h zero l = refl
    counted_same p new old h (suc k) l = ap (natural 65535) (valued_same p new old h (suc k) l)

    follow_elements : (line : ℕ) (l : ReadLine) → OldLine older (Some (Read l)) line → (n index p : ℕ) (new old : Names) → Agree older new old →
        Follows older tidy (Same older) zero (elements newer bits o line l n index (at p new)) (elements older bits o line l n index (at p old))
    unfolding elements
    follow_elements line l ok zero index p new old h = both_pass older tidy (ends (refl, h))
    follow_elements line l ok (suc n) index p new old h =
        follows_attempt older tidy line p ok.0 _ _ _ _
        (λ i. element bits o.window l
        (valued_same p new old h l.width ok.1.0 i) (valued_same p new old h l.lowest ok.1.2 i) (valued_same p new old h l.highest ok.1.3 i) p)
        λ g. shown (show_value older line ok.0 o index g) (value_deeper older 0 o line index g) (λ t. refl)
        (follow_elements line l ok n (suc index) g.after _ _ (write_agree older l.name g.value g.value new old refl h))

    module _ (new_obj old_obj : Objects) (objs : FollowObjects older tidy new_obj old_obj) where
      follow_objects : (line : ℕ) (l : UseLine) → OldLine older (Some (Use l)) line → (n index p : ℕ) (new old : Names) → Agree older new old →
          Follows older tidy (Same older) zero (objects newer bits new_obj o line l n index (at p new)) (objects older bits old_obj o line l n index (at p old))
      unfolding objects
      follow_objects line l ok zero index p new old h = both_pass older tidy (ends (refl, h))
      follow_objects line l ok (suc n) index p new old h =
          follows_bind older tidy _ _
          (λ s t left. meet older tidy
          (λ u. objects newer bits new_obj o line l n (suc index) u) (λ u. objects older bits old_obj o line l n (suc index) u)
          (λ p new old h. follow_objects line l ok n (suc index) p new old h)
          (after_object l s (at p new)) (after_object l t (at p old)) (left.0, carried_agree older l ok.1 s t left new old h))
          (objs line l.class index o.window p ok.0 ok.1.0)

      follow_enough : (line : ℕ) (l : UseLine) → OldLine older (Some (Use l)) line → (index p : ℕ) (new old : Names) → Agree older new old →
          Follows older tidy (Same older) zero (enough_objects newer bits line l index (at p new)) (enough_objects older bits line l index (at p old))
      follow_enough line l ok index p new old h = follows_attempt older tidy line p ok.0 _ _ _ _ refl λ u. both_pass older tidy (ends (refl, h))

      follow_objects_to_end : (line : ℕ) (l : UseLine) → OldLine older (Some (Use l)) line → (n index p : ℕ) (new old : Names) → Agree older new old →
          Follows older tidy (Same older) zero (objects_to_end newer bits new_obj o line l n index (at p new)) (objects_to_end older bits old_obj o line l n index (at p old))
      unfolding objects_to_end
      follow_objects_to_end line l ok zero index p new old h = follow_enough line l ok index p new old h
      follow_objects_to_end line l ok (suc n) index p new old h =
          follows_pick older tidy (leb o.window.end (next_multiple 8 p)) _ _ _ _ (λ t. follow_enough line l ok index p new old h) λ t.
          follows_bind older tidy _ _
          (λ s t left. meet older tidy
          (λ u. objects_to_end newer bits new_obj o line l n (suc index) u) (λ u. objects_to_end older bits old_obj o line l n (suc index) u)
          (λ p new old h. follow_objects_to_end line l ok n (suc index) p new old h)
          (after_object l s (at p new)) (after_object l t (at p old)) (left.0, carried_agree older l ok.1 s t left new old h))
          (objs line l.class index o.window p ok.0 ok.1.0)

      follow_used : (line : ℕ) (l : UseLine) → OldLine older (Some (Use l)) line → (k : ℕ) → k ≤ length older.nodes → (p : ℕ) (new old : Names) → Agree older new old →
          Follows older tidy (Same older) zero (used newer bits new_obj o line l k (at p new)) (used older bits old_obj o line l k (at p old))
      unfolding used
      follow_used line l ok zero b p new old h = both_pass older tidy (follow_objects_to_end line l ok l.most 0 p new old h)
      follow_used line l ok (suc k) b p new old h =
          follows_attempt older tidy line p ok.0 _ _ _ _ (ap (natural 65535) (valued_same p new old h (suc k) b)) λ n.
          both_pass older tidy (follow_objects line l ok n 0 p new old h)

      follow_rounds : (new_test old_test : State → Check ℤ) (new_body old_body : State → Run State) (line : ℕ) → line ≤ length older.lines →
          ((p : ℕ) (new old : Names) → Agree older new old → new_test (at p new) ≡ old_test (at p old)) →
          ((p : ℕ) (new old : Names) → Agree older new old → Follows older tidy (Same older) zero (new_body (at p new)) (old_body (at p old))) →
          (n p : ℕ) (new old : Names) → Agree older new old →
          Follows older tidy (Same older) zero (rounds newer bits new_test new_body line n (at p new)) (rounds older bits old_test old_body line n (at p old))
      unfolding rounds
      follow_rounds nt ot nb ob line l te bo zero p new old h =
          follows_attempt older tidy line p l _ _ _ _ (te p new old h) λ v. follows_attempt older tidy line p l _ _ _ _ refl λ u. both_pass older tidy (ends (refl, h))
      follow_rounds nt ot nb ob line l te bo (suc n) p new old h =
          follows_attempt older tidy line p l _ _ _ _ (te p new old h) λ v.
          both_pass older tidy (follows_pick older tidy (is_zero v) _ _ _ _ (λ t. ends (refl, h)) λ t.
          follows_bind older tidy _ _ (meet older tidy (rounds newer bits nt nb line n) (rounds older bits ot ob line n) (follow_rounds nt ot nb ob line l te bo n)) (bo p new old h))

      pub follow_run : (c : Code) → Each (OldLine older) c → (p : ℕ) (new old : Names) → Agree older new old →
          Follows older tidy (Same older) zero (run newer bits new_obj o c (at p new)) (run older bits old_obj o c (at p old))
      unfolding run
      follow_run finish e p new old h = both_pass older tidy (ends (refl, h))
      follow_run (read line l c) e p new old h =
          follows_attempt older tidy line p e.0.0 _ _ _ _ (counted_same p new old h l.count e.0.1.1) λ n.
          both_pass older tidy (follows_bind older tidy _ _ (meet older tidy (run newer bits new_obj o c) (run older bits old_obj o c) (follow_run c e.1)) (follow_elements line l e.0 n 0 p new old h))
      follow_run (assign line name node c) e p new old h =
          follows_attempt older tidy line p e.0.0 _ _ _ _ (valued_same p new old h node e.0.1) λ v.
          both_pass older tidy (follow_run c e.1 p _ _ (write_agree older name v v new old refl h))
      follow_run (map_read line m name c) e p new old h =
          follows_attempt older tidy line p e.0.0 _ _ _ _
          (λ i. mapped bits o.window (map_same older newer gr m e.0.1 i).width (λ x. map_output_same older newer gr so m e.0.1 x i) p)
          λ g. shown (show_value older line e.0.0 o 0 g) (value_deeper older 0 o line 0 g) (λ t. refl)
          (follow_run c e.1 g.after _ _ (write_agree older name g.value g.value new old refl h))
      follow_run (use_of line l c) e p new old h =
          follows_bind older tidy _ _ (meet older tidy (run newer bits new_obj o c) (run older bits old_obj o c) (follow_run c e.1))
          (follow_used line l e.0 l.count e.0.1.1 p new old h)
      follow_run (branch line node a b c) e p new old h =
          follows_attempt older tidy line p e.0.2.0 _ _ _ _ (valued_same p new old h node e.0.2.1) λ v.
          both_pass older tidy (follows_bind older tidy _ _ (meet older tidy (run newer bits new_obj o c) (run older bits old_obj o c) (follow_run c e.3))
          (follows_pick older tidy (is_zero v) _ _ _ _ (λ t. follow_run b e.2 p new old h) (λ t. follow_run a e.1 p new old h)))
      follow_run (while line node most b c) e p new old h =
          follows_bind older tidy _ _ (meet older tidy (run newer bits new_obj o c) (run older bits old_obj o c) (follow_run c e.2))
          (follow_rounds _ _ _ _ line e.0.1.0 (λ p new old h. valued_same p new old h node e.0.1.1) (follow_run b e.1) most p new old h)

      -- a stretch of older lines
      pub follow_stretch : (f n first number : ℕ) → f ≡ first → n ≡ number → first + number ≤ suc (length older.lines) → (p : ℕ) (new old : Names) → Agree older new old →
          Follows older tidy (Same older) zero (stretch newer bits new_obj o f n (at p new)) (stretch older bits old_obj o first number (at p old))
      unfolding code
      follow_stretch f n first number e b within p new old h =
          subst (λ c. Follows older tidy (Same older) zero (run newer bits new_obj o c (at p new)) (stretch older bits old_obj o first number (at p old)))
          (sym ((λ i. code newer.lines (e i) (b i)) ∙ code_same older newer gr first number within))
          (follow_run (code older.lines first number)
          (code_each (OldLine older) older.lines 0 (suc (length older.lines)) (λ at x y. (omega arith, so.lines at (omega arith))) number first number (omega arith) within)
          p new old h)
