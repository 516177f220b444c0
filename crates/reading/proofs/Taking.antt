-- Offering an item: steps one after another, and putting a walk back.
use Rattle.std.proofs.Common.{◌≡◌, ◌≢◌, ℕ, zero, suc, ◌-◌, ◌<◌, ◌≤◌, min, Bool, true, false, cond, not, ◌||◌, eqb, List, ◌∷◌, length, get_or, set, Some, None, Ok, Err, sym, refl, ap, ◌∙◌, subst, ap₂, arith, get_or-set_same, get_or-set_other}
use native.Mathlib.Decide.{dec_le}
use Rattle.std.proofs.lemmas.List.{length-set}
use Rattle.table.specs.Description.{Description, class_at}
use Rattle.rules.specs.declared.items.Item.{Item}
use Rattle.rules.specs.Trace.{Run, out, pass, stop, done, bind}
use Rattle.rules.specs.Checks.{Check, attempt, ensure}
use Rattle.rules.specs.Reading.{State, reading, object, opened}
use Rattle.rules.specs.declared.faults.ReadingCause.TheVariants.{UnknownId}
use Rattle.rules.specs.declared.steps.Window.{Window}
use Rattle.rules.specs.Lookups.{greatest, object_class}
use Rattle.rules.specs.Steps.{header}
use Rattle.std.proofs.lemmas.Bool.Decides.{nat_tests}
use Rattle.roundtrip.specs.Standing.{head, gives, ends}
use Rattle.objects.specs.Passed.{passed}
use Rattle.objects.specs.Tops.{tops}
use Rattle.objects.proofs.Alikes.{alike_self, less_alike}
use Rattle.reading.specs.declared.open_object.OpenObject.{OpenObject}
use Rattle.reading.specs.declared.walk.Walk.{Walk}
use Rattle.reading.specs.Offers.{Silent, Came, Advanced, Attempted, Undone, Offered, Declines, Resumes, Over}
use Rattle.reading.specs.Pushes.{Leaves, Still, innermost_of, hands_on, spared}
use Rattle.reading.specs.Walks.{Answer, no_object, objects_of, rest, rest_from, walk_ahead, Sound, from_of, EnclosedOnce, EnclosedWalk, Within, Handed, Stepped}
use Rattle.reading.proofs.Enclosing.{begun_from, not_begun_from, stepped_sound, sight_less}
use Rattle.reading.proofs.Stepping.{ahead_of, begun_ahead, not_begun_ahead, innermost, none_open, none_sound, sound_near, sound_all, sound_from}

head_passed : (n : ℕ) (t : Run (Unit {0})) → head (passed n t) ≡ head t
unfolding head
head_passed zero t = refl
head_passed (suc n) t = head_passed n t

-- the innermost object is spared by no answer
few_spared : (b : Bool) (n j : ℕ) → j < n - cond b 2 1 → j < n - 1
few_spared true n j l = omega arith
few_spared false n j l = l

pub spared_few : (w : Walk) (j : ℕ) → j < spared w → j < min w.depth 16 - 1
spared_few w j l = few_spared (hands_on w) (min w.depth 16) j l

spared_still : (v w : Walk) → Still v w → spared w ≡ spared v
spared_still v w s = λ t. min (s.depth t) 16 - cond (not (eqb (s.opened t).used.receiving 0)) 2 1

module _ (d : Description) (bits : List Bool) where
  pub silent_none : (v : Walk) → Sound d v → EnclosedWalk (length bits) v → Silent d bits v v
  silent_none v s e =
      record {
        same = λ B l. refl;
        sound = s;
        enclosed = e;
        forward = omega arith;
        still = λ b. record { started = b; depth = refl; opened = refl; kept = λ j l. refl };
      }

  module _ (v w x : Walk) (s : Silent d bits v w) where
    pub silent_more : Stepped d bits w None x → Leaves w None x → Silent d bits v x
    unfolding head
    silent_more step leaves =
        let b : Within (length bits) (from_of w) x = step.bound s.enclosed in
        let at : from_of x ≡ x.place = begun_from x b.begun in
        let h = s.forward in
        let k = b.ahead in
        record {
          same = λ B l.
              let m = step.moved B (less_alike (omega arith) (omega arith) l) in
              s.same B (less_alike (omega arith) (omega arith) l) ∙ ap head m.same ∙ head_passed m.before _;
          sound = stepped_sound d bits w None x step;
          enclosed = subst (λ (y : Bool). EnclosedOnce y (length bits) (objects_of x) x.place) (sym b.begun) b.enclosed;
          forward = omega arith;
          still = λ st.
              let a = s.still st in
              let c = leaves a.started in
              record { started = c.started; depth = c.depth ∙ a.depth; opened = c.opened ∙ a.opened; kept = λ j l. c.kept j (subst (λ n. j < min n 16 - 1) (sym a.depth) l) ∙ a.kept j l };
        }

    last_came : (a : Answer) → Stepped d bits w (Some a) x → Came d bits v a x
    unfolding head
    last_came (Ok (Some i)) step =
        let h : Handed (length bits) (from_of w) i x = step.bound s.enclosed in
        let f = s.forward in
        let g = h.ahead in
        let k = h.kept in
        let m = h.most in
        let n = sight_less i.kind (from_of w) i.place i.length x.place (omega arith) in
        record {
          next = λ B l.
              let m = step.moved B (less_alike (omega arith) n l) in
              s.same B (less_alike (omega arith) (omega arith) l) ∙ ap head m.same ∙ head_passed m.before _;
          sound = stepped_sound d bits w (Some (Ok (Some i))) x step;
          handed = record {
            within = record { begun = h.within.begun; ahead = omega (arith, h.within.ahead); enclosed = h.within.enclosed };
            ahead = omega arith;
            kept = h.kept;
            most = h.most;
            end = h.end;
          };
          ends = λ st fits. step.ends st (λ j l n. fits.0 j (omega arith) n, fits.1);
        }
    last_came (Ok None) step = let m = step.moved bits alike_self in s.same bits alike_self ∙ ap head m.same ∙ head_passed m.before _
    last_came (Err f) step = let m = step.moved bits alike_self in s.same bits alike_self ∙ ap head m.same ∙ head_passed m.before _

    pub last_answer : (a : Answer) → Stepped d bits w (Some a) x → Leaves w (Some a) x → Advanced d bits v a x
    last_answer a step leaves =
        record {
          came = last_came a step;
          kept = λ st.
              let b = s.still st in
              λ j l. leaves b.started j (subst (λ n. j < n) (sym (spared_still v w b)) l) ∙ b.kept j (spared_few v j l);
        }

  -- another item than what came next does not come next
  pub declined : (v x : Walk) (a : Answer) (wanted : Item) → Came d bits v a x → a ≢ Ok (Some wanted) → (r : Run (Unit {0})) → head (walk_ahead d bits v) ≢ gives wanted r
  declined v x (Ok (Some i)) wanted came other r e =
      let both = sym (came.next bits alike_self) ∙ e in
      let same : i ≡ wanted = cc in
      other (ap (λ (y : Item). Ok (Some y)) same)
  declined v x (Ok None) wanted came other r e = let both = sym came ∙ e in let z : ◌≡◌ {A = ℕ} 0 1 = cc in omega arith
  declined v x (Err f) wanted came other r e = let both = sym came ∙ e in let z : ◌≡◌ {A = ℕ} 0 1 = cc in omega arith

-- a stack of the same objects
tops_same : {A : Type 0} (none : A) (xs ys : List A) (n : ℕ) → ((j : ℕ) → j < n → get_or xs j none ≡ get_or ys j none) → tops none xs n ≡ tops none ys n
unfolding tops
tops_same none xs ys zero h = refl
tops_same none xs ys (suc n) h = ap₂ ◌∷◌ (h n (omega arith)) (tops_same none xs ys n (λ j l. h j (omega arith)))

-- the innermost is put back
one_back : {A : Type 0} (none : A) (xs ys : List A) (n : ℕ) → n ≤ length xs → ((j : ℕ) → j < n - 1 → get_or xs j none ≡ get_or ys j none)
    → (j : ℕ) → j < n → get_or (set xs (n - 1) (get_or ys (n - 1) none)) j none ≡ get_or ys j none
one_back none xs ys n long kept j l =
    elim (dec_le (n - 1) j) [
      | yes h ↦ (
          let e : j ≡ n - 1 = omega arith in
          subst (λ m. get_or (set xs m (get_or ys m none)) j none ≡ get_or ys j none) e (get_or-set_same xs j (get_or ys j none) none (omega arith)))
      | no h ↦ (let o : j ≢ n - 1 = omega arith in get_or-set_other xs (n - 1) j (get_or ys (n - 1) none) none o ∙ kept j (omega arith))
    ]

-- and the one around it
two_back : {A : Type 0} (none : A) (xs ys : List A) (n : ℕ) → n ≤ length xs → ((j : ℕ) → j < n - 2 → get_or xs j none ≡ get_or ys j none)
    → (j : ℕ) → j < n → get_or (set (set xs (n - 1) (get_or ys (n - 1) none)) (n - 2) (get_or ys (n - 2) none)) j none ≡ get_or ys j none
two_back none xs ys n long kept j l =
    let zs = set xs (n - 1) (get_or ys (n - 1) none) in
    let k = length-set xs (n - 1) (get_or ys (n - 1) none) in
    elim (dec_le (n - 1) j) [
      | yes h ↦ (
          elim (dec_le j (n - 2)) [
            | yes g ↦ (
                let e : j ≡ n - 2 = omega arith in
                subst (λ m. get_or (set zs m (get_or ys m none)) j none ≡ get_or ys j none) e (get_or-set_same zs j (get_or ys j none) none (omega arith)))
            | no g ↦ (
                let o : j ≢ n - 2 = omega arith in
                let e : j ≡ n - 1 = omega arith in
                get_or-set_other zs (n - 2) j (get_or ys (n - 2) none) none o
                ∙ subst (λ m. get_or (set xs m (get_or ys m none)) j none ≡ get_or ys j none) e (get_or-set_same xs j (get_or ys j none) none (omega arith)))
          ])
      | no h ↦ (
          elim (dec_le (n - 2) j) [
            | yes g ↦ (
                let e : j ≡ n - 2 = omega arith in
                subst (λ m. get_or (set zs m (get_or ys m none)) j none ≡ get_or ys j none) e (get_or-set_same zs j (get_or ys j none) none (omega arith)))
            | no g ↦ (
                let o : j ≢ n - 2 = omega arith in
                let q : j ≢ n - 1 = omega arith in
                get_or-set_other zs (n - 2) j (get_or ys (n - 2) none) none o
                ∙ get_or-set_other xs (n - 1) j (get_or ys (n - 1) none) none q
                ∙ kept j (omega arith))
          ])
    ]

module _ (d : Description) (v : Walk) (sound : Sound d v) where
  -- a walk that had not begun
  unstarted : (xs : List OpenObject) → v.started ≡ false → Resumes d v (record { objects = xs; depth = 0; place = 0; started = false })
  unstarted xs f =
      record {
        ahead = λ B. sym (not_begun_ahead d B v f);
        sound = none_sound d _ refl refl;
        from = sym (not_begun_from v f);
        enclosed = λ L h. tt;
      }

  -- one that has begun, with the same open objects
  resumed : (xs : List OpenObject) → v.started ≡ true → ((j : ℕ) → j < min v.depth 16 → get_or xs j no_object ≡ get_or v.objects j no_object)
      → Resumes d v (record { objects = xs; depth = v.depth; place = v.place; started = true })
  unfolding objects_of
  resumed xs st all =
      let w : Walk = record { objects = xs; depth = v.depth; place = v.place; started = true } in
      let same : objects_of w ≡ objects_of v = tops_same no_object xs v.objects (min v.depth 16) all in
      record {
        ahead = λ B. ahead_of d B w (objects_of v) v.place refl same refl ∙ sym (begun_ahead d B v st);
        sound = sound_from d w (objects_of v) same (sound_all d v sound) (sound_near d v sound);
        from = sym (begun_from v st);
        enclosed = λ L h.
            subst (λ (X : Type 0). X) (sym (λ t. EnclosedOnce true L (same t) v.place))
            (subst (λ (y : Bool). EnclosedOnce y L (objects_of v) v.place) st h);
      }

  module _ (bits : List Bool) (i : Item) where
    -- nothing else had to be put back
    undone_by : (b : Bool) → v.started ≡ b → hands_on v ≡ false → (x : Walk) → length x.objects ≡ 16 → (v.started ≡ true → (j : ℕ) → j < spared v → get_or x.objects j no_object ≡ get_or v.objects j no_object)
        → (after : Walk) → after ≡ cond b (record { objects = set x.objects (min v.depth 16 - 1) (innermost_of v); depth = v.depth; place = v.place; started = true }) (record { objects = x.objects; depth = 0; place = 0; started = false }) → Resumes d v after
    undone_by true st other x long kept after back =
        let few : spared v ≡ min v.depth 16 - 1 = ap (λ (b : Bool). min v.depth 16 - cond b 2 1) other in
        subst (Resumes d v) (sym back) (resumed (set x.objects (min v.depth 16 - 1) (innermost_of v)) st
        (one_back no_object x.objects v.objects (min v.depth 16) (omega arith) (λ j l. kept st j (subst (λ n. j < n) (sym few) l))))
    undone_by false st other x long kept after back = subst (Resumes d v) (sym back) (unstarted x.objects st)

    pub offered_alone : (b : Bool) (after : Walk) → hands_on v ≡ false → Attempted d bits v i b after → Offered d bits v i b after
    offered_alone true after other h = h
    offered_alone false after other h =
        record { other = h.other; resumes = undone_by v.started refl other h.left h.long h.kept after h.back }

    -- the object around the innermost is put back too
    both_back : (b : Bool) → v.started ≡ b → hands_on v ≡ true → (x : Walk) → length x.objects ≡ 16 → (v.started ≡ true → (j : ℕ) → j < spared v → get_or x.objects j no_object ≡ get_or v.objects j no_object)
        → (after : Walk) → after ≡ cond b (record { objects = set x.objects (min v.depth 16 - 1) (innermost_of v); depth = v.depth; place = v.place; started = true }) (record { objects = x.objects; depth = 0; place = 0; started = false })
        → Resumes d v (record { objects = set after.objects (min v.depth 16 - 2) (get_or v.objects (min v.depth 16 - 2) no_object); depth = after.depth; place = after.place; started = after.started })
    both_back true st hands x long kept after back =
        let few : spared v ≡ min v.depth 16 - 2 = ap (λ (b : Bool). min v.depth 16 - cond b 2 1) hands in
        subst (λ (y : Walk). Resumes d v (record { objects = set y.objects (min v.depth 16 - 2) (get_or v.objects (min v.depth 16 - 2) no_object); depth = y.depth; place = y.place; started = y.started })) (sym back)
        (resumed (set (set x.objects (min v.depth 16 - 1) (innermost_of v)) (min v.depth 16 - 2) (get_or v.objects (min v.depth 16 - 2) no_object)) st
        (two_back no_object x.objects v.objects (min v.depth 16) (omega arith) (λ j l. kept st j (subst (λ n. j < n) (sym few) l))))
    both_back false st hands x long kept after back =
        subst (λ (y : Walk). Resumes d v (record { objects = set y.objects (min v.depth 16 - 2) (get_or v.objects (min v.depth 16 - 2) no_object); depth = y.depth; place = y.place; started = y.started })) (sym back)
        (unstarted (set x.objects (min v.depth 16 - 2) (get_or v.objects (min v.depth 16 - 2) no_object)) st)

    pub declined_both : (after : Walk) (m : ℕ) (o : OpenObject) → hands_on v ≡ true → m ≡ min v.depth 16 - 2 → o ≡ get_or v.objects m no_object → Undone d bits v i after
        → Declines d bits v i (record { objects = set after.objects m o; depth = after.depth; place = after.place; started = after.started })
    declined_both after m o hands em eo h =
        let whole : o ≡ get_or v.objects (min v.depth 16 - 2) no_object = eo ∙ ap (λ n. get_or v.objects n no_object) em in
        record {
          other = h.other;
          resumes = subst (Resumes d v) (sym (λ t. record { objects = set after.objects (em t) (whole t); depth = after.depth; place = after.place; started = after.started }))
              (both_back v.started refl hands h.left h.long h.kept after h.back);
        }

-- a run that goes on after one that hands out something, or goes on, does not end at once
module _ {A B : Type 0} (k : A → Run B) (u : B) where
  bind_not : ((a : A) → head (k a) ≢ ends u) → (t : Run A) → head (bind t k) ≢ ends u
  unfolding bind head
  bind_not h (out i t) e = let z : ◌≡◌ {A = ℕ} 0 1 = cc in omega arith
  bind_not h (pass t) e = bind_not h t e
  bind_not h (stop f) e = let z : ◌≡◌ {A = ℕ} 0 1 = cc in omega arith
  bind_not h (done a) e = h a e

  attempt_not : {X : Type 0} (line p : ℕ) (c : Check X) (f : X → Run A) → ((x : X) → head (bind (f x) k) ≢ ends u) → head (bind (attempt line p c f) k) ≢ ends u
  unfolding bind head attempt
  attempt_not line p (Ok x) f h e = h x e
  attempt_not line p (Err g) f h e = let z : ◌≡◌ {A = ℕ} 0 1 = cc in omega arith

module _ (d : Description) (B : List Bool) where
  object_not : {A : Type 0} (k : State → Run A) (u : A) (n line declared index : ℕ) (w : Window) (p : ℕ) → head (bind (object d B n line declared index w p) k) ≢ ends u
  unfolding object opened bind head
  object_not k u zero line declared index w p = λ e. let z : ◌≡◌ {A = ℕ} 0 1 = cc in omega arith
  object_not k u (suc n) line declared index w p =
      attempt_not k u line p (header B w (class_at d declared) (greatest d declared) p)
      (λ h. attempt line p (ensure (not (eqb (object_class d declared h.id) 0) || not (eqb (greatest d declared) 0)) UnknownId)
      (λ x. opened d B (object d B n) (object_class d declared h.id) (greatest d declared) line index h w))
      (λ h.
      attempt_not k u line p (ensure (not (eqb (object_class d declared h.id) 0) || not (eqb (greatest d declared) 0)) UnknownId)
      (λ x. opened d B (object d B n) (object_class d declared h.id) (greatest d declared) line index h w)
      (λ x e. let z : ◌≡◌ {A = ℕ} 0 1 = cc in omega arith))

  reading_not : head (reading d B) ≢ ends tt
  unfolding reading
  reading_not = object_not _ tt 16 0 d.top 0 _ 0

  open_not : (a : OpenObject) (os : List OpenObject) (p : ℕ) → head (rest d B (a ∷ os) p) ≢ ends tt
  unfolding rest_from head
  open_not a os p = bind_not _ tt (λ t e. let z : ◌≡◌ {A = ℕ} 0 1 = cc in omega arith) _

pub over_by : (w : Walk) (b : Bool) → w.started ≡ true → eqb w.depth 0 ≡ b → Over w b
over_by w true st e = let z : w.depth ≡ 0 = grind (arith, nat_tests) in (st, none_open w z)
over_by w false st e = λ d B h.
    let z : 0 < w.depth = grind (arith, nat_tests) in
    let k : min w.depth 16 ≡ suc (min w.depth 16 - 1) = omega arith in
    let ahead : walk_ahead d B w ≡ rest d B _ w.place = ahead_of d B w _ w.place st (innermost w (min w.depth 16 - 1) k) refl in
    open_not d B _ _ w.place (ap head (sym ahead) ∙ h)

pub over-not : (w : Walk) → w.started ≡ false → Over w w.started
over-not w st = subst (Over w) (sym st) (λ d B h. reading_not d B (ap head (sym (not_begun_ahead d B w st)) ∙ h))
