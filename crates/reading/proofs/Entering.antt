-- Objects that begin, go on and are left.
use Rattle.std.proofs.Common.{◌≡◌, ℕ, zero, suc, ◌+◌, ◌-◌, ◌*◌, ◌<◌, ◌≤◌, min, Bool, true, false, cond, not, ◌||◌, eqb, List, ◌∷◌, length, Ok, Err, sym, refl, ap, ◌∙◌, subst, arith}
use native.Mathlib.Bridge.{le_prop}
use Rattle.std.proofs.lemmas.Bool.Decides.{nat_tests}
use Rattle.table.specs.Description.{Description, class_at}
use Rattle.rules.specs.declared.faults.Failure.{Failure}
use Rattle.rules.specs.declared.faults.ReadingFault.{ReadingFault}
use Rattle.rules.specs.declared.faults.ReadingCause.TheVariants.{Unchecked, UnknownId}
use Rattle.rules.specs.declared.items.Item.{Item}
use Rattle.records.specs.declared.statements.UseLine.{UseLine}
use Rattle.rules.specs.declared.steps.Header.{Header}
use Rattle.rules.specs.declared.steps.Window.{Window}
use Rattle.rules.specs.Trace.{Run, out, pass, stop, done, bind, bind_assoc}
use Rattle.rules.specs.Checks.{attempt, ensure, fault}
use Rattle.rules.specs.Lookups.{greatest, object_class}
use Rattle.rules.specs.Steps.{header}
use Rattle.rules.specs.Reading.{State, Object, Objects, write, open_item, close_item, content, inner, closed, opened, object, all_zero, after_object}
use Rattle.values.specs.Names.{named_by}
use Rattle.objects.specs.Passed.{passed}
use Rattle.objects.proofs.Passing.{passed_bind}
use Rattle.objects.specs.declared.inside.Inside.{Inside}
use Rattle.objects.specs.Frames.{frames}
use Rattle.objects.specs.Ahead.{Inner, inner_of, inner_run, content_run, object_of, state, with_names}
use Rattle.objects.specs.Starts.{Begun}
use Rattle.reading.specs.declared.open_object.Using.{Using}
use Rattle.reading.specs.declared.open_object.Opened.{Opened}
use Rattle.reading.specs.declared.open_object.OpenObject.{OpenObject}
use Rattle.reading.specs.Pushes.{after_content}
use Rattle.reading.specs.Walks.{capped, seen, received, rest_from, rest, beginning}

-- an object of a use, as its line uses it
abbrev pub using_of : (line : ℕ) (u : UseLine) (index : ℕ) → u.receiving ≤ 128 → Using
using_of line u index h = record { line = line; class = u.class; index = index; carried = u.carried; receiving = u.receiving; named = h }

-- a proof that a name is one of 128 is as good as another
pub same_using : (line class index carried receiving : ℕ) (p q : receiving ≤ 128)
    → ◌≡◌ {A = Using} (record { line = line; class = class; index = index; carried = carried; receiving = receiving; named = p })
    (record { line = line; class = class; index = index; carried = carried; receiving = receiving; named = q })
same_using line class index carried receiving p q =
    λ i. record { line = line; class = class; index = index; carried = carried; receiving = receiving; named = le_prop p q i }

-- a window that lies in the source is not cut
pub uncut : (n : ℕ) (w : Window) → w.end ≤ n → capped n w ≡ w
uncut n w h = let e : min w.end n ≡ w.end = omega arith in ap (λ (k : ℕ). record { end = k; object = w.object }) e

pub inner_end : (d : Description) (bits : List Bool) (g : ℕ) (h : Header) (w : Window) → h.after + 8 * h.size ≤ w.end → (inner d bits g h w).end ≤ w.end
inner_end d bits zero h w l = omega arith
inner_end d bits (suc g) h w l = l

pub inner-after : (d : Description) (bits : List Bool) (g : ℕ) (h : Header) (w : Window) → h.after + 8 * h.size ≤ w.end → h.after ≤ (inner d bits g h w).end
inner-after d bits zero h w l = omega arith
inner-after d bits (suc g) h w l = omega arith

module _ (d : Description) (bits : List Bool) where
  -- an object inside others, by what it has to do
  abbrev pub within_others : Opened → Inner → List OpenObject → ℕ → Run (Unit {0})
  within_others a c os p =
      bind (inner_run d bits (object_of (seen (length bits) a).about) c p (object d bits (15 - length os))) (after_content d bits a os)

  pub rest_is : (a : Opened) (i : Inside) (os : List OpenObject) (p : ℕ) → rest d bits (record { opened = a; inside = i } ∷ os) p ≡ within_others a (inner_of i) os p
  unfolding rest_from
  rest_is a i os p = refl

  module _ (os : List OpenObject) (used : Using) (w : Window) (p : ℕ) where
    pub begin_full : 16 ≤ length os → beginning d bits os used w p ≡ stop (fault Unchecked used.line 0 p)
    unfolding object bind
    begin_full h = let e : 16 - length os ≡ 0 = omega arith in rw e refl

    module _ (room : length os < 16) where
      next_depth : 16 - length os ≡ suc (15 - length os)
      next_depth = omega arith

      pub begin_fails : (f : Failure) → Err f ≡ header bits w (class_at d used.class) (greatest d used.class) p
          → beginning d bits os used w p ≡ stop (fault f.cause used.line f.node p)
      unfolding object bind attempt
      begin_fails f e = rw (next_depth, ← e) refl

      module _ (h : Header) (e : Ok h ≡ header bits w (class_at d used.class) (greatest d used.class) p) where
        pub begin_unknown : object_class d used.class h.id ≡ 0 → greatest d used.class ≡ 0
            → beginning d bits os used w p ≡ stop (fault UnknownId used.line 0 p)
        unfolding object bind attempt ensure
        begin_unknown y z =
            let t : (not (eqb (object_class d used.class h.id) 0) || not (eqb (greatest d used.class) 0)) ≡ false = grind (arith, nat_tests) in
            rw (next_depth, ← e, t) refl

        module _ (c : ℕ) (is : c ≡ object_class d used.class h.id) (known : (not (eqb c 0) || not (eqb (greatest d used.class) 0)) ≡ true) where
          abbrev opened_it : Opened
          opened_it =
              record {
                about = record { class = c; size = h.size; window = inner d bits (greatest d used.class) h w };
                greatest = greatest d used.class;
                used = used;
              }

          abbrev inside_it : Object
          inside_it = record { class = c; size = h.size; window = inner d bits (greatest d used.class) h w }

          abbrev closes : State → Run (Unit {0})
          closes t =
              let u = closed d bits (greatest d used.class) (inner d bits (greatest d used.class) h w) t in
              out (close_item c used.line used.index u.place) (rest_from d bits os (received used u os))

          opens : beginning d bits os used w p
              ≡ out (open_item c used.line used.index h)
              (bind (content d bits (object d bits (15 - length os)) inside_it c (record { place = h.after; names = all_zero })) closes)
          unfolding object opened bind attempt ensure
          opens =
              let t : (not (eqb (object_class d used.class h.id) 0) || not (eqb (greatest d used.class) 0)) ≡ true = subst (λ k. (not (eqb k 0) || not (eqb (greatest d used.class) 0)) ≡ true) is known in
              rw (next_depth, ← e, t, ← is)
              (ap (out (open_item c used.line used.index h))
              (bind_assoc (content d bits (object d bits (15 - length os)) inside_it c (record { place = h.after; names = all_zero }))
              (λ s. let t = closed d bits (greatest d used.class) (inner d bits (greatest d used.class) h w) s in out (close_item c used.line used.index t.place) (done t))
              (λ t. rest_from d bits os (received used t os))))

          pub begin_enters : (inner d bits (greatest d used.class) h w).end ≤ length bits → (i : Inside) → Begun d c (inner_of i)
              → beginning d bits os used w p
              ≡ out (open_item c used.line used.index h) (rest d bits (record { opened = opened_it; inside = i } ∷ os) h.after)
          begin_enters l i b =
              let cut = uncut (length bits) (inner d bits (greatest d used.class) h w) l in
              opens
              ∙ ap (out (open_item c used.line used.index h))
              (ap (λ (r : Run State). bind r closes) (sym (b.same bits inside_it h.after (object d bits (15 - length os))))
              ∙ ap (λ (v : Window). bind (inner_run d bits (record { class = c; size = h.size; window = v }) (inner_of i) h.after (object d bits (15 - length os)))
              (λ t. let u = closed d bits (greatest d used.class) v t in out (close_item c used.line used.index u.place) (rest_from d bits os (received used u os)))) (sym cut)
              ∙ sym (rest_is opened_it i os h.after))

  -- a step inside the innermost object
  module _ (a : Opened) (os : List OpenObject) (p : ℕ) where
    abbrev here : Inner → ℕ → Objects → Run State
    here c q obj = inner_run d bits (object_of (seen (length bits) a).about) c q obj

    pub quiet_in : (n : ℕ) (c b : Inner) (q : ℕ) → ((obj : Objects) → here c p obj ≡ passed n (pass (here b q obj))) → within_others a c os p ≡ passed n (pass (within_others a b os q))
    unfolding bind
    quiet_in n c b q e = ap (λ (r : Run State). bind r (after_content d bits a os)) (e (object d bits (15 - length os))) ∙ passed_bind n _ (after_content d bits a os)

    pub gives_in : (n : ℕ) (c b : Inner) (i : Item) (q : ℕ) → ((obj : Objects) → here c p obj ≡ passed n (out i (here b q obj))) → within_others a c os p ≡ passed n (out i (within_others a b os q))
    unfolding bind
    gives_in n c b i q e = ap (λ (r : Run State). bind r (after_content d bits a os)) (e (object d bits (15 - length os))) ∙ passed_bind n _ (after_content d bits a os)

    pub refuses_in : (n : ℕ) (c : Inner) (f : ReadingFault) → ((obj : Objects) → here c p obj ≡ passed n (stop f)) → within_others a c os p ≡ passed n (stop f)
    unfolding bind
    refuses_in n c f e = ap (λ (r : Run State). bind r (after_content d bits a os)) (e (object d bits (15 - length os))) ∙ passed_bind n _ (after_content d bits a os)

    pub begins_in : (n : ℕ) (c : Inner) (j : Inside) (line : ℕ) (u : UseLine) (index : ℕ) (h : u.receiving ≤ 128)
        → ((obj : Objects) → here c p obj
        ≡ passed n (bind (obj line u.class index (capped (length bits) a.about.window) p)
        (λ t. content_run d bits obj (object_of (seen (length bits) a).about) j.extension (frames j.frames) (after_object u t (state p (inner_of j))))))
        → within_others a c os p
        ≡ passed n (beginning d bits (record { opened = a; inside = j } ∷ os) (using_of line u index h) (capped (length bits) a.about.window) p)
    unfolding rest_from
    begins_in n c j line u index h e =
        let depth : 15 - length os ≡ 16 - suc (length os) = omega arith in
        let obj = object d bits (15 - length os) in
        ap (λ (r : Run State). bind r (after_content d bits a os)) (e obj)
        ∙ passed_bind n _ (after_content d bits a os)
        ∙ ap (passed n) (bind_assoc (obj line u.class index (capped (length bits) a.about.window) p)
        (λ t. content_run d bits obj (object_of (seen (length bits) a).about) j.extension (frames j.frames) (after_object u t (state p (inner_of j)))) (after_content d bits a os)
        ∙ ap (λ k. bind (object d bits k line u.class index (capped (length bits) a.about.window) p)
        (λ t. rest_from d bits (record { opened = a; inside = j } ∷ os) (received (using_of line u index h) t (record { opened = a; inside = j } ∷ os)))) depth)

    pub leaves_in : (n : ℕ) (c b : Inner) → ((obj : Objects) → here c p obj ≡ passed n (done (state p b))) → within_others a c os p ≡ passed n (after_content d bits a os (state p b))
    unfolding bind
    leaves_in n c b e = ap (λ (r : Run State). bind r (after_content d bits a os)) (e (object d bits (15 - length os))) ∙ passed_bind n _ (after_content d bits a os)

  -- the place after an object
  pub left_at : (a : Opened) (os : List OpenObject) (c : Inner) (p q : ℕ) → q ≡ cond (eqb a.greatest 0) p (min a.about.window.end (length bits))
      → after_content d bits a os (state p c)
      ≡ out (close_item a.about.class a.used.line a.used.index q) (rest_from d bits os (received a.used (state q c) os))
  left_at a os c p q e = go a.greatest e
    where
      go : (g : ℕ) → q ≡ cond (eqb g 0) p (min a.about.window.end (length bits))
          → after_content d bits (record { about = a.about; greatest = g; used = a.used }) os (state p c)
          ≡ out (close_item a.about.class a.used.line a.used.index q) (rest_from d bits os (received a.used (state q c) os))
      go zero k = rw k refl
      go (suc g) k =
          let z : eqb (suc g) 0 ≡ false = grind (arith, nat_tests) in
          let m : q ≡ min a.about.window.end (length bits) = k ∙ ap (λ b. cond b p (min a.about.window.end (length bits))) z in
          rw m refl

  -- the value that an object hands on
  pub one_receives : (used : Using) (s : State) (b : OpenObject) (j : Inside) (os : List OpenObject)
      → inner_of j ≡ with_names (write used.receiving (s.names used.carried) (named_by b.inside.names)) (inner_of b.inside)
      → rest_from d bits (b ∷ os) (received used s (b ∷ os)) ≡ rest d bits (record { opened = b.opened; inside = j } ∷ os) s.place
  unfolding rest_from
  one_receives used s b j os e =
      ap (λ (c : Inner). within_others b.opened c os s.place) (sym e)
