-- What each kind of frame does to what lies ahead in its object.
use Rattle.std.proofs.Common.{◌≡◌, ℕ, zero, suc, ◌+◌, ◌-◌, ◌<◌, ◌≤◌, min, Bool, true, false, eqb, leb, ◌⊎◌, List, [], ◌∷◌, length, drop, ℤ, Ok, Err, Result, sym, refl, ap, ◌∙◌, subst, inl, inr, add-one, arith, drop-cons}
use Rattle.std.proofs.lemmas.Bool.Decides.{nat_tests}
use Rattle.std.proofs.lemmas.List.{drop_all}
use Rattle.records.specs.declared.records.Extension.{Extension}
use Rattle.table.specs.Description.{Description, entry, extension_at, no_extension}
use Rattle.rules.specs.declared.faults.Failure.{Failure}
use Rattle.rules.specs.declared.faults.ReadingFault.{ReadingFault}
use Rattle.rules.specs.declared.faults.ReadingCause.TheVariants.{TooFew, TooManyRounds}
use Rattle.rules.specs.declared.steps.Got.{Got}
use Rattle.records.specs.declared.statements.ReadLine.{ReadLine}
use Rattle.records.specs.declared.statements.UseLine.{UseLine}
use Rattle.rules.specs.Trace.{Run, out, pass, stop, done, bind, bind_assoc}
use Rattle.rules.specs.Checks.{Check, attempt, ensure, fault}
use Rattle.rules.specs.Values.{is_zero}
use Rattle.rules.specs.Steps.{element, next_multiple, aligned}
use Rattle.rules.specs.Code.{code}
use Rattle.rules.specs.Reading.{State, Object, Objects, valued, elements, objects, enough_objects, objects_to_end, rounds, run, write, after_object, value_item, extensions}
use Rattle.objects.specs.declared.frame.Frame.{Frame}
use Rattle.objects.specs.declared.frame.Frame.TheVariants.{Lines, Rounds, Elements, Counted, Uncounted}
use Rattle.objects.specs.declared.moves.Move.{Move}
use Rattle.objects.specs.declared.moves.Move.TheVariants.{Quiet, Give, Begin, Leave}
use Rattle.objects.specs.Ahead.{Inner, onto, with_names, state, frame_run, content_run, inner_run, code_run, height, wants, Reads, Uses, Fit, Room, Readable}
use Rattle.objects.specs.Moves.{Moved}
use Rattle.objects.proofs.Blocks.{following, while_code}

-- the same step from what lies ahead in other words
pub moved_from : (d : Description) (bits : List Bool) (o : Object) {from to : Objects → Run State} (p : ℕ) (r : Result Move ReadingFault) (c : Inner)
    → ((obj : Objects) → from obj ≡ to obj) → Moved d bits o to p r c → Moved d bits o from p r c
moved_from d bits o p (Ok (Quiet q)) c e m = record { before = m.before; same = λ obj. e obj ∙ m.same obj; fit = m.fit; near = m.near }
moved_from d bits o p (Ok (Give i q)) c e m = record { before = m.before; same = λ obj. e obj ∙ m.same obj; kind = m.kind; ends = m.ends; fit = m.fit; near = m.near }
moved_from d bits o p (Err f) c e m = record { before = m.before; same = λ obj. e obj ∙ m.same obj; fit = m.fit }
moved_from d bits o p (Ok (Begin line u index)) c e m = record { before = m.before; same = λ obj. e obj ∙ m.same obj; fit = m.fit; uses = m.uses }
moved_from d bits o p (Ok Leave) c e m = record { before = m.before; same = λ obj. e obj ∙ m.same obj; fit = m.fit }

-- a number that is not used up
one_less : (n : ℕ) → 0 < n → n ≡ suc (n - 1)
one_less n h = omega arith

more_left : (total index : ℕ) → index < total → total - index ≡ suc (total - (index + 1))
more_left total index h = omega arith

none_left : (total index : ℕ) → total ≤ index → total - index ≡ 0
none_left total index h = omega arith

module _ (d : Description) (bits : List Bool) (o : Object) (c : Inner) (p : ℕ) where
  abbrev others : Objects → State → Run State
  others obj = content_run d bits obj o c.extension c.frames

  -- the rounds of a while
  module _ (line node count : ℕ) where
    abbrev test : State → Check ℤ
    test t = valued d bits o t node

    abbrev body : Objects → State → Run State
    body obj = run d bits obj o (following d line count)

    rounds_fail : (left : ℕ) (f : Failure) → Err f ≡ valued d bits o (state p c) node → (obj : Objects)
        → rounds d bits test (body obj) line left (state p c) ≡ stop (fault f.cause line f.node p)
    unfolding rounds attempt
    rounds_fail zero f e obj = rw (← e) refl
    rounds_fail (suc n) f e obj = rw (← e) refl

    rounds_end : (left : ℕ) (v : ℤ) → Ok v ≡ valued d bits o (state p c) node → is_zero v ≡ true → (obj : Objects)
        → rounds d bits test (body obj) line left (state p c) ≡ pass (done (state p c))
    unfolding rounds attempt ensure
    rounds_end zero v e z obj = rw (← e, z) refl
    rounds_end (suc n) v e z obj = rw (← e, z) refl

    rounds_stop : (left : ℕ) → left ≡ 0 → (v : ℤ) → Ok v ≡ valued d bits o (state p c) node → is_zero v ≡ false → (obj : Objects)
        → rounds d bits test (body obj) line left (state p c) ≡ stop (fault TooManyRounds line 0 p)
    unfolding rounds attempt ensure
    rounds_stop zero l v e z obj = rw (← e, z) refl
    rounds_stop (suc n) l v e z obj = absurd (omega arith)

    rounds_go : (n : ℕ) (v : ℤ) → Ok v ≡ valued d bits o (state p c) node → is_zero v ≡ false → (obj : Objects)
        → rounds d bits test (body obj) line (suc n) (state p c) ≡ pass (bind (body obj (state p c)) (rounds d bits test (body obj) line n))
    unfolding rounds attempt
    rounds_go n v e z obj = rw (← e, z) refl

    module _ (left : ℕ) where
      pub round_fails : (f : Failure) → Err f ≡ valued d bits o (state p c) node → (obj : Objects)
          → inner_run d bits o (onto (Rounds line node count left) c) p obj ≡ stop (fault f.cause line f.node p)
      unfolding content_run frame_run bind
      round_fails f e obj = ap (λ (r : Run State). bind r (others obj)) (rounds_fail left f e obj)

      pub round_ends : (v : ℤ) → Ok v ≡ valued d bits o (state p c) node → is_zero v ≡ true → (obj : Objects)
          → inner_run d bits o (onto (Rounds line node count left) c) p obj ≡ pass (inner_run d bits o c p obj)
      unfolding content_run frame_run bind
      round_ends v e z obj = ap (λ (r : Run State). bind r (others obj)) (rounds_end left v e z obj)

      pub round_stops : left ≡ 0 → (v : ℤ) → Ok v ≡ valued d bits o (state p c) node → is_zero v ≡ false → (obj : Objects)
          → inner_run d bits o (onto (Rounds line node count left) c) p obj ≡ stop (fault TooManyRounds line 0 p)
      unfolding content_run frame_run bind
      round_stops l v e z obj = ap (λ (r : Run State). bind r (others obj)) (rounds_stop left l v e z obj)

      pub round_goes : 0 < left → (v : ℤ) → Ok v ≡ valued d bits o (state p c) node → is_zero v ≡ false → (obj : Objects)
          → inner_run d bits o (onto (Rounds line node count left) c) p obj
          ≡ pass (inner_run d bits o (onto (Lines (line + 1) count) (onto (Rounds line node count (left - 1)) c)) p obj)
      unfolding content_run frame_run bind
      round_goes l v e z obj =
          rw add-one
          (ap (λ n. bind (rounds d bits test (body obj) line n (state p c)) (others obj)) (one_less left l)
          ∙ ap (λ (r : Run State). bind r (others obj)) (rounds_go (left - 1) v e z obj)
          ∙ ap pass (bind_assoc (body obj (state p c)) (rounds d bits test (body obj) line (left - 1)) (others obj)))

      pub round_room : Fit d (Rounds line node count left ∷ c.frames) → Fit d (Lines (line + 1) count ∷ Rounds line node count (left - 1) ∷ c.frames)
      unfolding Fit wants
      round_room f = rw add-one (omega (arith, f.0), tt, (f.0, tt, f.2))

  -- a while line is its rounds and the lines after its block
  module _ (line after node lines most : ℕ) where
    pub while_run : (obj : Objects) → code_run d bits o (while_code d line after node lines most) c p obj
        ≡ inner_run d bits o (onto (Rounds line node (min lines after) most) (onto (Lines (line + 1 + min lines after) (after - min lines after)) c)) p obj
    unfolding run content_run frame_run
    while_run obj =
        rw add-one
        (bind_assoc (rounds d bits (test line node (min lines after)) (body line node (min lines after) obj) line most (state p c)) (run d bits obj o (code d.lines (suc line + min lines after) (after - min lines after))) (others obj))

    pub while_room : Room d (while_code d line after node lines most) c.frames
        → Fit d (Rounds line node (min lines after) most ∷ Lines (line + 1 + min lines after) (after - min lines after) ∷ c.frames)
    unfolding height Fit wants
    while_room r = let h = r.high in rw add-one (omega arith, tt, (omega arith, tt, r.fit))

  -- the elements of a read
  module _ (line : ℕ) (l : ReadLine) (index total : ℕ) where
    pub elements_end : total ≤ index → (obj : Objects) → inner_run d bits o (onto (Elements line l index total) c) p obj ≡ pass (inner_run d bits o c p obj)
    unfolding content_run frame_run bind elements
    elements_end h obj = rw (none_left total index h) refl

    abbrev next_element : Check Got
    next_element =
        element bits o.window l (valued d bits o (state p c) l.width) (valued d bits o (state p c) l.lowest) (valued d bits o (state p c) l.highest) p

    pub element_fails : index < total → (f : Failure) → Err f ≡ next_element → (obj : Objects)
        → inner_run d bits o (onto (Elements line l index total) c) p obj ≡ stop (fault f.cause line f.node p)
    unfolding content_run frame_run bind elements attempt
    element_fails h f e obj = rw (more_left total index h, ← e) refl

    pub element_run : index < total → (g : Got) → Ok g ≡ next_element → (obj : Objects)
        → inner_run d bits o (onto (Elements line l index total) c) p obj
        ≡ out (value_item o line index g)
        (inner_run d bits o (onto (Elements line l (index + 1) total) (with_names (write l.name g.value c.names) c)) g.after obj)
    unfolding content_run frame_run bind elements attempt
    element_run h g e obj = rw (more_left total index h, ← e, add-one) refl

    pub element_room : Fit d (Elements line l index total ∷ c.frames) → Fit d (Elements line l (index + 1) total ∷ c.frames)
    unfolding Fit wants
    element_room f = f

    pub element_reads : Fit d (Elements line l index total ∷ c.frames) → Reads d line l
    unfolding Fit
    element_reads f = f.1

  -- the objects of a counted use
  module _ (line : ℕ) (l : UseLine) (index total : ℕ) where
    pub counted_end : total ≤ index → (obj : Objects) → inner_run d bits o (onto (Counted line l index total) c) p obj ≡ pass (inner_run d bits o c p obj)
    unfolding content_run frame_run bind objects
    counted_end h obj = rw (none_left total index h) refl

    pub counted_begins : index < total → (obj : Objects)
        → inner_run d bits o (onto (Counted line l index total) c) p obj
        ≡ bind (obj line l.class index o.window p)
        (λ t. content_run d bits obj o c.extension (Counted line l (index + 1) total ∷ c.frames) (after_object l t (state p c)))
    unfolding content_run frame_run objects
    counted_begins h obj =
        rw (more_left total index h, add-one)
        (bind_assoc (obj line l.class index o.window p) (λ t. objects d bits obj o line l (total - suc index) (suc index) (after_object l t (state p c))) (others obj))

    pub counted_room : Fit d (Counted line l index total ∷ c.frames) → Fit d (Counted line l (index + 1) total ∷ c.frames)
    unfolding Fit wants
    counted_room f = f

    pub counted_uses : Fit d (Counted line l index total ∷ c.frames) → Uses d line l
    unfolding Fit
    counted_uses f = f.1

  -- the objects of a use without a count
  module _ (line : ℕ) (l : UseLine) (index : ℕ) where
    few : (n : ℕ) → (n ≡ 0) ⊎ (leb o.window.end (next_multiple 8 p) ≡ true) → (obj : Objects)
        → objects_to_end d bits obj o line l n index (state p c) ≡ enough_objects d bits line l index (state p c)
    unfolding objects_to_end
    few zero h obj = refl
    few (suc n) (inl e) obj = absurd (omega arith)
    few (suc n) (inr e) obj = rw e refl

    pub to_end_stops : (l.most ≤ index) ⊎ (leb o.window.end (next_multiple 8 p) ≡ true) → index < l.least → (obj : Objects)
        → inner_run d bits o (onto (Uncounted line l index) c) p obj ≡ stop (fault TooFew line 0 p)
    unfolding content_run frame_run bind attempt ensure
    to_end_stops h k obj =
        let t : leb l.least index ≡ false = grind (arith, nat_tests) in
        let z : (l.most - index ≡ 0) ⊎ (leb o.window.end (next_multiple 8 p) ≡ true) = elim h [ inl a ↦ inl (omega arith) | inr b ↦ inr b ] in
        ap (λ (r : Run State). bind r (others obj)) (few (l.most - index) z obj) ∙ rw t refl

    pub to_end_ends : (l.most ≤ index) ⊎ (leb o.window.end (next_multiple 8 p) ≡ true) → l.least ≤ index → (obj : Objects)
        → inner_run d bits o (onto (Uncounted line l index) c) p obj ≡ pass (inner_run d bits o c p obj)
    unfolding content_run frame_run bind attempt ensure
    to_end_ends h k obj =
        let t : leb l.least index ≡ true = grind (arith, nat_tests) in
        let z : (l.most - index ≡ 0) ⊎ (leb o.window.end (next_multiple 8 p) ≡ true) = elim h [ inl a ↦ inl (omega arith) | inr b ↦ inr b ] in
        ap (λ (r : Run State). bind r (others obj)) (few (l.most - index) z obj) ∙ rw t refl

    more : (n : ℕ) → leb o.window.end (next_multiple 8 p) ≡ false → (obj : Objects)
        → objects_to_end d bits obj o line l (suc n) index (state p c)
        ≡ bind (obj line l.class index o.window p) (λ t. objects_to_end d bits obj o line l n (suc index) (after_object l t (state p c)))
    unfolding objects_to_end
    more n e obj = rw e refl

    pub to_end_begins : index < l.most → leb o.window.end (next_multiple 8 p) ≡ false → (obj : Objects)
        → inner_run d bits o (onto (Uncounted line l index) c) p obj
        ≡ bind (obj line l.class index o.window p)
        (λ t. content_run d bits obj o c.extension (Uncounted line l (index + 1) ∷ c.frames) (after_object l t (state p c)))
    unfolding content_run frame_run
    to_end_begins h e obj =
        rw add-one
        (ap (λ n. bind (objects_to_end d bits obj o line l n index (state p c)) (others obj)) (more_left l.most index h ∙ ap (λ k. suc (l.most - k)) (add-one index))
        ∙ ap (λ (r : Run State). bind r (others obj)) (more (l.most - suc index) e obj)
        ∙ bind_assoc (obj line l.class index o.window p) (λ t. objects_to_end d bits obj o line l (l.most - suc index) (suc index) (after_object l t (state p c))) (others obj))

    pub to_end_room : Fit d (Uncounted line l index ∷ c.frames) → Fit d (Uncounted line l (index + 1) ∷ c.frames)
    unfolding Fit wants
    to_end_room f = f

    pub to_end_uses : Fit d (Uncounted line l index ∷ c.frames) → Uses d line l
    unfolding Fit
    to_end_uses f = f.1

  -- the extensions of the object's class
  module _ (none : c.frames ≡ []) where
    only : (obj : Objects) → inner_run d bits o c p obj ≡ extensions d bits obj o (drop c.extension d.extensions) (state p c)
    unfolding content_run
    only obj = ap (λ (fs : List Frame). content_run d bits obj o c.extension fs (state p c)) none

    pub no_extension_left : length d.extensions ≤ c.extension → (obj : Objects) → inner_run d bits o c p obj ≡ done (state p c)
    unfolding extensions
    no_extension_left h obj = only obj ∙ ap (λ (es : List Extension). extensions d bits obj o es (state p c)) (drop_all c.extension d.extensions h)

    module _ (e : Extension) (is : e ≡ extension_at d (c.extension + 1)) (some : c.extension < length d.extensions) where
      here : drop c.extension d.extensions ≡ e ∷ drop (suc c.extension) d.extensions
      unfolding entry
      here =
          let q : extension_at d (suc c.extension) ≡ e = ap (λ n. extension_at d n) (sym (add-one c.extension)) ∙ sym is in
          drop-cons d.extensions c.extension no_extension some ∙ ap (λ (x : Extension). x ∷ drop (suc c.extension) d.extensions) q

      begun : (obj : Objects) → inner_run d bits o c p obj
          ≡ extensions d bits obj o (e ∷ drop (suc c.extension) d.extensions) (state p c)
      begun obj = only obj ∙ ap (λ (es : List Extension). extensions d bits obj o es (state p c)) here

      pub other_extension : eqb e.class o.class ≡ false → (obj : Objects)
          → inner_run d bits o c p obj
          ≡ pass (inner_run d bits o (record { frames = []; extension = c.extension + 1; names = c.names }) p obj)
      unfolding extensions content_run
      other_extension h obj = begun obj ∙ rw (h, add-one) refl

      pub extension_fails : eqb e.class o.class ≡ true → (f : Failure) → Err f ≡ aligned bits o.window 8 p → (obj : Objects)
          → inner_run d bits o c p obj ≡ stop (fault f.cause e.first f.node p)
      unfolding extensions attempt
      extension_fails h f a obj = begun obj ∙ rw (h, ← a) refl

      pub extensions_end : eqb e.class o.class ≡ true → (q : ℕ) → Ok q ≡ aligned bits o.window 8 p → eqb q o.window.end ≡ true
          → (n : ℕ) → length d.extensions ≤ n → (obj : Objects)
          → inner_run d bits o c p obj ≡ pass (inner_run d bits o (record { frames = []; extension = n; names = c.names }) q obj)
      unfolding extensions attempt content_run
      extensions_end h q a t n l obj = begun obj ∙ rw (h, ← a, t, drop_all n d.extensions l) refl

      pub extension_begins : eqb e.class o.class ≡ true → (q : ℕ) → Ok q ≡ aligned bits o.window 8 p → eqb q o.window.end ≡ false → (obj : Objects)
          → inner_run d bits o c p obj
          ≡ pass (inner_run d bits o (record { frames = Lines e.first e.number ∷ []; extension = c.extension + 1; names = c.names }) q obj)
      unfolding extensions attempt content_run frame_run
      extension_begins h q a t obj = begun obj ∙ rw (h, ← a, t, add-one) refl

      pub extension_room : Readable d → Fit d (Lines e.first e.number ∷ [])
      unfolding Fit wants
      extension_room r =
          let k = r.extensions (c.extension + 1) in
          let m : height (code d.lines e.first e.number) ≤ 17 = subst (λ (x : Extension). height (code d.lines x.first x.number) ≤ 17) (sym is) k in
          (omega arith, tt, tt)
