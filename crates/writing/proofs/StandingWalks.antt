-- Wherever a walk stands, it stands as a writing wants it: the item that comes next over some bits comes next over
-- all that have what putting it appends.
use Rattle.std.proofs.Common.{◌≡◌, ℕ, zero, suc, ◌-◌, ◌≤◌, Bool, true, false, cond, List, [], ◌∷◌, length, drop, Ok, Some, sym, refl, ap, subst, add-zero, arith}
use Rattle.table.specs.Description.{Description, statement_at}
use Rattle.rules.specs.declared.items.Item.{Item}
use Rattle.rules.specs.declared.steps.Window.{Window}
use Rattle.rules.specs.Checks.{attempt}
use Rattle.rules.specs.Code.{code}
use Rattle.rules.specs.Order.{declared_at}
use Rattle.rules.specs.Reading.{State, Object, run, valued, closed, close_item, object, reading}
use Rattle.rules.specs.Tidy.{object_by, reading_by}
use Rattle.rules.specs.Trace.{out, bind}
use Rattle.rules.proofs.Plain.{plain_object, plain_reading}
use Rattle.roundtrip.specs.Own.{end_of, Sensible}
use Rattle.roundtrip.specs.Standing.{Fam, Stands}
use Rattle.roundtrip.specs.Writing.{Straight}
use Rattle.records.specs.declared.statements.Statement.TheVariants.{Read, Use}
use Rattle.roundtrip.proofs.Lines.{tells_at}
use Rattle.roundtrip.proofs.Heads.{stands_bind, stands_pass, stands_same}
use Rattle.rules.proofs.Facts.{place_of}
use Rattle.roundtrip.proofs.Lifted.{stands_step, stands_elements, stands_objects, stands_to_end, stands_rounds, stands_stretch, stands_extensions, stands_object, stands_end, stands_reading}
use Rattle.objects.specs.declared.frame.Frame.{Frame}
use Rattle.objects.specs.declared.frame.Frame.TheVariants.{Lines, After, Rounds, Elements, Counted, Uncounted}
use Rattle.objects.specs.Ahead.{Lined, Fit, frame_run, content_run, object_of}
use Rattle.objects.specs.Frames.{frames}
use Rattle.reading.specs.declared.open_object.OpenObject.{OpenObject}
use Rattle.reading.specs.declared.walk.Walk.{Walk}
use Rattle.reading.specs.Walks.{objects_of, capped, seen, names_of, received, rest_from, rest, walk_ahead, AllFit, Sound, Enclosed, EnclosedOnce, EnclosedWalk, from_of}
use Rattle.reading.proofs.Enclosing.{enclosed_less, enclosed_end}

module _ (d : Description) (L : ℕ) where
  -- an item that comes whatever the bits are
  stands_out : {A : Type 0} {end : A → ℕ} {most p : ℕ} (i : Item) (K : Fam A) → p ≤ i.place → end_of d i ≤ L → Sensible d i →
      Stands d L end most (end_of d i) K → Stands d L end most p (λ B. out i (K B))
  unfolding attempt
  stands_out i K ahead within sense after =
      stands_step d L {X = Unit {0}} 0 0 (λ _. Ok (tt {0})) (λ _. i) (λ _. K) (λ _. K)
      λ B x l e. record { ahead = ahead; within = within; sensible = sense; again = λ C m f. refl; rest = after }

  module _ (st : Straight d) (n : ℕ) where
    plain : (line declared index : ℕ) (w : Window) (p : ℕ) → declared_at d line ≡ declared → p ≤ w.end → w.end ≤ L →
        Stands d L place_of w.end p (λ B. object d B n line declared index w p)
    plain line declared index w p ok h m =
        stands_same d L (λ B. object_by d B false n line declared index w p) (λ B. object d B n line declared index w p)
        (λ B l. λ i. plain_object d B n i line declared index w p)
        (stands_object d L st false n line declared index w p ok h m)

    module _ (o : Object) (inside : o.window.end ≤ L) where
      stands_frame : (f : Frame) → Lined d f → (s : State) → s.place ≤ o.window.end →
          Stands d L place_of o.window.end s.place (λ B. frame_run d B (object d B n) o f s)
      unfolding frame_run statement_at
      stands_frame (Lines at count) ok s h = stands_stretch d L o inside (λ B. object d B n) plain st at count s h
      stands_frame (After at count) ok s h = stands_pass d L (stands_stretch d L o inside (λ B. object d B n) plain st at count s h)
      stands_frame (Rounds line node count left) ok s h =
          stands_rounds d L o inside (λ B. object d B n) plain (λ t. valued d [] o t node) (λ B. run d B (object d B n) o (code d.lines (suc line) count)) line
          (λ t m. stands_stretch d L o inside (λ B. object d B n) plain st (suc line) count t m) left s h
      stands_frame (Elements line fields index total) ok s h =
          stands_elements d L o inside line fields (tells_at d st line (Some (Read fields)) ok) (total - index) index s h
      stands_frame (Counted line fields index total) ok s h =
          stands_objects d L o inside (λ B. object d B n) plain line fields (tells_at d st line (Some (Use fields)) ok) (total - index) index s h
      stands_frame (Uncounted line fields index) ok s h =
          stands_to_end d L o inside (λ B. object d B n) plain line fields (tells_at d st line (Some (Use fields)) ok) (fields.most - index) index s h

      stands_frames : (ext : ℕ) (fs : List Frame) → Fit d fs → (s : State) → s.place ≤ o.window.end →
          Stands d L place_of o.window.end s.place (λ B. content_run d B (object d B n) o ext fs s)
      unfolding content_run Fit
      stands_frames ext [] ok s h = stands_extensions d L o inside (λ B. object d B n) plain st (drop ext d.extensions) s h
      stands_frames ext (f ∷ fs) ok s h =
          stands_bind d L (λ t B. content_run d B (object d B n) o ext fs t) (stands_frame f ok.1 s h) (λ t le m. stands_frames ext fs ok.2 t m)

  module _ (st : Straight d) where
    closed_at : (B : List Bool) (g : ℕ) (w : Window) (t : State) → t.place ≤ w.end → (t.place ≤ (closed d B g w t).place) × ((closed d B g w t).place ≤ w.end)
    closed_at B zero w t h = (omega arith, h)
    closed_at B (suc g) w t h = (h, omega arith)

    stands_rest : (os : List OpenObject) (s : State) → AllFit d os → Enclosed L os s.place → Stands d L (λ (u : Unit {0}). L) L s.place (λ B. rest_from d B os s)
    unfolding rest_from AllFit
    stands_rest [] s fit e = stands_end d L st false s.place e
    stands_rest (a ∷ os) s fit e =
        let w : Window = capped L a.opened.about.window in
        let low : a.opened.about.window.end ≤ L = enclosed_end L os a.opened.about.window.end e.1 in
        let o : Object = object_of (seen L a.opened).about in
        let same : w.end ≡ a.opened.about.window.end = omega arith in
        stands_same d L
        (λ B. bind (content_run d B (object d B (15 - length os)) o a.inside.extension (frames a.inside.frames) s) λ t.
        out (close_item a.opened.about.class a.opened.used.line a.opened.used.index (closed d B a.opened.greatest w t).place) (rest_from d B os (received a.opened.used (closed d B a.opened.greatest w t) os)))
        (λ B. rest_from d B (a ∷ os) s)
        (λ B l. ap (λ k. bind (content_run d B (object d B (15 - length os)) (object_of (seen k a.opened).about) a.inside.extension (frames a.inside.frames) s) λ t.
        out (close_item a.opened.about.class a.opened.used.line a.opened.used.index (closed d B a.opened.greatest (capped k a.opened.about.window) t).place) (rest_from d B os (received a.opened.used (closed d B a.opened.greatest (capped k a.opened.about.window) t) os))) (sym l))
        (stands_bind d L
        (λ t B. out (close_item a.opened.about.class a.opened.used.line a.opened.used.index (closed d B a.opened.greatest w t).place) (rest_from d B os (received a.opened.used (closed d B a.opened.greatest w t) os)))
        (stands_frames st (15 - length os) o (omega arith) a.inside.extension (frames a.inside.frames) fit.0 s (omega (arith, e.0)))
        (λ t le m.
        let c = closed_at [] a.opened.greatest w t m in
        let i = close_item a.opened.about.class a.opened.used.line a.opened.used.index (closed d [] a.opened.greatest w t).place in
        let at : end_of d i ≡ (closed d [] a.opened.greatest w t).place = add-zero (closed d [] a.opened.greatest w t).place in
        stands_out i (λ B. rest_from d B os (received a.opened.used (closed d B a.opened.greatest w t) os)) c.0 (omega (arith, c.1)) tt
        (subst (λ q. Stands d L (λ (u : Unit {0}). L) L q (λ B. rest_from d B os (received a.opened.used (closed d B a.opened.greatest w t) os))) (sym at)
        (stands_rest os (received a.opened.used (closed d [] a.opened.greatest w t) os) fit.1
        (enclosed_less L os a.opened.about.window.end (closed d [] a.opened.greatest w t).place (omega (arith, c.1)) e.1)))))

    -- a walk, wherever it stands
    pub walk_stands : (w : Walk) → Sound d w → EnclosedWalk L w → Stands d L (λ (u : Unit {0}). L) L (from_of w) (λ B. walk_ahead d B w)
    unfolding Sound
    walk_stands w sound e = go w.started e
      where
        go : (b : Bool) → EnclosedOnce b L (objects_of w) w.place → Stands d L (λ (u : Unit {0}). L) L (cond b w.place 0) (λ B. cond b (rest d B (objects_of w) w.place) (reading d B))
        go true e = stands_rest (objects_of w) (record { place = w.place; names = names_of (objects_of w) }) sound.0 e
        go false e = stands_same d L (λ B. reading_by d B false) (λ B. reading d B) (λ B l. plain_reading d B) (stands_reading d L st false)
