-- A reading stands, at each place, as a writing wants it.
use Rattle.rules.specs.declared.faults.ReadingCause.TheVariants.{UnknownId, BitsLeft, TooManyRounds}
use Rattle.std.proofs.Common.{◌≡◌, ℕ, zero, suc, ◌+◌, ◌-◌, ◌*◌, ◌^◌, ◌<◌, ◌≤◌, Bool, true, false, not, ◌&&◌, ◌||◌, T, eqb, ltb, leb, ◌⊎◌, List, [], ◌∷◌, length, drop, ℤ, nat_abs, Ok, Err, sym, refl, ap, ◌∙◌, subst, inl, inr, arith, leb→le, T_not, length-drop, take_all, Some}
use Rattle.std.proofs.Math.Facts.{and_yes, yes_and}
use lib.Dec.{nleb→lt}
use Rattle.rules.proofs.Facts.{ensure_ok, via, ok_same, aligned_facts, multiple_above, inner_facts, closed_facts, place_of}
use Rattle.rules.proofs.Booleans.{decide}
use Rattle.records.specs.declared.records.Extension.{Extension}
use Rattle.rules.specs.declared.items.Item.{Item}
use Rattle.rules.specs.Trace.{Run, out, pass, done, bind}
use Rattle.rules.specs.Checks.{Check, then, ensure, pick, attempt}
use Rattle.table.specs.Description.{Description, class_at, line_at, map_at}
use Rattle.rules.specs.Lookups.{greatest, object_class, map_output}
use Rattle.rules.specs.Values.{is_zero}
use Rattle.bits.specs.Bits.{number, bits_of, length-bits_of}
use Rattle.rules.specs.declared.steps.Window.{Window}
use Rattle.rules.specs.declared.steps.Got.{Got}
use Rattle.rules.specs.declared.steps.Header.{Header}
use Rattle.rules.specs.Steps.{aligned, element, mapped, header, at_end, next_multiple}
use Rattle.records.specs.declared.statements.Statement.TheVariants.{MapRead, Read, Use}
use Rattle.records.specs.Statements.{statement}
use Rattle.records.specs.declared.statements.ReadLine.{ReadLine}
use Rattle.records.specs.declared.statements.UseLine.{UseLine}
use Rattle.rules.specs.Code.{Code, finish, read, assign, map_read, use_of, branch, while, code}
use Rattle.rules.specs.Reading.{State, Object, Objects, write, all_zero, moved, after_read, after_object, value_item, open_item, close_item, valued, counted, elements, objects, enough_objects, objects_to_end, used, rounds, run, stretch, extensions, content, inner, closed}
use Rattle.rules.specs.Tidy.{closable, opened_by, object_by, reading_by}
use Rattle.roundtrip.specs.Own.{complement, lowest_index, value_bits, header_bits, own_bits, end_of, Sensible, SensibleValue}
use Rattle.rules.specs.Order.{declared_at}
use Rattle.rules.specs.Steps.{id_width}
use Rattle.roundtrip.specs.Standing.{gives, ends, head, Halted, Fam, Zeros, Has, Fits, Stands, stuck, quiet, hands}
use Rattle.roundtrip.specs.Writing.{Straight, StandingLaw}
use Rattle.roundtrip.proofs.Heads.{stands_bind, stands_pass, stands_done, stands_attempt, stands_pick, stands_same}
use Rattle.roundtrip.proofs.Numbers.{zeros_number}
use Rattle.roundtrip.proofs.Again.{then_to, to_ensure, aligned_zeros, element_again, mapped_again}
use Rattle.roundtrip.proofs.Sizes.{header_again}
use Rattle.roundtrip.proofs.Lines.{Tells, code_tells}
use Rattle.rules.proofs.Same.{Each}

-- what an attempt that hands out or ends came from
pub record Came {X A : Type 0} (r : Check X) (item : X → Item) (k : X → Run A) (i : Item) (t : Run A) : Type 0 where
  pub got : X
  pub was : r ≡ Ok got
  pub same : item got ≡ i

came : {X A : Type 0} (line place : ℕ) (r : Check X) (item : X → Item) (k : X → Run A) (i : Item) (t : Run A) →
    head (attempt line place r (λ x. out (item x) (k x))) ≡ gives i t → Came r item k i t
unfolding attempt head
came line place (Ok x) item k i t e = record { got = x; was = refl; same = cc }
came line place (Err f) item k i t e = let y : ◌≡◌ {A = ℕ} 0 1 = cc in let z : ⊥ = omega arith in absurd z

never_ends : {X A : Type 0} (line place : ℕ) (r : Check X) (item : X → Item) (k : X → Run A) (a : A) →
    head (attempt line place r (λ x. out (item x) (k x))) ≡ ends a → ⊥
unfolding attempt head
never_ends line place (Ok x) item k a e = let y : ◌≡◌ {A = ℕ} 0 1 = cc in omega arith
never_ends line place (Err f) item k a e = let y : ◌≡◌ {A = ℕ} 0 1 = cc in omega arith

attempt_to : {X A : Type 0} (line place : ℕ) (r : Check X) (k : X → Run A) (x : X) → r ≡ Ok x → attempt line place r k ≡ k x
unfolding attempt
attempt_to line place r k x e = ap (λ z. attempt line place z k) e

attempt-bind : {X A : Type 0} (line place : ℕ) (r : Check X) (k : X → Run A) → bind (attempt line place r done) k ≡ attempt line place r k
unfolding attempt bind
attempt-bind line place (Ok x) k = refl
attempt-bind line place (Err f) k = refl

attempt-then : {X A : Type 0} (line place : ℕ) (r : Check X) (e : X → Check (Unit {0})) (k : X → Run A) →
    attempt line place (then r λ x. then (e x) λ _. Ok x) k ≡ attempt line place r (λ x. attempt line place (e x) λ _. k x)
unfolding attempt then
attempt-then line place (Ok x) e k = go (e x)
  where
    go : (c : Check (Unit {0})) → attempt line place (then c λ _. Ok x) k ≡ attempt line place c (λ _. k x)
    go (Ok u) = refl
    go (Err f) = refl
attempt-then line place (Err f) e k = refl

module _ (d : Description) (L : ℕ) where
  -- a step that hands out an item
  pub record Step {A : Type 0} (end : A → ℕ) (most p : ℕ) (F : Fam A) (i : Item) (K : Fam A) : Type 0 where
    pub ahead : p ≤ i.place
    pub within : end_of d i ≤ L
    pub sensible : Sensible d i
    pub again : (B : List Bool) → length B ≡ L → Fits d p i B → F B ≡ out i (K B)
    pub rest : Stands d L end most (end_of d i) K

  pub stands_step : {X A : Type 0} {end : A → ℕ} {most p : ℕ} (line place : ℕ) (c : List Bool → Check X) (item : X → Item) (k : X → Fam A) (K : Item → Fam A) →
      ((B : List Bool) (x : X) → length B ≡ L → c B ≡ Ok x → Step end most p (λ B. attempt line place (c B) (λ x. out (item x) (k x B))) (item x) (K (item x))) →
      Stands d L end most p (λ B. attempt line place (c B) (λ x. out (item x) (k x B)))
  unfolding head
  stands_step {X} {A} {end} {most} {p} line place c item k K h =
      hands K
      (λ B l a e. never_ends line place (c B) item (λ x. k x B) a e)
      (λ B i r l e. let s = at B i r l e in (s.ahead, s.within, s.sensible, λ B' l' f. ap head (s.again B' l' f)))
      (λ B i r l e. (at B i r l e).rest)
    where
      at : (B : List Bool) (i : Item) (r : Run A) → length B ≡ L → head (attempt line place (c B) (λ x. out (item x) (k x B))) ≡ gives i r →
          Step end most p (λ B. attempt line place (c B) (λ x. out (item x) (k x B))) i (K i)
      at B i r l e =
          let z = came line place (c B) item (λ x. k x B) i r e in
          subst (λ j. Step end most p (λ B. attempt line place (c B) (λ x. out (item x) (k x B))) j (K j)) z.same (h B z.got l z.was)

  -- alignment where no item begins
  quiet_aligned : (w : Window) (to p line place : ℕ) → Stands d L (λ (q : ℕ). q) w.end p (λ B. attempt line place (aligned B w to p) done)
  unfolding attempt head
  quiet_aligned w to p line place =
      decide (leb (p + (next_multiple to p - p)) w.end)
      (λ t. let m = multiple_above to p in let le = leb→le (p + (next_multiple to p - p)) w.end t in
      quiet (next_multiple to p) m (omega arith)
      (λ B l. go B (aligned B w to p) refl)
      (λ B l z. ap (λ r. head (attempt line place r done)) (aligned_zeros w to p B t z)))
      (λ t. stuck (λ B l. no_way t B (aligned B w to p) refl))
    where
      go : (B : List Bool) (r : Check ℕ) → aligned B w to p ≡ r → Halted (head (attempt line place r done)) ⊎ (head (attempt line place r done) ≡ ends (next_multiple to p))
      go B (Ok q) e = inr (ap ends (sym (aligned_facts B w to p q e).is))
      go B (Err f) e = inl tt

      no_way : T (not (leb (p + (next_multiple to p - p)) w.end)) → (B : List Bool) (r : Check ℕ) → aligned B w to p ≡ r → Halted (head (attempt line place r done))
      no_way t B (Ok q) e = (let f = aligned_facts B w to p q e in let l = nleb→lt _ _ t in absurd (omega (arith, f.ahead, f.within, f.is)))
      no_way t B (Err f) e = tt

  pub stands_aligned : {A : Type 0} {end : A → ℕ} {most : ℕ} (w : Window) (to p line place : ℕ) (G : ℕ → Fam A) →
      ((q : ℕ) → p ≤ q → q ≤ w.end → Stands d L end most q (G q)) → Stands d L end most p (λ B. attempt line place (aligned B w to p) (λ q. G q B))
  stands_aligned w to p line place G h =
      stands_same d L _ _ (λ B l. attempt-bind line place (aligned B w to p) (λ q. G q B))
      (stands_bind d L G (quiet_aligned w to p line place) h)

  -- own bits of the items of lines
  pub read_own : (o : Object) (line index : ℕ) (l : ReadLine) (g : Got) → statement (line_at d line) ≡ Some (Read l) →
      own_bits d (value_item o line index g) ≡ bits_of g.length (complement g.length g.value)
  unfolding value_bits
  read_own o line index l g e = ap (λ st. value_bits d st g.value g.length) e

  pub map_own : (o : Object) (line index m name : ℕ) (g : Got) → statement (line_at d line) ≡ Some (MapRead m name) →
      own_bits d (value_item o line index g) ≡ bits_of (map_at d m).width (lowest_index (map_at d m).width (map_output d m) g.value)
  unfolding value_bits
  map_own o line index m name g e = ap (λ st. value_bits d st g.value g.length) e

  read_sensible : (o : Object) (line index : ℕ) (l : ReadLine) (g : Got) → statement (line_at d line) ≡ Some (Read l) → g.length ≤ 32 →
      complement g.length g.value < 2 ^ g.length → Sensible d (value_item o line index g)
  unfolding SensibleValue
  read_sensible o line index l g e x y = subst (λ st. SensibleValue d st g.value g.length) (sym e) (x, y)

  map_sensible : (o : Object) (line index m name : ℕ) (g : Got) → statement (line_at d line) ≡ Some (MapRead m name) →
      lowest_index (map_at d m).width (map_output d m) g.value < 2 ^ (map_at d m).width →
      Sensible d (value_item o line index g)
  unfolding SensibleValue
  map_sensible o line index m name g e x = subst (λ st. SensibleValue d st g.value g.length) (sym e) x

  module _ (o : Object) (inside : o.window.end ≤ L) where
    pub stands_elements : (line : ℕ) (l : ReadLine) → Tells d (Some (Read l)) line → (n index : ℕ) (s : State) → s.place ≤ o.window.end →
        Stands d L place_of o.window.end s.place (λ B. elements d B o line l n index s)
    unfolding elements
    stands_elements line l ok zero index s h = stands_pass d L (stands_done d L s (omega arith) h)
    stands_elements line l ok (suc n) index s h =
        stands_step line s.place
        (λ B. element B o.window l (valued d B o s l.width) (valued d B o s l.lowest) (valued d B o s l.highest) s.place)
        (value_item o line index)
        (λ g B. elements d B o line l n (suc index) (after_read l.name g s))
        (λ i B. elements d B o line l n (suc index) (record { place = end_of d i; names = write l.name i.value s.names }))
        λ B g len e.
        let a = element_again o.window l _ _ _ s.place g B ok.0 e in
        let own = read_own o line index l g ok.1 in
        let long = ap length own ∙ length-bits_of g.length (complement g.length g.value) in
        let to : g.after ≡ end_of d (value_item o line index g) = omega (arith, a.after) in
        record {
          ahead = a.ahead;
          within = omega (arith, a.within);
          sensible = read_sensible o line index l g ok.1 a.short a.fits;
          again = λ B' len' f.
              attempt_to line s.place _ _ g (a.again B' (omega arith) f.0 (subst (Has B' g.place) own f.1)) ∙
              ap (λ q. out (value_item o line index g) (elements d B' o line l n (suc index) (record { place = q; names = write l.name g.value s.names }))) to;
          rest = stands_elements line l ok n (suc index) _ (omega (arith, a.within));
        }

    module _ (obj : List Bool → Objects)
        (objs : (line declared index : ℕ) (w : Window) (p : ℕ) → declared_at d line ≡ declared → p ≤ w.end → w.end ≤ L →
        Stands d L place_of w.end p (λ B. obj B line declared index w p)) where
      pub stands_objects : (line : ℕ) (l : UseLine) → Tells d (Some (Use l)) line → (n index : ℕ) (s : State) → s.place ≤ o.window.end →
          Stands d L place_of o.window.end s.place (λ B. objects d B (obj B) o line l n index s)
      unfolding objects
      stands_objects line l ok zero index s h = stands_pass d L (stands_done d L s (omega arith) h)
      stands_objects line l ok (suc n) index s h =
          stands_bind d L (λ t B. objects d B (obj B) o line l n (suc index) (after_object l t s))
          (objs line l.class index o.window s.place ok h inside)
          (λ t le m. stands_objects line l ok n (suc index) (after_object l t s) m)

      pub stands_enough : (line : ℕ) (l : UseLine) (index : ℕ) (s : State) → s.place ≤ o.window.end →
          Stands d L place_of o.window.end s.place (λ B. enough_objects d B line l index s)
      stands_enough line l index s h =
          stands_attempt d L line s.place _ (λ u B. pass (done s)) (λ u e. stands_pass d L (stands_done d L s (omega arith) h))

      pub stands_to_end : (line : ℕ) (l : UseLine) → Tells d (Some (Use l)) line → (n index : ℕ) (s : State) → s.place ≤ o.window.end →
          Stands d L place_of o.window.end s.place (λ B. objects_to_end d B (obj B) o line l n index s)
      unfolding objects_to_end
      stands_to_end line l ok zero index s h = stands_enough line l index s h
      stands_to_end line l ok (suc n) index s h =
          stands_pick d L (leb o.window.end (next_multiple 8 s.place))
          (λ _ B. enough_objects d B line l index s)
          (λ _ B. bind (obj B line l.class index o.window s.place) λ t. objects_to_end d B (obj B) o line l n (suc index) (after_object l t s))
          (λ t. stands_enough line l index s h)
          (λ t.
          stands_bind d L (λ t B. objects_to_end d B (obj B) o line l n (suc index) (after_object l t s))
          (objs line l.class index o.window s.place ok h inside)
          (λ t le m. stands_to_end line l ok n (suc index) (after_object l t s) m))

      pub stands_used : (line : ℕ) (l : UseLine) → Tells d (Some (Use l)) line → (k : ℕ) (s : State) → s.place ≤ o.window.end →
          Stands d L place_of o.window.end s.place (λ B. used d B (obj B) o line l k s)
      unfolding used
      stands_used line l ok zero s h = stands_pass d L (stands_to_end line l ok l.most 0 s h)
      stands_used line l ok (suc k) s h =
          stands_attempt d L line s.place _ (λ n B. pass (objects d B (obj B) o line l n 0 s))
          (λ n e. stands_pass d L (stands_objects line l ok n 0 s h))

      pub stands_rounds : (test : State → Check ℤ) (body : List Bool → State → Run State) (line : ℕ) →
          ((s : State) → s.place ≤ o.window.end → Stands d L place_of o.window.end s.place (λ B. body B s)) →
          (n : ℕ) (s : State) → s.place ≤ o.window.end → Stands d L place_of o.window.end s.place (λ B. rounds d B test (body B) line n s)
      unfolding rounds
      stands_rounds test body line bo zero s h =
          stands_attempt d L line s.place (test s) (λ v B. attempt line s.place (ensure (is_zero v) TooManyRounds) λ _. pass (done s)) λ v e.
          stands_attempt d L line s.place (ensure (is_zero v) TooManyRounds) (λ u B. pass (done s)) λ u e.
          stands_pass d L (stands_done d L s (omega arith) h)
      stands_rounds test body line bo (suc n) s h =
          stands_attempt d L line s.place (test s) (λ v B. pass (pick (is_zero v) (λ _. done s) (λ _. bind (body B s) (rounds d B test (body B) line n)))) λ v e.
          stands_pass d L (stands_pick d L (is_zero v) (λ _ B. done s) (λ _ B. bind (body B s) (rounds d B test (body B) line n))
          (λ t. stands_done d L s (omega arith) h)
          (λ t. stands_bind d L (λ t B. rounds d B test (body B) line n t) (bo s h) (λ t le m. stands_rounds test body line bo n t m)))

      pub stands_run : (c : Code) → Each (Tells d) c → (s : State) → s.place ≤ o.window.end →
          Stands d L place_of o.window.end s.place (λ B. run d B (obj B) o c s)
      unfolding run
      stands_run finish ok s h = stands_pass d L (stands_done d L s (omega arith) h)
      stands_run (read line l c) ok s h =
          stands_attempt d L line s.place (counted d [] o s l.count) (λ n B. pass (bind (elements d B o line l n 0 s) (run d B (obj B) o c))) λ n e.
          stands_pass d L (stands_bind d L (λ t B. run d B (obj B) o c t) (stands_elements line l ok.0 n 0 s h) (λ t le m. stands_run c ok.1 t m))
      stands_run (assign line name node c) ok s h =
          stands_attempt d L line s.place (valued d [] o s node)
          (λ v B. pass (run d B (obj B) o c (record { place = s.place; names = write name v s.names }))) λ v e.
          stands_pass d L (stands_run c ok.1 (record { place = s.place; names = write name v s.names }) h)
      stands_run (map_read line m name c) ok s h =
          stands_step line s.place
          (λ B. mapped B o.window (map_at d m).width (map_output d m) s.place)
          (value_item o line 0)
          (λ g B. run d B (obj B) o c (after_read name g s))
          (λ i B. run d B (obj B) o c (record { place = end_of d i; names = write name i.value s.names }))
          λ B g len e.
          let a = mapped_again o.window _ _ s.place g B e in
          let own = map_own o line 0 m name g ok.0 in
          let long = ap length own ∙ length-bits_of (map_at d m).width _ in
          let to : g.after ≡ end_of d (value_item o line 0 g) = omega (arith, a.after, a.place) in
          record {
            ahead = omega (arith, a.place);
            within = omega (arith, a.within);
            sensible = map_sensible o line 0 m name g ok.0 a.fits;
            again = λ B' len' f.
                attempt_to line s.place _ _ g (a.again B' (omega arith) (subst (λ p. Has B' p (bits_of (map_at d m).width (lowest_index (map_at d m).width (map_output d m) g.value))) a.place (subst (Has B' g.place) own f.1))) ∙
                ap (λ q. out (value_item o line 0 g) (run d B' (obj B') o c (record { place = q; names = write name g.value s.names }))) to;
            rest = stands_run c ok.1 _ (omega (arith, a.within));
          }
      stands_run (use_of line l c) ok s h =
          stands_bind d L (λ t B. run d B (obj B) o c t) (stands_used line l ok.0 l.count s h) (λ t le m. stands_run c ok.1 t m)
      stands_run (branch line node a b c) ok s h =
          stands_attempt d L line s.place (valued d [] o s node)
          (λ v B. pass (bind (pick (is_zero v) (λ _. run d B (obj B) o b s) (λ _. run d B (obj B) o a s)) (run d B (obj B) o c))) λ v e.
          stands_pass d L (stands_bind d L (λ t B. run d B (obj B) o c t)
          (stands_pick d L (is_zero v) (λ _ B. run d B (obj B) o b s) (λ _ B. run d B (obj B) o a s) (λ t. stands_run b ok.2 s h) (λ t. stands_run a ok.1 s h))
          (λ t le m. stands_run c ok.3 t m))
      stands_run (while line node most b c) ok s h =
          stands_bind d L (λ t B. run d B (obj B) o c t)
          (stands_rounds (λ t. valued d [] o t node) (λ B. run d B (obj B) o b) line (λ t m. stands_run b ok.1 t m) most s h)
          (λ t le m. stands_run c ok.2 t m)

      module _ (st : Straight d) where
        pub stands_stretch : (first number : ℕ) (s : State) → s.place ≤ o.window.end →
            Stands d L place_of o.window.end s.place (λ B. stretch d B (obj B) o first number s)
        stands_stretch first number s h = stands_run (code d.lines first number) (code_tells d st first number) s h

        pub stands_extensions : (es : List Extension) (s : State) → s.place ≤ o.window.end →
            Stands d L place_of o.window.end s.place (λ B. extensions d B (obj B) o es s)
        unfolding extensions
        stands_extensions [] s h = stands_done d L s (omega arith) h
        stands_extensions (e ∷ es) s h =
            stands_pick d L (eqb e.class o.class)
            (λ _ B. attempt e.first s.place (aligned B o.window 8 s.place) λ q. next q B)
            (λ _ B. pass (extensions d B (obj B) o es s))
            (λ t. stands_aligned o.window 8 s.place e.first s.place next λ q le m.
            stands_pass d L (stands_pick d L (eqb q o.window.end)
            (λ _ B. done (moved q s))
            (λ _ B. bind (stretch d B (obj B) o e.first e.number (moved q s)) (extensions d B (obj B) o es))
            (λ u. stands_done d L (moved q s) (omega arith) m)
            (λ u. stands_bind d L (λ t B. extensions d B (obj B) o es t) (stands_stretch e.first e.number (moved q s) m)
            (λ t le m. stands_extensions es t m))))
            (λ t. stands_pass d L (stands_extensions es s h))
          where
            next : ℕ → Fam State
            next q B =
                pass (pick (eqb q o.window.end)
                (λ _. done (moved q s))
                (λ _. bind (stretch d B (obj B) o e.first e.number (moved q s)) (extensions d B (obj B) o es)))

        pub stands_content : (c : ℕ) (s : State) → s.place ≤ o.window.end →
            Stands d L place_of o.window.end s.place (λ B. content d B (obj B) o c s)
        unfolding content
        stands_content zero s h = stands_done d L s (omega arith) h
        stands_content (suc n) s h =
            stands_bind d L
            (λ s B. bind (stretch d B (obj B) o (class_at d (suc n)).first (class_at d (suc n)).number s) λ s. extensions d B (obj B) o d.extensions s)
            (stands_stretch (class_at d (class_at d (suc n)).base).first (class_at d (class_at d (suc n)).base).number s h) λ s le h.
            stands_bind d L (λ s B. extensions d B (obj B) o d.extensions s)
            (stands_stretch (class_at d (suc n)).first (class_at d (suc n)).number s h) λ s le h.
            stands_extensions d.extensions s h

  closable_again : (tidy : Bool) (g : ℕ) (w : Window) (s : State) (B B' : List Bool) (u : Unit {0}) → s.place ≤ w.end →
      closable d B tidy g w s.place ≡ Ok u → Zeros B' s.place (closed d B g w s).place → closable d B' tidy g w s.place ≡ Ok tt
  closable_again false g w s B B' u l e z = refl
  closable_again true zero w s B B' u l e z = refl
  closable_again true (suc g) w s B B' u l e z =
      let t = and_yes (eqb (next_multiple 8 s.place) w.end) _ (ensure_ok _ _ _ e) in
      to_ensure _ _ (yes_and _ _ t.0
      (subst (λ k. T (eqb k 0)) (sym (zeros_number B' (w.end - s.place) s.place (λ k u v. z k u (omega arith)))) tt))

  -- after the open: content and close
  abbrev pub inside : (tidy : Bool) (obj : List Bool → Objects) (c g line index : ℕ) → Header → Window → Fam State
  inside tidy obj c g line index h w B =
      let o : Object = record { class = c; size = h.size; window = inner d B g h w } in
      bind (content d B (obj B) o c (record { place = h.after; names = all_zero })) λ s.
      attempt line s.place (closable d B tidy g o.window s.place) λ _.
      let t = closed d B g o.window s in
      out (close_item c line index t.place) (done t)

  module _ (st : Straight d) (tidy : Bool) where
    pub stands_closing : (c g line index : ℕ) (w : Window) (s : State) (most : ℕ) → s.place ≤ w.end → w.end ≤ most → most ≤ L →
        Stands d L place_of most s.place
        (λ B. attempt line s.place (closable d B tidy g w s.place) λ _. out (close_item c line index (closed d B g w s).place) (done (closed d B g w s)))
    stands_closing c g line index w s most h m n =
        stands_step line s.place (λ B. closable d B tidy g w s.place) (λ _. close_item c line index (closed d [] g w s).place)
        (λ _ B. done (closed d B g w s)) (λ i B. done (closed d B g w s))
        λ B u len e.
        let f = closed_facts d B g w s h in
        record {
          ahead = f.0;
          within = omega (arith, f.1);
          sensible = tt;
          again = λ B' len' fits. attempt_to line s.place _ _ tt (closable_again tidy g w s B B' u h e fits.0);
          rest = stands_done d L (closed d [] g w s) (omega arith) (omega (arith, f.1));
        }

    pub stands_inside : (obj : List Bool → Objects) →
        ((line declared index : ℕ) (w : Window) (p : ℕ) → declared_at d line ≡ declared → p ≤ w.end → w.end ≤ L →
        Stands d L place_of w.end p (λ B. obj B line declared index w p)) →
        (c g line index : ℕ) (h : Header) (w : Window) → h.after + 8 * h.size ≤ w.end → w.end ≤ L →
        Stands d L place_of w.end h.after (inside tidy obj c g line index h w)
    stands_inside obj objs c g line index h w l m =
        let o : Object = record { class = c; size = h.size; window = inner d [] g h w } in
        let f = inner_facts d [] g h w l in
        stands_bind d L
        (λ s B. attempt line s.place (closable d B tidy g o.window s.place) λ _.
        out (close_item c line index (closed d B g o.window s).place) (done (closed d B g o.window s)))
        (stands_content o (omega (arith, f.1)) obj objs st c (record { place = h.after; names = all_zero }) f.0) λ s le u.
        stands_closing c g line index o.window s w.end u f.1 m

    pub stands_object : (n line declared index : ℕ) (w : Window) (p : ℕ) → declared_at d line ≡ declared → p ≤ w.end → w.end ≤ L →
        Stands d L place_of w.end p (λ B. object_by d B tidy n line declared index w p)
    unfolding object_by opened_by head
    stands_object zero line declared index w p ok h m = stuck (λ B l. tt)
    stands_object (suc n) line declared index w p ok h m =
        stands_same d L _ _ (λ B l. attempt-then line p (header B w (class_at d declared) (greatest d declared) p) known (λ h. out (item h) (k h B)))
        (stands_step line p (λ B. then (header B w (class_at d declared) (greatest d declared) p) λ h. then (known h) λ _. Ok h) item k K
        (λ B h len e.
        via (Step place_of w.end p F (item h) (K (item h))) _ _ h e λ h₁ he e.
        via (Step place_of w.end p F (item h) (K (item h))) _ _ h e λ u en e.
        subst (λ h. Step place_of w.end p F (item h) (K (item h))) (ok_same h₁ h e) (step (stands_object n) B h₁ u he en)))
      where
        known : Header → Check (Unit {0})
        known h = ensure (not (eqb (object_class d declared h.id) 0) || (not tidy && not (eqb (greatest d declared) 0))) UnknownId

        item : Header → Item
        item h = open_item (object_class d declared h.id) line index h

        k : Header → Fam State
        k h = inside tidy (λ B. object_by d B tidy n) (object_class d declared h.id) (greatest d declared) line index h w

        K : Item → Fam State
        K i = inside tidy (λ B. object_by d B tidy n) i.class (greatest d declared) line index
            (record { id = nat_abs i.value; size = i.length; place = i.place; after = end_of d i }) w

        F : Fam State
        F B = attempt line p (then (header B w (class_at d declared) (greatest d declared) p) λ h. then (known h) λ _. Ok h) (λ h. out (item h) (k h B))

        step : ((line declared index : ℕ) (w : Window) (p : ℕ) → declared_at d line ≡ declared → p ≤ w.end → w.end ≤ L →
            Stands d L place_of w.end p (λ B. object_by d B tidy n line declared index w p)) → (B : List Bool) (h : Header) (u : Unit {0}) → header B w (class_at d declared) (greatest d declared) p ≡ Ok h → known h ≡ Ok u →
            Step place_of w.end p F (item h) (K (item h))
        step objs B h u he en =
            let a = header_again w (class_at d declared) (greatest d declared) p h B he in
            let own : own_bits d (item h) ≡ header_bits (class_at d declared) (greatest d declared) h.id h.size =
            ap (λ c. header_bits (class_at d c) (greatest d c) h.id h.size) ok in
            let long = ap length own in
            record {
              ahead = a.ahead;
              within = omega (arith, a.within);
              sensible = (subst (λ c. h.id < 2 ^ id_width (class_at d c)) (sym ok) a.fits, a.small);
              again = λ B' len fits.
                  attempt_to line p _ _ _
                  (then_to _ _ _ (a.again B' (omega arith) fits.0 (subst (Has B' h.place) own fits.1)) ∙ then_to _ _ _ en) ∙
                  ap (λ q. out (item h) (k (record { id = h.id; size = h.size; place = h.place; after = h.place + q }) B')) (sym long);
              rest = stands_inside (λ B. object_by d B tidy n) objs (object_class d declared h.id) (greatest d declared) line index
                  (record { id = h.id; size = h.size; place = h.place; after = end_of d (item h) }) w (omega (arith, a.within)) m;
            }

    -- the end
    zeros_drop : (B : List Bool) (p : ℕ) → p ≤ L → length B ≡ L → Zeros B p L → number (drop p B) ≡ 0
    zeros_drop B p l e z =
        let x = length-drop p B in
        ap number (sym (take_all (L - p) (drop p B) (omega arith))) ∙ zeros_number B (L - p) p (λ k u v. z k u (omega arith))

    pub stands_end : (p : ℕ) → p ≤ L → Stands d L (λ (u : Unit {0}). L) L p (λ B. attempt 0 p (at_end B p) done)
    unfolding attempt at_end head
    stands_end p l =
        decide (ltb (L - p) 8)
        (λ t. quiet tt l (omega arith) (λ B e. go (at_end B p))
        (λ B e z. ap (λ c. head (attempt 0 p c done))
        (to_ensure _ BitsLeft (yes_and (ltb (length B - p) 8) (eqb (number (drop p B)) 0)
        (subst (λ n. T (ltb (n - p) 8)) (sym e) t) (subst (λ n. T (eqb n 0)) (sym (zeros_drop B p l e z)) tt)))))
        (λ t. stuck (λ B e. no_way t B e (at_end B p) refl))
      where
        go : (c : Check (Unit {0})) → Halted (head (attempt 0 p c done)) ⊎ (head (attempt 0 p c done) ≡ ends tt)
        go (Ok u) = inr refl
        go (Err f) = inl tt

        no_way : T (not (ltb (L - p) 8)) → (B : List Bool) → length B ≡ L → (c : Check (Unit {0})) → at_end B p ≡ c → Halted (head (attempt 0 p c done))
        no_way t B e (Ok u) q =
            let y = and_yes (ltb (length B - p) 8) (eqb (number (drop p B)) 0) (ensure_ok _ _ u q) in
            absurd (T_not (ltb (L - p) 8) t (subst (λ n. T (ltb (n - p) 8)) e y.0))
        no_way t B e (Err f) q = tt

    pub stands_reading : Stands d L (λ (u : Unit {0}). L) L 0 (λ B. reading_by d B tidy)
    unfolding reading_by
    stands_reading =
        stands_same d L
        (λ B. bind (object_by d B tidy 16 0 d.top 0 (record { end = L; object = false }) 0) λ t. attempt 0 t.place (at_end B t.place) done)
        (λ B. reading_by d B tidy)
        (λ B e. ap (λ n. bind (object_by d B tidy 16 0 d.top 0 (record { end = n; object = false }) 0) λ t. attempt 0 t.place (at_end B t.place) done) (sym e))
        (stands_bind d L (λ t B. attempt 0 t.place (at_end B t.place) done)
        (stands_object 16 0 d.top 0 (record { end = L; object = false }) 0 refl (omega arith) (omega arith))
        (λ t le m. stands_end t.place m))

pub standing_law : StandingLaw
standing_law d st L tidy = stands_reading d L st tidy
