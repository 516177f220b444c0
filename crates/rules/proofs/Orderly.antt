-- Every reading is orderly.
use Rattle.records.specs.declared.statements.Statement.TheVariants.{Read, Use}
use Rattle.std.proofs.Common.{◌≡◌, ℕ, zero, suc, ◌+◌, ◌*◌, ◌%◌, ◌^◌, ◌<◌, ◌≤◌, Bool, true, false, not, T, eqb, leb, List, [], ◌∷◌, length, ℤ, Ok, Err, sym, refl, ap, subst, arith, Option, Some}
use Rattle.records.specs.declared.records.Extension.{Extension}
use Rattle.records.specs.declared.statements.Statement.{Statement}
use Rattle.records.specs.Statements.{statement}
use Rattle.table.specs.Description.{Description, entry, class_at, line_at, map_at}
use Rattle.rules.specs.declared.items.Item.{Item}
use Rattle.rules.specs.declared.items.Kind.{Kind}
use Rattle.rules.specs.declared.items.Kind.TheVariants.{Value, Open, Close}
use Rattle.rules.specs.Trace.{Run, bind, items, outcome, Outcome, ended, refused}
use Rattle.rules.specs.Checks.{Check, pick, attempt}
use Rattle.rules.specs.Lookups.{greatest, object_class, map_output}
use Rattle.rules.specs.Values.{is_zero}
use Rattle.records.specs.declared.statements.UseLine.{UseLine}
use Rattle.records.specs.declared.statements.ReadLine.{ReadLine}
use Rattle.rules.specs.Code.{Code, finish, read, assign, map_read, use_of, branch, while, code}
use Rattle.rules.specs.declared.steps.Header.{Header}
use Rattle.rules.specs.declared.steps.Window.{Window}
use Rattle.rules.specs.Steps.{next_multiple}
use Rattle.rules.specs.Reading.{State, Object, Objects, after_read, after_object, open_item, elements, objects, enough_objects, objects_to_end, used, rounds, run, stretch, extensions, content, inner, closed, opened, object, whole, reading, moved}
use Rattle.checked.specs.Sound.{All}
use Rattle.rules.specs.Order.{used_by, declared_at, ValueFits, Fits, extent, Moves, ends, stops, passes, value, opens, closes, WindowLaw, InOrder, last_place, Nests, OrderLaw}
use Rattle.rules.proofs.Facts.{aligned_facts, element_facts, mapped_facts, header_facts, inner_facts, closed_facts, place_of}
use Rattle.rules.proofs.WholeBytes.{bytes}
use Rattle.rules.proofs.Same.{Each, code_each}

pub use_declared : (d : Description) (line : ℕ) (l : UseLine) → statement (line_at d line) ≡ Some (Use l) → declared_at d line ≡ l.class
unfolding entry
use_declared d zero l e = let y : ◌≡◌ {A = ℕ} 0 1 = cc in let z : ⊥ = omega arith in absurd z
use_declared d (suc n) l e = ap used_by e

module _ (d : Description) where
  module _ {A : Type 0} {at : A → ℕ} {home : List Item} where
    -- what stands at a place stands at an earlier one, and up to a later end
    pub lower : {end : ℕ} {around : List Item} {p q : ℕ} {t : Run A} → p ≤ q → Moves d at home end around q t → Moves d at home end around p t
    lower l (ends x y) = ends (omega arith) y
    lower l (stops x y) = stops (omega arith) y
    lower l (passes t) = passes (lower l t)
    lower l (value k c x y f t) = value k c (omega arith) y f t
    lower l (opens k r x y f t) = opens k r (omega arith) y f t
    lower l (closes k r x y f t) = closes k r (omega arith) y f t

    pub raise : {end more : ℕ} {around : List Item} {p : ℕ} {t : Run A} → end ≤ more → Moves d at home end around p t → Moves d at home more around p t
    raise l (ends x y) = ends x (omega arith)
    raise l (stops x y) = stops x (omega arith)
    raise l (passes t) = passes (raise l t)
    raise l (value k c x y f t) = value k c x (omega arith) f (raise l t)
    raise l (opens k r x y f t) = opens k r x (omega arith) f (raise l t)
    raise l (closes k r x y f t) = closes k r x (omega arith) f (raise l t)

  pub moves_bind : {A B : Type 0} {at : A → ℕ} {to : B → ℕ} {home away : List Item} {end : ℕ} (k : A → Run B) →
      ((a : A) → at a ≤ end → Moves d to home end away (at a) (k a)) →
      {around : List Item} {p : ℕ} {t : Run A} → Moves d at away end around p t → Moves d to home end around p (bind t k)
  unfolding bind
  moves_bind k h (ends {a = a} x y) = lower x (h a y)
  moves_bind k h (stops x y) = stops x y
  moves_bind k h (passes t) = passes (moves_bind k h t)
  moves_bind k h (value e c x y f t) = value e c x y f (moves_bind k h t)
  moves_bind k h (opens e r x y f t) = opens e r x y f (moves_bind k h t)
  moves_bind k h (closes e r x y f t) = closes e r x y f (moves_bind k h t)

  module _ {A : Type 0} {at : A → ℕ} {home around : List Item} {end p : ℕ} where
    pub moves_attempt : {X : Type 0} (line place : ℕ) → p ≤ place → place ≤ end → (m : Check X) (k : X → Run A) →
        ((x : X) → m ≡ Ok x → Moves d at home end around p (k x)) → Moves d at home end around p (attempt line place m k)
    unfolding attempt
    moves_attempt line place l h (Ok x) k f = f x refl
    moves_attempt line place l h (Err x) k f = stops l h

    pub moves_pick : (b : Bool) (f g : Unit {0} → Run A) → (T b → Moves d at home end around p (f tt)) → (T (not b) → Moves d at home end around p (g tt)) →
        Moves d at home end around p (pick b f g)
    moves_pick true f g x y = x tt
    moves_pick false f g x y = y tt

  -- a line is what the code says
  abbrev Tells : Option Statement → ℕ → Type 0
  Tells st line = statement (line_at d line) ≡ st

  code_tells : (at n : ℕ) → Each Tells (code d.lines at n)
  unfolding code
  code_tells at n = code_each Tells d.lines 0 (at + n) (λ at x y. refl) n at n (omega arith) (omega arith)

  module _ (bits : List Bool) (o : Object) (top : Item) (same : o.class ≡ top.class) (around : List Item) where
    abbrev Inside : State → Run State → Type 0
    Inside s t = Moves d place_of (top ∷ around) o.window.end (top ∷ around) s.place t

    moves_elements : (line : ℕ) (l : ReadLine) → Tells (Some (Read l)) line → (n index : ℕ) (s : State) → s.place ≤ o.window.end →
        Inside s (elements d bits o line l n index s)
    unfolding elements
    moves_elements line l tells zero index s h = passes (ends (omega arith) h)
    moves_elements line l tells (suc n) index s h =
        moves_attempt line s.place (omega arith) h _ _ λ g e.
        let f = element_facts bits o.window l _ _ _ s.place g e in
        value refl same f.ahead f.within
        (subst (λ st. ValueFits d st g.value g.length) (sym tells) (f.short, f.fits))
        (lower f.onward (moves_elements line l tells n (suc index) (after_read l.name g s) f.after))

    module _ (obj : Objects)
        (objs : (line declared index : ℕ) (p : ℕ) → declared_at d line ≡ declared → p ≤ o.window.end →
        Moves d place_of (top ∷ around) o.window.end (top ∷ around) p (obj line declared index o.window p)) where
      moves_objects : (line : ℕ) (l : UseLine) → Tells (Some (Use l)) line → (n index : ℕ) (s : State) → s.place ≤ o.window.end →
          Inside s (objects d bits obj o line l n index s)
      unfolding objects
      moves_objects line l tells zero index s h = passes (ends (omega arith) h)
      moves_objects line l tells (suc n) index s h =
          moves_bind _ (λ t q. moves_objects line l tells n (suc index) (after_object l t s) q)
          (objs line l.class index s.place (use_declared d line l tells) h)

      moves_enough : (line : ℕ) (l : UseLine) (index : ℕ) (s : State) → s.place ≤ o.window.end → Inside s (enough_objects d bits line l index s)
      moves_enough line l index s h = moves_attempt line s.place (omega arith) h _ _ λ u e. passes (ends (omega arith) h)

      moves_to_end : (line : ℕ) (l : UseLine) → Tells (Some (Use l)) line → (n index : ℕ) (s : State) → s.place ≤ o.window.end →
          Inside s (objects_to_end d bits obj o line l n index s)
      unfolding objects_to_end
      moves_to_end line l tells zero index s h = moves_enough line l index s h
      moves_to_end line l tells (suc n) index s h =
          moves_pick (leb o.window.end (next_multiple 8 s.place)) _ _ (λ t. moves_enough line l index s h) λ t.
          moves_bind _ (λ t q. moves_to_end line l tells n (suc index) (after_object l t s) q)
          (objs line l.class index s.place (use_declared d line l tells) h)

      moves_used : (line : ℕ) (l : UseLine) → Tells (Some (Use l)) line → (k : ℕ) (s : State) → s.place ≤ o.window.end → Inside s (used d bits obj o line l k s)
      unfolding used
      moves_used line l tells zero s h = passes (moves_to_end line l tells l.most 0 s h)
      moves_used line l tells (suc k) s h = moves_attempt line s.place (omega arith) h _ _ λ n e. passes (moves_objects line l tells n 0 s h)

      moves_rounds : (test : State → Check ℤ) (body : State → Run State) (line : ℕ) →
          ((s : State) → s.place ≤ o.window.end → Inside s (body s)) → (n : ℕ) (s : State) → s.place ≤ o.window.end → Inside s (rounds d bits test body line n s)
      unfolding rounds
      moves_rounds test body line b zero s h =
          moves_attempt line s.place (omega arith) h _ _ λ v e. moves_attempt line s.place (omega arith) h _ _ λ u e. passes (ends (omega arith) h)
      moves_rounds test body line b (suc n) s h =
          moves_attempt line s.place (omega arith) h _ _ λ v e.
          passes (moves_pick (is_zero v) _ _ (λ t. ends (omega arith) h) (λ t. moves_bind _ (λ t q. moves_rounds test body line b n t q) (b s h)))

      moves_run : (c : Code) → Each Tells c → (s : State) → s.place ≤ o.window.end → Inside s (run d bits obj o c s)
      unfolding run
      moves_run finish e s h = passes (ends (omega arith) h)
      moves_run (read line l c) e s h =
          moves_attempt line s.place (omega arith) h _ _ λ n q.
          passes (moves_bind _ (λ t q. moves_run c e.1 t q) (moves_elements line l e.0 n 0 s h))
      moves_run (assign line name node c) e s h = moves_attempt line s.place (omega arith) h _ _ λ v q. passes (moves_run c e.1 _ h)
      moves_run (map_read line m name c) e s h =
          moves_attempt line s.place (omega arith) h _ _ λ g q.
          let f = mapped_facts bits o.window (map_at d m).width (map_output d m) s.place g q in
          value refl same (omega (arith, f.place)) (omega (arith, f.place, f.length, f.within))
          (subst (λ st. ValueFits d st g.value g.length) (sym e.0)
          (f.length, f.index, subst (λ n. f.index < 2 ^ n) (sym f.length) f.small, f.gives))
          (lower (omega (arith, f.place, f.after)) (moves_run c e.1 (after_read name g s) (omega (arith, f.after, f.within))))
      moves_run (use_of line l c) e s h = moves_bind _ (λ t q. moves_run c e.1 t q) (moves_used line l e.0 l.count s h)
      moves_run (branch line node a b c) e s h =
          moves_attempt line s.place (omega arith) h _ _ λ v q.
          passes (moves_bind _ (λ t q. moves_run c e.3 t q) (moves_pick (is_zero v) _ _ (λ t. moves_run b e.2 s h) (λ t. moves_run a e.1 s h)))
      moves_run (while line node most b c) e s h =
          moves_bind _ (λ t q. moves_run c e.2 t q) (moves_rounds _ _ line (λ t q. moves_run b e.1 t q) most s h)

      moves_stretch : (first number : ℕ) (s : State) → s.place ≤ o.window.end → Inside s (stretch d bits obj o first number s)
      moves_stretch first number s h = moves_run (code d.lines first number) (code_tells first number) s h

      moves_extensions : (es : List Extension) (s : State) → s.place ≤ o.window.end → Inside s (extensions d bits obj o es s)
      unfolding extensions
      moves_extensions [] s h = ends (omega arith) h
      moves_extensions (e ∷ es) s h =
          moves_pick (eqb e.class o.class) _ _
          (λ t. moves_attempt e.first s.place (omega arith) h _ _ λ q a.
          let f = aligned_facts bits o.window 8 s.place q a in
          passes (moves_pick (eqb q o.window.end) _ _
          (λ u. ends f.ahead f.within)
          (λ u. lower f.ahead (moves_bind _ (λ t q. moves_extensions es t q) (moves_stretch e.first e.number (moved q s) f.within)))))
          (λ t. passes (moves_extensions es s h))

      pub moves_content : (c : ℕ) (s : State) → s.place ≤ o.window.end → Inside s (content d bits obj o c s)
      unfolding content
      moves_content zero s h = ends (omega arith) h
      moves_content (suc n) s h =
          moves_bind _
          (λ t q. moves_bind _ (λ u r. moves_extensions d.extensions u r) (moves_stretch _ _ t q))
          (moves_stretch _ _ s h)

  module _ (bits : List Bool) where
    -- where an expandable object is closed
    closed_byte : (g : ℕ) (h : Header) (w : Window) (s : State) → (0 < g → (h.after + 8 * h.size) % 8 ≡ 0) → 0 < g →
        (closed d bits g (inner d bits g h w) s).place % 8 ≡ 0
    closed_byte zero h w s e l = absurd (omega arith)
    closed_byte (suc g) h w s e l = e l

    pub moves_object : (n line declared index : ℕ) (w : Window) (p : ℕ) (around : List Item) → declared_at d line ≡ declared → p ≤ w.end →
        length around + n ≤ 16 → Moves d place_of around w.end around p (object d bits n line declared index w p)
    unfolding object opened
    moves_object zero line declared index w p around e h room = stops (omega arith) h
    moves_object (suc n) line declared index w p around e h room =
        moves_attempt line p (omega arith) h _ _ λ a q.
        moves_attempt line p (omega arith) h _ _ λ u r.
        let g = greatest d declared in
        let c = object_class d declared a.id in
        let f = header_facts bits w (class_at d declared) g p a q in
        let i = inner_facts d bits g a w f.within in
        let o : Object = record { class = c; size = a.size; window = inner d bits g a w } in
        let top = open_item c line index a in
        opens refl (omega arith) f.ahead (omega (arith, f.onward, f.within))
        (λ b x. f.begins (subst (λ c. 0 < greatest d c) e x))
        (lower f.onward
        (raise i.1
        (moves_bind _
        (λ s x.
        let z = closed_facts d bits g o.window s x in
        closes refl (record { line = refl; class = refl; index = refl }) z.0 z.1
        (λ b y. closed_byte g a w s (λ v. f.ends v (bytes d b declared v)) (subst (λ c. 0 < greatest d c) e y))
        (ends (omega arith) z.1))
        (moves_content bits o top refl around (object d bits n)
        (λ line declared index p e h. moves_object n line declared index o.window p (top ∷ around) e h (omega arith))
        c (record { place = a.after; names = _ }) i.0))))

    moves_reading : Moves d (λ (u : Unit {0}). length bits) [] (length bits) [] 0 (reading d bits)
    unfolding reading
    moves_reading =
        moves_bind _ (λ t q. moves_attempt 0 t.place (omega arith) q _ _ λ u e. ends q (omega arith))
        (moves_object 16 0 d.top 0 (whole d bits) 0 [] refl (omega arith) (omega arith))

pub window_law : WindowLaw
window_law d bits n line declared index w p around e h room = moves_object d bits n line declared index w p around e h room

extent_is : (k : Kind) (i : Item) → i.kind ≡ k → extent i.kind i ≡ extent k i
extent_is k i e = ap (λ k. extent k i) e

abbrev Between : (p end : ℕ) → Outcome → Type 0
Between p end ended = Unit {0}
Between p end (refused f) = (p ≤ f.place) × (f.place ≤ end)

module _ (d : Description) {A : Type 0} {at : A → ℕ} {home : List Item} {end : ℕ} where
  -- the objects left open
  pub left_open : {around : List Item} {p : ℕ} {t : Run A} → Moves d at home end around p t → List Item
  left_open (ends x y) = home
  left_open (stops {around} x y) = around
  left_open (passes t) = left_open t
  left_open (value k c x y f t) = left_open t
  left_open (opens k r x y f t) = left_open t
  left_open (closes k r x y f t) = left_open t

  nests : {around : List Item} {p : ℕ} {t : Run A} (m : Moves d at home end around p t) → Nests around (items t) (left_open m)
  unfolding items left_open
  nests (ends x y) = Nests.none
  nests (stops x y) = Nests.none
  nests (passes t) = nests t
  nests (value k c x y f t) = Nests.value k c (nests t)
  nests (opens k r x y f t) = Nests.opens k r (nests t)
  nests (closes k r x y f t) = Nests.closes k r (nests t)

  left_home : {around : List Item} {p : ℕ} {t : Run A} (m : Moves d at home end around p t) → outcome t ≡ ended → left_open m ≡ home
  unfolding outcome left_open
  left_home (ends x y) e = refl
  left_home (stops {f = f} x y) e = let z : ◌≡◌ {A = ℕ} 0 1 = cc in let y : ⊥ = omega arith in absurd y
  left_home (passes t) e = left_home t e
  left_home (value k c x y f t) e = left_home t e
  left_home (opens k r x y f t) e = left_home t e
  left_home (closes k r x y f t) e = left_home t e

  in_order : {around : List Item} {p : ℕ} {t : Run A} → Moves d at home end around p t → InOrder p end (items t)
  unfolding items
  in_order (ends x y) = tt
  in_order (stops x y) = tt
  in_order (passes t) = in_order t
  in_order (value {i = i} k c x y f t) = (x, omega (arith, extent_is Value i k), in_order t)
  in_order (opens {i = i} k r x y f t) = (x, omega (arith, extent_is Open i k), in_order t)
  in_order (closes {i = i} k r x y f t) = (x, omega (arith, extent_is Close i k), in_order t)

  all_fit : {around : List Item} {p : ℕ} {t : Run A} → Moves d at home end around p t → All (λ (i : Item). Fits d i.kind i) (items t)
  unfolding items
  all_fit (ends x y) = tt
  all_fit (stops x y) = tt
  all_fit (passes t) = all_fit t
  all_fit (value k c x y f t) = (f, all_fit t)
  all_fit (opens k r x y f t) = (f, all_fit t)
  all_fit (closes k r x y f t) = (f, all_fit t)

  fault_between : {around : List Item} {p : ℕ} {t : Run A} → Moves d at home end around p t → Between (last_place p (items t)) end (outcome t)
  unfolding items outcome
  fault_between (ends x y) = tt
  fault_between (stops x y) = (x, y)
  fault_between (passes t) = fault_between t
  fault_between (value k c x y f t) = fault_between t
  fault_between (opens k r x y f t) = fault_between t
  fault_between (closes k r x y f t) = fault_between t

pub order_law : OrderLaw
order_law d bits =
    let m = moves_reading d bits in
    record {
      left = left_open d m;
      nest = nests d m;
      all_closed = left_home d m;
      order = in_order d m;
      fault = λ f e. subst (Between (last_place 0 (items (reading d bits))) (length bits)) e (fault_between d m);
      fits = all_fit d m;
    }
