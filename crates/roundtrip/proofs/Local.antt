-- What a reading does from a place on does not look at the bits before it, and places never go back.
use Rattle.rules.specs.declared.faults.ReadingCause.TheVariants.{SkippedBits, UnknownId, TooFew, BitsLeft, TooManyRounds}
use Rattle.std.proofs.Common.{◌≡◌, ℕ, zero, suc, ◌+◌, ◌-◌, ◌*◌, ◌%◌, ◌≤◌, Bool, true, false, cond, not, ◌&&◌, ◌||◌, eqb, ltb, leb, List, [], ◌∷◌, length, take, drop, ℤ, Ok, Err, sym, refl, ap, ◌∙◌, arith, drop-drop}
use Rattle.records.specs.declared.records.Class.{Class}
use Rattle.records.specs.declared.records.Extension.{Extension}
use Rattle.rules.specs.declared.items.Item.{Item}
use Rattle.rules.specs.Trace.{Run, out, pass, stop, done, bind}
use Rattle.rules.specs.Checks.{Check, then, ensure, pick, attempt}
use Rattle.table.specs.Description.{Description, class_at, map_at}
use Rattle.rules.specs.Lookups.{greatest, object_class, map_output}
use Rattle.rules.specs.Values.{is_zero}
use Rattle.bits.specs.Bits.{number}
use Rattle.rules.specs.declared.steps.Window.{Window}
use Rattle.rules.specs.declared.steps.Got.{Got}
use Rattle.rules.specs.declared.steps.Header.{Header}
use Rattle.rules.specs.Steps.{aligned, natural, element, mapped, size_bytes, sized, taken, enough, header, next_multiple}
use Rattle.records.specs.declared.statements.ReadLine.{ReadLine}
use Rattle.records.specs.declared.statements.UseLine.{UseLine}
use Rattle.rules.specs.Code.{Code, finish, read, assign, map_read, use_of, branch, while, code}
use Rattle.rules.specs.Reading.{State, Object, Objects, write, all_zero, moved, after_read, after_object, value_item, open_item, close_item, valued, counted, elements, objects, enough_objects, objects_to_end, used, rounds, run, stretch, extensions, content, inner, closed}
use Rattle.rules.specs.Tidy.{closable, opened_by, object_by}
use Rattle.roundtrip.specs.Standing.{Fam, LocalLaw}
use Rattle.rules.proofs.Facts.{aligned_facts, element_facts, mapped_facts, header_facts, inner_facts, closed_facts, place_of}

-- bits that are equal from p on are so from any later place on
later : (B C : List Bool) (p q : ℕ) → p ≤ q → drop p B ≡ drop p C → drop q B ≡ drop q C
later B C p q l e =
    let f : p + (q - p) ≡ q = omega arith in
    ap (λ n. drop n B) (sym f) ∙ sym (drop-drop (q - p) p B) ∙ ap (drop (q - p)) e ∙ drop-drop (q - p) p C ∙ ap (λ n. drop n C) f

-- steps
then_same : {X Y : Type 0} (c c' : Check X) (k k' : X → Check Y) → c ≡ c' → ((x : X) → c' ≡ Ok x → k x ≡ k' x) → then c k ≡ then c' k'
unfolding then
then_same c c' k k' e h = ap (λ z. then z k) e ∙ go c' h
  where
    go : (r : Check _) → ((x : _) → r ≡ Ok x → k x ≡ k' x) → then r k ≡ then r k'
    go (Ok x) h = h x refl
    go (Err f) h = refl

module _ (B C : List Bool) where
  aligned_local : (w : Window) (to p : ℕ) → drop p B ≡ drop p C → aligned B w to p ≡ aligned C w to p
  unfolding aligned
  aligned_local w to p e =
      ap (λ l. then (enough w p (next_multiple to p - p)) λ _. then (ensure (eqb (number (take (next_multiple to p - p) l)) 0) SkippedBits) λ _. Ok (next_multiple to p)) e

  taken_local : (w : Window) (n p : ℕ) → drop p B ≡ drop p C → taken B w n p ≡ taken C w n p
  unfolding taken
  taken_local w n p e = ap (λ l. then (enough w p n) λ _. Ok (number (take n l))) e

  element_local : (w : Window) (l : ReadLine) (width low high : Check ℤ) (p : ℕ) → drop p B ≡ drop p C → element B w l width low high p ≡ element C w l width low high p
  unfolding element
  element_local w l width low high p e =
      then_same _ _ _ _ (aligned_local w l.alignment p e) λ q al.
      let f = aligned_facts C w l.alignment p q al in
      then_same _ _ _ _ refl λ n wi.
      then_same _ _ _ _ (taken_local w n q (later B C p q f.ahead e)) λ raw ta. refl

  mapped_local : (w : Window) (width : ℕ) (outputs : ℕ → Check ℤ) (p : ℕ) → drop p B ≡ drop p C → mapped B w width outputs p ≡ mapped C w width outputs p
  unfolding mapped
  mapped_local w width outputs p e = then_same _ _ _ _ (taken_local w width p e) λ x ta. refl

  size_bytes_local : (w : Window) (n high p : ℕ) → drop p B ≡ drop p C → size_bytes B w n high p ≡ size_bytes C w n high p
  unfolding size_bytes
  size_bytes_local w zero high p e = refl
  size_bytes_local w (suc n) high p e =
      then_same _ _ _ _ (taken_local w 8 p e) λ b ta.
      ap (λ (r : Check (ℕ × ℕ)). pick (ltb b 128) (λ _. Ok (high * 128 + b, p + 8)) (λ _. r)) (size_bytes_local w n (high * 128 + b % 128) (p + 8) (later B C p (p + 8) (omega arith) e))

  sized_local : (w : Window) (g p : ℕ) → drop p B ≡ drop p C → sized B w g p ≡ sized C w g p
  unfolding sized
  sized_local w zero p e = refl
  sized_local w (suc g) p e = then_same _ _ _ _ (size_bytes_local w 4 0 p e) λ s si. refl

  header_local : (w : Window) (c : Class) (g p : ℕ) → drop p B ≡ drop p C → header B w c g p ≡ header C w c g p
  unfolding header
  header_local w c g p e =
      then_same _ _ _ _ (aligned_local w (cond (eqb g 0) 0 8) p e) λ q al.
      let f = aligned_facts C w (cond (eqb g 0) 0 8) p q al in
      then_same _ _ _ _ (taken_local w _ q (later B C p q f.ahead e)) λ id ta.
      then_same _ _ _ _ (sized_local w g _ (later B C p _ (omega (arith, f.ahead)) e)) λ s si. refl

-- how a run ends
abbrev pub EndsIn : {A : Type 0} → (A → Type 0) → Run A → Type 0
EndsIn P (out i t) = EndsIn P t
EndsIn P (pass t) = EndsIn P t
EndsIn P (stop f) = Unit {0}
EndsIn P (done a) = P a

ends-map : {A : Type 0} (P Q : A → Type 0) → ((a : A) → P a → Q a) → (t : Run A) → EndsIn P t → EndsIn Q t
ends-map P Q f (out i t) h = ends-map P Q f t h
ends-map P Q f (pass t) h = ends-map P Q f t h
ends-map P Q f (stop x) h = tt
ends-map P Q f (done a) h = f a h

ends-bind : {A B : Type 0} (P : A → Type 0) (Q : B → Type 0) (k : A → Run B) → ((a : A) → P a → EndsIn Q (k a)) → (t : Run A) → EndsIn P t → EndsIn Q (bind t k)
unfolding bind
ends-bind P Q k f (out i t) h = ends-bind P Q k f t h
ends-bind P Q k f (pass t) h = ends-bind P Q k f t h
ends-bind P Q k f (stop x) h = tt
ends-bind P Q k f (done a) h = f a h

bind-same : {A B : Type 0} (P : A → Type 0) (k k' : A → Run B) → ((a : A) → P a → k a ≡ k' a) → (t : Run A) → EndsIn P t → bind t k ≡ bind t k'
unfolding bind
bind-same P k k' f (out i t) h = ap (out i) (bind-same P k k' f t h)
bind-same P k k' f (pass t) h = ap pass (bind-same P k k' f t h)
bind-same P k k' f (stop x) h = refl
bind-same P k k' f (done a) h = f a h

-- a family that looks at no bits before p, and is done at p or later, up to `most`
pub record Sees {A : Type 0} (end : A → ℕ) (most p : ℕ) (F : Fam A) : Type 0 where
  pub local : (B C : List Bool) → length B ≡ length C → drop p B ≡ drop p C → F B ≡ F C
  pub beyond : (B : List Bool) → EndsIn (λ (a : A). (p ≤ end a) × (end a ≤ most)) (F B)

module _ {A : Type 0} {end : A → ℕ} {most : ℕ} where
  pub sees_pass : {p : ℕ} {F : Fam A} → Sees end most p F → Sees end most p (λ B. pass (F B))
  sees_pass h = record { local = λ B C l e. ap pass (h.local B C l e); beyond = λ B. h.beyond B }

  pub sees_out : {p : ℕ} (i : Item) {F : Fam A} → Sees end most p F → Sees end most p (λ B. out i (F B))
  sees_out i h = record { local = λ B C l e. ap (out i) (h.local B C l e); beyond = λ B. h.beyond B }

  pub sees_done : {p : ℕ} (a : A) → p ≤ end a → end a ≤ most → Sees end most p (λ B. done a)
  sees_done a l m = record { local = λ B C l e. refl; beyond = λ B. (l, m) }

  pub sees_pick : {p : ℕ} (b : Bool) (F G : Unit {0} → Fam A) → Sees end most p (F tt) → Sees end most p (G tt) → Sees end most p (λ B. pick b (λ u. F u B) (λ u. G u B))
  sees_pick true F G x y = x
  sees_pick false F G x y = y

  -- a step, after which the reading stands at `to`
  pub sees_try : {X : Type 0} {p : ℕ} (to : X → ℕ) (line place : ℕ) (c : List Bool → Check X) (k : X → Fam A) →
      ((B C : List Bool) → drop p B ≡ drop p C → c B ≡ c C) →
      ((B : List Bool) (x : X) → c B ≡ Ok x → (p ≤ to x) × Sees end most (to x) (k x)) →
      Sees end most p (λ B. attempt line place (c B) (λ x. k x B))
  unfolding attempt
  sees_try {X} {p} to line place c k same h =
      record {
        local = λ B C l e. ap (λ r. attempt line place r (λ x. k x B)) (same B C e) ∙ go B C l e (c C) refl;
        beyond = λ B. ends B (c B) refl;
      }
    where
      go : (B C : List Bool) → length B ≡ length C → drop p B ≡ drop p C → (r : Check X) → c C ≡ r → attempt line place r (λ x. k x B) ≡ attempt line place r (λ x. k x C)
      go B C l e (Ok x) q = let z = h C x q in z.1.local B C l (later B C p (to x) z.0 e)
      go B C l e (Err f) q = refl

      ends : (B : List Bool) (r : Check X) → c B ≡ r → EndsIn (λ (a : A). (p ≤ end a) × (end a ≤ most)) (attempt line place r (λ x. k x B))
      ends B (Ok x) q =
          let z = h B x q in
          ends-map (λ (a : A). (to x ≤ end a) × (end a ≤ most)) (λ (a : A). (p ≤ end a) × (end a ≤ most)) (λ a y. (omega (arith, y.0, z.0), y.1)) (k x B) (z.1.beyond B)
      ends B (Err f) q = tt

  -- one that looks at no bits
  pub sees_attempt : {X : Type 0} {p : ℕ} (line place : ℕ) (c : Check X) (k : X → Fam A) → ((x : X) → Sees end most p (k x)) →
      Sees end most p (λ B. attempt line place c (λ x. k x B))
  sees_attempt {X} {p} line place c k h = sees_try (λ _. p) line place (λ _. c) k (λ B C e. refl) (λ B x e. (omega arith, h x))

pub sees_bind : {A B : Type 0} {end : A → ℕ} {most : ℕ} {end' : B → ℕ} {most' p : ℕ} {F : Fam A} (G : A → Fam B) → Sees end most p F →
    ((a : A) → p ≤ end a → end a ≤ most → Sees end' most' (end a) (G a)) → Sees end' most' p (λ C. bind (F C) (λ x. G x C))
sees_bind {A} {B} {end} {most} {end'} {most'} {p} {F} G f g =
    record {
      local = λ C D l e.
          ap (λ t. bind t (λ x. G x C)) (f.local C D l e) ∙
          bind-same (λ (a : A). (p ≤ end a) × (end a ≤ most)) (λ x. G x C) (λ x. G x D) (λ a h. (g a h.0 h.1).local C D l (later C D p (end a) h.0 e)) (F D) (f.beyond D);
      beyond = λ C.
          ends-bind (λ (a : A). (p ≤ end a) × (end a ≤ most)) (λ (b : B). (p ≤ end' b) × (end' b ≤ most')) (λ x. G x C)
          (λ a h. ends-map (λ (b : B). (end a ≤ end' b) × (end' b ≤ most')) (λ (b : B). (p ≤ end' b) × (end' b ≤ most')) (λ b y. (omega (arith, h.0, y.0), y.1)) (G a C) ((g a h.0 h.1).beyond C))
          (F C) (f.beyond C);
    }

module _ (d : Description) where
  module _ (o : Object) where
    pub sees_elements : (line : ℕ) (l : ReadLine) (n index : ℕ) (s : State) → s.place ≤ o.window.end →
        Sees place_of o.window.end s.place (λ B. elements d B o line l n index s)
    unfolding elements
    sees_elements line l zero index s h = sees_pass (sees_done s (omega arith) h)
    sees_elements line l (suc n) index s h =
        sees_try (λ (g : Got). g.after) line s.place
        (λ B. element B o.window l (valued d B o s l.width) (valued d B o s l.lowest) (valued d B o s l.highest) s.place)
        (λ g B. out (value_item o line index g) (elements d B o line l n (suc index) (after_read l.name g s)))
        (λ B C e. element_local B C o.window l _ _ _ s.place e)
        λ B g e.
        let a = element_facts B o.window l _ _ _ s.place g e in
        (omega (arith, a.ahead, a.onward), sees_out (value_item o line index g) (sees_elements line l n (suc index) (after_read l.name g s) a.after))

    module _ (obj : List Bool → Objects)
        (objs : (line declared index : ℕ) (w : Window) (p : ℕ) → p ≤ w.end → Sees place_of w.end p (λ B. obj B line declared index w p)) where
      pub sees_objects : (line : ℕ) (l : UseLine) (n index : ℕ) (s : State) → s.place ≤ o.window.end →
          Sees place_of o.window.end s.place (λ B. objects d B (obj B) o line l n index s)
      unfolding objects
      sees_objects line l zero index s h = sees_pass (sees_done s (omega arith) h)
      sees_objects line l (suc n) index s h =
          sees_bind (λ t B. objects d B (obj B) o line l n (suc index) (after_object l t s))
          (objs line l.class index o.window s.place h)
          (λ t le m. sees_objects line l n (suc index) (after_object l t s) m)

      pub sees_enough : (line : ℕ) (l : UseLine) (index : ℕ) (s : State) → s.place ≤ o.window.end →
          Sees place_of o.window.end s.place (λ B. enough_objects d B line l index s)
      sees_enough line l index s h =
          sees_attempt line s.place (ensure (leb l.least index) TooFew) (λ u B. pass (done s)) (λ u. sees_pass (sees_done s (omega arith) h))

      pub sees_to_end : (line : ℕ) (l : UseLine) (n index : ℕ) (s : State) → s.place ≤ o.window.end →
          Sees place_of o.window.end s.place (λ B. objects_to_end d B (obj B) o line l n index s)
      unfolding objects_to_end
      sees_to_end line l zero index s h = sees_enough line l index s h
      sees_to_end line l (suc n) index s h =
          sees_pick (leb o.window.end (next_multiple 8 s.place))
          (λ _ B. enough_objects d B line l index s)
          (λ _ B. bind (obj B line l.class index o.window s.place) λ t. objects_to_end d B (obj B) o line l n (suc index) (after_object l t s))
          (sees_enough line l index s h)
          (sees_bind (λ t B. objects_to_end d B (obj B) o line l n (suc index) (after_object l t s))
          (objs line l.class index o.window s.place h)
          (λ t le m. sees_to_end line l n (suc index) (after_object l t s) m))

      pub sees_used : (line : ℕ) (l : UseLine) (k : ℕ) (s : State) → s.place ≤ o.window.end →
          Sees place_of o.window.end s.place (λ B. used d B (obj B) o line l k s)
      unfolding used
      sees_used line l zero s h = sees_pass (sees_to_end line l l.most 0 s h)
      sees_used line l (suc k) s h =
          sees_attempt line s.place (natural 65535 (valued d [] o s (suc k))) (λ n B. pass (objects d B (obj B) o line l n 0 s))
          (λ n. sees_pass (sees_objects line l n 0 s h))

      pub sees_rounds : (test : State → Check ℤ) (body : List Bool → State → Run State) (line : ℕ) →
          ((s : State) → s.place ≤ o.window.end → Sees place_of o.window.end s.place (λ B. body B s)) →
          (n : ℕ) (s : State) → s.place ≤ o.window.end → Sees place_of o.window.end s.place (λ B. rounds d B test (body B) line n s)
      unfolding rounds
      sees_rounds test body line bo zero s h =
          sees_attempt line s.place (test s) (λ v B. attempt line s.place (ensure (is_zero v) TooManyRounds) λ _. pass (done s)) λ v.
          sees_attempt line s.place (ensure (is_zero v) TooManyRounds) (λ u B. pass (done s)) λ u.
          sees_pass (sees_done s (omega arith) h)
      sees_rounds test body line bo (suc n) s h =
          sees_attempt line s.place (test s) (λ v B. pass (pick (is_zero v) (λ _. done s) (λ _. bind (body B s) (rounds d B test (body B) line n)))) λ v.
          sees_pass (sees_pick (is_zero v) (λ _ B. done s) (λ _ B. bind (body B s) (rounds d B test (body B) line n))
          (sees_done s (omega arith) h)
          (sees_bind (λ t B. rounds d B test (body B) line n t) (bo s h) (λ t le m. sees_rounds test body line bo n t m)))

      pub sees_run : (c : Code) (s : State) → s.place ≤ o.window.end →
          Sees place_of o.window.end s.place (λ B. run d B (obj B) o c s)
      unfolding run
      sees_run finish s h = sees_pass (sees_done s (omega arith) h)
      sees_run (read line l c) s h =
          sees_attempt line s.place (counted d [] o s l.count) (λ n B. pass (bind (elements d B o line l n 0 s) (run d B (obj B) o c))) λ n.
          sees_pass (sees_bind (λ t B. run d B (obj B) o c t) (sees_elements line l n 0 s h) (λ t le m. sees_run c t m))
      sees_run (assign line name node c) s h =
          sees_attempt line s.place (valued d [] o s node)
          (λ v B. pass (run d B (obj B) o c (record { place = s.place; names = write name v s.names }))) λ v.
          sees_pass (sees_run c (record { place = s.place; names = write name v s.names }) h)
      sees_run (map_read line m name c) s h =
          sees_try (λ (g : Got). g.after) line s.place
          (λ B. mapped B o.window (map_at d m).width (map_output d m) s.place)
          (λ g B. out (value_item o line 0 g) (run d B (obj B) o c (after_read name g s)))
          (λ B C e. mapped_local B C o.window _ _ s.place e)
          λ B g e.
          let a = mapped_facts B o.window _ _ s.place g e in
          (omega (arith, a.after), sees_out (value_item o line 0 g) (sees_run c (after_read name g s) (omega (arith, a.after, a.within))))
      sees_run (use_of line l c) s h =
          sees_bind (λ t B. run d B (obj B) o c t) (sees_used line l l.count s h) (λ t le m. sees_run c t m)
      sees_run (branch line node a b c) s h =
          sees_attempt line s.place (valued d [] o s node)
          (λ v B. pass (bind (pick (is_zero v) (λ _. run d B (obj B) o b s) (λ _. run d B (obj B) o a s)) (run d B (obj B) o c))) λ v.
          sees_pass (sees_bind (λ t B. run d B (obj B) o c t)
          (sees_pick (is_zero v) (λ _ B. run d B (obj B) o b s) (λ _ B. run d B (obj B) o a s) (sees_run b s h) (sees_run a s h))
          (λ t le m. sees_run c t m))
      sees_run (while line node most b c) s h =
          sees_bind (λ t B. run d B (obj B) o c t)
          (sees_rounds (λ t. valued d [] o t node) (λ B. run d B (obj B) o b) line (λ t m. sees_run b t m) most s h)
          (λ t le m. sees_run c t m)

      pub sees_extensions : (es : List Extension) (s : State) → s.place ≤ o.window.end →
          Sees place_of o.window.end s.place (λ B. extensions d B (obj B) o es s)
      unfolding extensions
      sees_extensions [] s h = sees_done s (omega arith) h
      sees_extensions (e ∷ es) s h =
          sees_pick (eqb e.class o.class)
          (λ _ B. attempt e.first s.place (aligned B o.window 8 s.place) λ q. next q B)
          (λ _ B. pass (extensions d B (obj B) o es s))
          (sees_try (λ (q : ℕ). q) e.first s.place (λ B. aligned B o.window 8 s.place) next
          (λ B C q. aligned_local B C o.window 8 s.place q) λ B q x.
          let a = aligned_facts B o.window 8 s.place q x in (
            a.ahead,
            sees_pass (sees_pick (eqb q o.window.end)
                (λ _ B. done (moved q s))
                (λ _ B. bind (stretch d B (obj B) o e.first e.number (moved q s)) (extensions d B (obj B) o es))
                (sees_done (moved q s) (omega arith) a.within)
                (sees_bind (λ t B. extensions d B (obj B) o es t) (sees_run (code d.lines e.first e.number) (moved q s) a.within)
                (λ t le m. sees_extensions es t m))),
          ))
          (sees_pass (sees_extensions es s h))
        where
          next : ℕ → Fam State
          next q B =
              pass (pick (eqb q o.window.end)
              (λ _. done (moved q s))
              (λ _. bind (stretch d B (obj B) o e.first e.number (moved q s)) (extensions d B (obj B) o es)))

      pub sees_content : (c : ℕ) (s : State) → s.place ≤ o.window.end →
          Sees place_of o.window.end s.place (λ B. content d B (obj B) o c s)
      unfolding content
      sees_content zero s h = sees_done s (omega arith) h
      sees_content (suc n) s h =
          sees_bind
          (λ s B. bind (stretch d B (obj B) o (class_at d (suc n)).first (class_at d (suc n)).number s) λ s. extensions d B (obj B) o d.extensions s)
          (sees_run (code d.lines (class_at d (class_at d (suc n)).base).first (class_at d (class_at d (suc n)).base).number) s h) λ s le h.
          sees_bind (λ s B. extensions d B (obj B) o d.extensions s)
          (sees_run (code d.lines (class_at d (suc n)).first (class_at d (suc n)).number) s h) λ s le h.
          sees_extensions d.extensions s h

  closable_local : (B C : List Bool) (tidy : Bool) (g : ℕ) (w : Window) (p : ℕ) → drop p B ≡ drop p C → closable d B tidy g w p ≡ closable d C tidy g w p
  closable_local B C false g w p e = refl
  closable_local B C true zero w p e = refl
  closable_local B C true (suc g) w p e =
      ap (λ l. ensure (eqb (next_multiple 8 p) w.end && eqb (number (take (w.end - p) l)) 0) BitsLeft) e

  module _ (tidy : Bool) where
    pub sees_closing : (c g line index : ℕ) (w : Window) (s : State) (most : ℕ) → s.place ≤ w.end → w.end ≤ most →
        Sees place_of most s.place
        (λ B. attempt line s.place (closable d B tidy g w s.place) λ _. out (close_item c line index (closed d B g w s).place) (done (closed d B g w s)))
    sees_closing c g line index w s most h m =
        let f = closed_facts d [] g w s h in
        sees_try (λ _. s.place) line s.place (λ B. closable d B tidy g w s.place)
        (λ _ B. out (close_item c line index (closed d B g w s).place) (done (closed d B g w s)))
        (λ B C e. closable_local B C tidy g w s.place e)
        (λ B x e. (omega arith, sees_out (close_item c line index (closed d [] g w s).place) (sees_done (closed d [] g w s) f.0 (omega (arith, f.1)))))

    pub sees_object : (n line declared index : ℕ) (w : Window) (p : ℕ) → p ≤ w.end → Sees place_of w.end p (λ B. object_by d B tidy n line declared index w p)
    unfolding object_by opened_by
    sees_object zero line declared index w p h = record { local = λ B C l e. refl; beyond = λ B. tt }
    sees_object (suc n) line declared index w p l =
        sees_try (λ (h : Header). h.after) line p (λ B. header B w (class_at d declared) (greatest d declared) p)
        (λ h B. attempt line p (ensure (not (eqb (object_class d declared h.id) 0) || (not tidy && not (eqb (greatest d declared) 0))) UnknownId) λ _.
        out (open_item (object_class d declared h.id) line index h)
        (bind (content d B (object_by d B tidy n) (record { class = object_class d declared h.id; size = h.size; window = inner d B (greatest d declared) h w }) (object_class d declared h.id) (record { place = h.after; names = all_zero })) λ s.
        attempt line s.place (closable d B tidy (greatest d declared) (inner d B (greatest d declared) h w) s.place) λ _.
        out (close_item (object_class d declared h.id) line index (closed d B (greatest d declared) (inner d B (greatest d declared) h w) s).place) (done (closed d B (greatest d declared) (inner d B (greatest d declared) h w) s))))
        (λ B C e. header_local B C w (class_at d declared) (greatest d declared) p e)
        λ B h e.
        let a = header_facts B w (class_at d declared) (greatest d declared) p h e in
        let f = inner_facts d [] (greatest d declared) h w a.within in (
          omega (arith, a.ahead, a.onward),
          sees_attempt line p _ _ λ u.
              sees_out _ (sees_bind _
              (sees_content (record { class = object_class d declared h.id; size = h.size; window = inner d [] (greatest d declared) h w }) (λ B. object_by d B tidy n) (sees_object n)
              (object_class d declared h.id) (record { place = h.after; names = all_zero }) f.0)
              (λ s le m. sees_closing (object_class d declared h.id) (greatest d declared) line index (inner d [] (greatest d declared) h w) s w.end m f.1)),
        )

pub local_law : LocalLaw
local_law d tidy n =
    record {
      of_object = λ line declared index w p l. (sees_object d tidy n line declared index w p l).local;
      of_run = λ o c s l. (sees_run d o (λ B. object_by d B tidy n) (sees_object d tidy n) c s l).local;
      of_extensions = λ o es s l. (sees_extensions d o (λ B. object_by d B tidy n) (sees_object d tidy n) es s l).local;
      of_content = λ o c s l. (sees_content d o (λ B. object_by d B tidy n) (sees_object d tidy n) c s l).local;
    }
