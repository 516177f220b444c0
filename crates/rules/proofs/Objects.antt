-- An object, and the whole reading, by the newer description follows that by the older one.
use Rattle.std.proofs.Common.{◌≡◌, ℕ, zero, suc, ◌+◌, ◌-◌, ◌*◌, ◌<◌, ◌≤◌, Bool, true, false, cond, not, ◌&&◌, ◌||◌, T, eqb, leb, ◌⊎◌, List, [], ◌∷◌, ◌++◌, length, Ok, Err, sym, refl, ap, ◌∙◌, subst, subst₂, inl, inr, arith, le→leb, eqb→eq, T_not}
use Rattle.std.proofs.Math.Facts.{and_yes, or_yes}
use Rattle.std.proofs.Math.Bool.{or-true}
use Rattle.std.proofs.lemmas.Bool.{not_from_false, ne_eqb}
use Rattle.rules.proofs.Facts.{ensure_ok}
use Rattle.checked.proofs.Booleans.{true_of}
use Rattle.rules.proofs.Booleans.{decide}
use lib.Dec.{eqb_refl}
use Rattle.records.specs.declared.records.Class.{Class}
use Rattle.rules.specs.declared.faults.Failure.{Failure}
use Rattle.rules.specs.declared.faults.ReadingCause.TheVariants.{SourceEnds, ObjectEnds, SkippedBits, UnknownId, BitsLeft}
use Rattle.records.specs.declared.records.Extension.{Extension}
use Rattle.rules.specs.Trace.{Run, out, done, bind, bind_assoc, items, outcome, ended}
use Rattle.rules.specs.Checks.{Check, then, pick, attempt, ensure}
use Rattle.records.specs.Classes.{is_base}
use Rattle.table.specs.Description.{Description, class_at}
use Rattle.rules.specs.Lookups.{object_class, greatest}
use Rattle.rules.specs.Values.{Names}
use Rattle.bits.specs.Bits.{number, part}
use Rattle.rules.specs.declared.steps.Header.{Header}
use Rattle.rules.specs.declared.steps.Window.{Window}
use Rattle.rules.specs.Steps.{header, enough, aligned, at_end, next_multiple}
use Rattle.rules.specs.Code.{code}
use Rattle.rules.specs.Reading.{State, Object, Objects, all_zero, close_item, extensions, content, inner, closed, stretch}
use Rattle.rules.specs.Tidy.{closable, opened_by, object_by, tidy_reading, reading_by}
use Rattle.rules.specs.Growth.{Grown, Compares, GrowthLaw, CopyLaw}
use Rattle.checked.specs.Sound.{Sound, All}
use Rattle.checked.proofs.Sounds.{sound}
use Rattle.rules.proofs.Plain.{plain_reading}
use Rattle.rules.proofs.Follow.{Hidden, More, Blank, Follows, ends, refuses, shown, gives_up, new_pass, both_pass, follows_bind, blank_follows, follows_attempt, compares, copies}
use Rattle.rules.proofs.Struck.{show_open, show_open_deeper, show_close, show_close_deeper, mask_open, mask_open_deeper, mask_close, close_deeper}
use Rattle.rules.proofs.Same.{class_same, greatest_same, code_each}
use Rattle.rules.proofs.Blanks.{HiddenLine, HiddenExtension, blank_extensions, blank_content, blank_object}
use Rattle.rules.proofs.Fresh.{fresh}
use Rattle.rules.proofs.Chosen.{Chosen, chosen, chosen_greatest}
use Rattle.rules.proofs.Runs.{at, Agree, Left, FollowObjects, meet, follow_stretch}

all_right : {A : Type 0} (P : A → Type 0) (xs ys : List A) → All P (xs ++ ys) → All P ys
all_right P [] ys a = a
all_right P (x ∷ xs) ys a = all_right P xs ys a.1

all_both : {A : Type 0} (P Q R : A → Type 0) → ((x : A) → P x → Q x → R x) → (xs : List A) → All P xs → All Q xs → All R xs
all_both P Q R h [] a b = tt
all_both P Q R h (x ∷ xs) a b = (h x a.0 b.0, all_both P Q R h xs a.1 b.1)

-- an alignment that lands on the window's end over bits that are 0
aligned_to_end : (bits : List Bool) (w : Window) (p : ℕ) → next_multiple 8 p ≡ w.end → T (eqb (number (part bits p (w.end - p))) 0) → aligned bits w 8 p ≡ Ok w.end
unfolding aligned then ensure
aligned_to_end bits w p e t =
    ap (λ q. then (enough w p (q - p)) λ _. then (ensure (eqb (number (part bits p (q - p))) 0) SkippedBits) λ _. Ok q) e ∙
    ap (λ b. then (ensure b (cond w.object ObjectEnds SourceEnds)) λ _. then (ensure (eqb (number (part bits p (w.end - p))) 0) SkippedBits) λ _. Ok w.end)
    (true_of (leb (p + (w.end - p)) w.end) (le→leb _ _ (let z : p ≤ next_multiple 8 p = omega arith in omega arith))) ∙
    ap (λ b. then (ensure b SkippedBits) λ _. Ok w.end) (true_of (eqb (number (part bits p (w.end - p))) 0) t)

-- where a close is refused the reading is tidy; and where a tidy one allows it, an alignment lands on the end
closable_refuses : (d : Description) (bits : List Bool) (b : Bool) (g : ℕ) (w : Window) (p : ℕ) (e : Failure) → closable d bits b g w p ≡ Err e → T b
closable_refuses d bits true g w p e h = tt
closable_refuses d bits false g w p e h = let z : ◌≡◌ {A = ℕ} 0 1 = cc in let y : ⊥ = omega arith in absurd y

closable-aligned : (d : Description) (bits : List Bool) (b : Bool) (g : ℕ) (w : Window) (p : ℕ) → T b → closable d bits b g w p ≡ Ok tt → 0 < g → aligned bits w 8 p ≡ Ok w.end
closable-aligned d bits true zero w p t e h = let y : ⊥ = omega arith in absurd y
closable-aligned d bits true (suc g) w p t e h =
    let a = ensure_ok (eqb (next_multiple 8 p) w.end && eqb (number (part bits p (w.end - p))) 0) BitsLeft tt e in
    aligned_to_end bits w p (eqb→eq (next_multiple 8 p) w.end (and_yes _ _ a).0) (and_yes _ _ a).1
closable-aligned d bits false g w p t e h = absurd t

module _ (older : Description) (tidy : Bool) where
  follows_then : {R S : State → State → Type 0} {k : ℕ} (n : Run State) (f : State → Run State) (o : Run State) (u x y : State → Run State) →
      Follows older tidy R k n o → ((s t : State) → R s t → Follows older tidy S zero (bind (f s) x) (bind (u t) y)) →
      Follows older tidy S k (bind (bind n f) x) (bind (bind o u) y)
  follows_then {R} {S} {k} n f o u x y h g =
      subst₂ (λ a b. Follows older tidy S k a b) (sym (bind_assoc n f x)) (sym (bind_assoc o u y)) (follows_bind older tidy (λ s. bind (f s) x) (λ s. bind (u s) y) g h)

  -- a step of the older run alone, which may only fail where it is tidy; and steps of the newer run alone
  old_attempt : {A B C : Type 0} {S : C → B → Type 0} {k : ℕ} (line p : ℕ) (n : Run C) (m : Check A) (f : A → Run B) →
      ((e : Failure) → m ≡ Err e → T tidy) → ((a : A) → m ≡ Ok a → Follows older tidy S k n (f a)) → Follows older tidy S k n (attempt line p m f)
  unfolding attempt
  old_attempt line p n (Ok a) f x h = h a refl
  old_attempt line p n (Err e) f x h = gives_up (x e refl)

  new_attempt : {A B C : Type 0} {S : B → C → Type 0} {k : ℕ} (line p : ℕ) (o : Run C) (m : Check A) (a : A) (f : A → Run B) → m ≡ Ok a →
      Follows older tidy S k (f a) o → Follows older tidy S k (attempt line p m f) o
  unfolding attempt
  new_attempt {S} {k} line p o m a f e h = subst (λ m. Follows older tidy S k (attempt line p m f) o) (sym e) h

  new_attempt_bind : {A B C D : Type 0} {S : C → D → Type 0} {k : ℕ} (line p : ℕ) (o : Run D) (m : Check A) (a : A) (f : A → Run B) (x : B → Run C) → m ≡ Ok a →
      Follows older tidy S k (bind (f a) x) o → Follows older tidy S k (bind (attempt line p m f) x) o
  unfolding attempt
  new_attempt_bind {S} {k} line p o m a f x e h = subst (λ m. Follows older tidy S k (bind (attempt line p m f) x) o) (sym e) h

  new_pick_bind : {A C D : Type 0} {S : C → D → Type 0} {k : ℕ} (b : Bool) (f g : Unit {0} → Run A) (x : A → Run C) (o : Run D) →
      (T b → Follows older tidy S k (bind (f tt) x) o) → (T (not b) → Follows older tidy S k (bind (g tt) x) o) → Follows older tidy S k (bind (pick b f g) x) o
  new_pick_bind true f g x o h k = h tt
  new_pick_bind false f g x o h k = k tt

  follows_pick_bind : {A B C D : Type 0} {S : C → D → Type 0} {k : ℕ} (b : Bool) (f g : Unit {0} → Run A) (u v : Unit {0} → Run B) (x : A → Run C) (y : B → Run D) →
      (T b → Follows older tidy S k (bind (f tt) x) (bind (u tt) y)) → (T (not b) → Follows older tidy S k (bind (g tt) x) (bind (v tt) y)) →
      Follows older tidy S k (bind (pick b f g) x) (bind (pick b u v) y)
  follows_pick_bind true f g u v x y h k = h tt
  follows_pick_bind false f g u v x y h k = k tt

  follows_attempt_bind : {A B C D E : Type 0} {S : D → E → Type 0} (line p : ℕ) → line ≤ length older.lines →
      (m : Check A) (f : A → Run B) (g : A → Run C) (x : B → Run D) (y : C → Run E) →
      ((a : A) → Follows older tidy S zero (bind (f a) x) (bind (g a) y)) → Follows older tidy S zero (bind (attempt line p m f) x) (bind (attempt line p m g) y)
  unfolding attempt bind
  follows_attempt_bind line p l (Ok a) f g x y h = h a
  follows_attempt_bind line p l (Err e) f g x y h = refuses l

module _ (older newer : Description) (gr : Grown older newer) (so : Sound older) (sn : Sound newer) (bits : List Bool) (tidy : Bool) where
  module _ (new_obj old_obj : Objects) (objs : FollowObjects older tidy new_obj old_obj)
      (blank : (k line declared index : ℕ) (w : Window) (p : ℕ) → Hidden older k line → Blank older (λ (t : State). Unit {0}) k k (new_obj line declared index w p)) where
    -- what comes after an object's content, by the newer and by the older: from the same place, or wherever the
    -- object is expandable; and after new extensions, of which the older has none
    record Closes (S : State → State → Type 0) (g : ℕ) (new_close old_close : State → Run State) (o : Object) : Type 0 where
      both : (s t : State) → Agree older s.names t.names → (0 < g) ⊎ (s.place ≡ t.place) → Follows older tidy S zero (new_close s) (old_close t)
      rest : (ys : List Extension) → All (HiddenExtension older newer 0 o g) ys → (p : ℕ) (new old : Names) → Agree older new old →
          Follows older tidy S zero (bind (extensions newer bits new_obj o ys (at p new)) new_close) (old_close (at p old))

    module _ (S : State → State → Type 0) (g : ℕ) (new_close old_close : State → Run State) (o : Object) (closes : Closes S g new_close old_close o) where
      follow_extensions : (xs ys : List Extension) →
          All (λ (e : Extension).
          (0 < e.first) × (0 < e.number) × (e.first + e.number ≤ suc (length older.lines)) × (0 < greatest older e.class)) xs →
          All (HiddenExtension older newer 0 o g) ys → (p : ℕ) (new old : Names) → Agree older new old →
          Follows older tidy S zero (bind (extensions newer bits new_obj o (xs ++ ys) (at p new)) new_close) (bind (extensions older bits old_obj o xs (at p old)) old_close)
      unfolding extensions bind
      follow_extensions [] ys a b p new old h = closes.rest ys b p new old h
      follow_extensions (e ∷ xs) ys a b p new old h =
          follows_pick_bind older tidy (eqb e.class o.class) _ _ _ _ new_close old_close
          (λ t. follows_attempt_bind older tidy e.first p (within a.0) (aligned bits o.window 8 p) _ _ new_close old_close λ q.
          both_pass older tidy (follows_pick_bind older tidy (eqb q o.window.end) _ _ _ _ new_close old_close
          (λ u. closes.both (at q new) (at q old) h (inr refl))
          (λ u. follows_then older tidy
          (stretch newer bits new_obj o e.first e.number (at q new)) (extensions newer bits new_obj o (xs ++ ys))
          (stretch older bits old_obj o e.first e.number (at q old)) (extensions older bits old_obj o xs) new_close old_close
          (follow_stretch older newer gr so bits tidy o new_obj old_obj objs e.first e.number e.first e.number refl refl a.0.2 q new old h)
          (meet older tidy (λ s. bind (extensions newer bits new_obj o (xs ++ ys) s) new_close) (λ s. bind (extensions older bits old_obj o xs s) old_close)
          (follow_extensions xs ys a.1 b)))))
          (λ t. both_pass older tidy (follow_extensions xs ys a.1 b p new old h))
        where
          within : (0 < e.first) × (0 < e.number) × (e.first + e.number ≤ suc (length older.lines)) × (0 < greatest older e.class) → e.first ≤ length older.lines
          within q = omega arith

      -- the new extensions of an older class
      new_extensions : (c : ℕ) → c ≤ length older.classes → greatest older c ≡ g → o.class ≡ c → All (HiddenExtension older newer 0 o g) gr.extensions.0
      unfolding code
      new_extensions c l eg ec =
          all_both _ _ (HiddenExtension older newer 0 o g)
          (λ e new sound. (
            inr new,
            code_each (HiddenLine older 0) newer.lines e.first (suc (length newer.lines))
                (λ at x y. inr (omega arith, gr.writes at (omega arith) (omega arith)))
                e.number e.first e.number (omega arith) sound.2,
            λ t. inr (own e (eqb→eq e.class o.class t) sound.3),
          ))
          gr.extensions.0 (fresh older newer so sn gr there) there
        where
          own : (e : Extension) → e.class ≡ o.class → 0 < greatest newer e.class → 0 < g
          own e q h = subst (λ n. 0 < n) (ap (greatest newer) (q ∙ ec) ∙ greatest_same older newer gr so c l ∙ eg) h

          there : All (λ (e : Extension).
              (0 < e.first) × (0 < e.number) × (e.first + e.number ≤ suc (length newer.lines)) × (0 < greatest newer e.class)) gr.extensions.0
          there = all_right _ older.extensions gr.extensions.0 (subst (All _) gr.extensions.1 sn.extensions)

      follow_extended : (n : ℕ) → suc n ≤ length older.classes → greatest older (suc n) ≡ g → o.class ≡ suc n → (p : ℕ) (new old : Names) → Agree older new old →
          Follows older tidy S zero (bind (extensions newer bits new_obj o newer.extensions (at p new)) new_close) (bind (extensions older bits old_obj o older.extensions (at p old)) old_close)
      follow_extended n l eg ec p new old h =
          subst (λ es. Follows older tidy S zero (bind (extensions newer bits new_obj o es (at p new)) new_close) (bind (extensions older bits old_obj o older.extensions (at p old)) old_close))
          (sym gr.extensions.1)
          (follow_extensions older.extensions gr.extensions.0 so.extensions (new_extensions (suc n) l eg ec) p new old h)

      -- a class's own lines and its extensions
      abbrev own_part : Description → Objects → ℕ → State → Run State
      own_part d obj n s =
          bind (stretch d bits obj o (class_at d (suc n)).first (class_at d (suc n)).number s) λ s. extensions d bits obj o d.extensions s

      follow_own : (n : ℕ) → suc n ≤ length older.classes → greatest older (suc n) ≡ g → o.class ≡ suc n → (p : ℕ) (new old : Names) → Agree older new old →
          Follows older tidy S zero (bind (own_part newer new_obj n (at p new)) new_close) (bind (own_part older old_obj n (at p old)) old_close)
      follow_own n l eg ec p new old h =
          follows_then older tidy
          (stretch newer bits new_obj o (class_at newer (suc n)).first (class_at newer (suc n)).number (at p new)) (λ s. extensions newer bits new_obj o newer.extensions s)
          (stretch older bits old_obj o (class_at older (suc n)).first (class_at older (suc n)).number (at p old)) (λ s. extensions older bits old_obj o older.extensions s) new_close old_close
          (follow_stretch older newer gr so bits tidy o new_obj old_obj objs _ _ (class_at older (suc n)).first (class_at older (suc n)).number
          (ap (λ c. c.first) (class_same older newer gr (suc n) l)) (ap (λ c. c.number) (class_same older newer gr (suc n) l)) (so.classes (suc n) l) p new old h)
          (meet older tidy (λ s. bind (extensions newer bits new_obj o newer.extensions s) new_close) (λ s. bind (extensions older bits old_obj o older.extensions s) old_close)
          (follow_extended n l eg ec))

      base_same : (n : ℕ) → suc n ≤ length older.classes → class_at newer (class_at newer (suc n)).base ≡ class_at older (class_at older (suc n)).base
      base_same n l = ap (λ c. class_at newer c.base) (class_same older newer gr (suc n) l) ∙ class_same older newer gr (class_at older (suc n)).base (so.bases (suc n) l)

      follow_content : (c : ℕ) → c ≤ length older.classes → ((n : ℕ) → c ≡ suc n → greatest older (suc n) ≡ g) → o.class ≡ c →
          (p : ℕ) (new old : Names) → Agree older new old →
          Follows older tidy S zero (bind (content newer bits new_obj o c (at p new)) new_close) (bind (content older bits old_obj o c (at p old)) old_close)
      unfolding content bind
      follow_content zero l eg ec p new old h = closes.both (at p new) (at p old) h (inr refl)
      follow_content (suc n) l eg ec p new old h =
          follows_then older tidy
          (stretch newer bits new_obj o (class_at newer (class_at newer (suc n)).base).first (class_at newer (class_at newer (suc n)).base).number (at p new)) (own_part newer new_obj n)
          (stretch older bits old_obj o (class_at older (class_at older (suc n)).base).first (class_at older (class_at older (suc n)).base).number (at p old)) (own_part older old_obj n) new_close old_close
          (follow_stretch older newer gr so bits tidy o new_obj old_obj objs _ _ (class_at older (class_at older (suc n)).base).first (class_at older (class_at older (suc n)).base).number
          (ap (λ c. c.first) (base_same n l)) (ap (λ c. c.number) (base_same n l)) (so.classes (class_at older (suc n)).base (so.bases (suc n) l)) p new old h)
          (meet older tidy (λ s. bind (own_part newer new_obj n s) new_close) (λ s. bind (own_part older old_obj n s) old_close) (follow_own n l (eg n refl) ec))

    -- what closes an object, once that is allowed, and with what allows it
    abbrev closing : (c g line index : ℕ) → Window → State → Run State
    closing c g line index w s =
        out (close_item c line index (closed older bits g w s).place) (done (closed older bits g w s))

    abbrev allowed : Bool → (c g line index : ℕ) → Window → State → Run State
    allowed strict c g line index w s = attempt line s.place (closable older bits strict g w s.place) λ _. closing c g line index w s

    follow_closing : (declared c g line index : ℕ) (w : Window) → line ≤ length older.lines → c ≤ length older.classes →
        (s t : State) → Agree older s.names t.names → (0 < g) ⊎ (s.place ≡ t.place) →
        Follows older tidy (Left older declared) zero (closing c g line index w s) (closing c g line index w t)
    follow_closing declared c zero line index w l k s t h (inl z) = let y : ⊥ = omega arith in absurd y
    follow_closing declared c zero line index w l k s t h (inr e) =
        shown (show_close older line l c k index s.place ∙ ap (λ p. close_item c line index p ∷ []) e)
        (show_close_deeper older line l c index s.place) (λ u. ap (close_item c line index) e) (ends (e, inl h))
    follow_closing declared c (suc g) line index w l k s t h x =
        shown (show_close older line l c k index w.end) (show_close_deeper older line l c index w.end) (λ u. refl) (ends (refl, inl h))

    -- by a plain reading a close is always allowed
    allowed_plain : (b : Bool) → T (not b) → (c g line index : ℕ) (w : Window) (s : State) → allowed b c g line index w s ≡ closing c g line index w s
    unfolding attempt
    allowed_plain true t c g line index w s = absurd t
    allowed_plain false t c g line index w s = refl

    -- new extensions of a tidy object do nothing
    tidy_rest : {S : State → State → Type 0} (o : Object) (g p : ℕ) → (0 < g → aligned bits o.window 8 p ≡ Ok o.window.end) → (close : State → Run State) (old : Run State) (new : Names) →
        ((q : ℕ) → (0 < g) ⊎ (q ≡ p) → Follows older tidy S zero (close (at q new)) old) →
        (ys : List Extension) → All (HiddenExtension older newer 0 o g) ys → Follows older tidy S zero (bind (extensions newer bits new_obj o ys (at p new)) close) old
    unfolding extensions bind
    tidy_rest o g p al close old new h [] a = h p (inr refl)
    tidy_rest o g p al close old new h (e ∷ es) a =
        new_pick_bind older tidy (eqb e.class o.class) _ _ close old
        (λ t. new_attempt_bind older tidy e.first p old (aligned bits o.window 8 p) o.window.end _ close (al (some (a.0.2 t)))
        (new_pass (new_pick_bind older tidy (eqb o.window.end o.window.end) _ _ close old
        (λ u. h o.window.end (inl (some (a.0.2 t))))
        (λ u. absurd (T_not (eqb o.window.end o.window.end) u (eqb_refl o.window.end))))))
        (λ t. new_pass (tidy_rest o g p al close old new h es a.1))
      where
        some : (0 < 0) ⊎ (0 < g) → 0 < g
        some (inl z) = let y : ⊥ = omega arith in absurd y
        some (inr z) = z

    -- new extensions of a plain object are struck
    plain_rest : {S : State → State → Type 0} (o : Object) (g : ℕ) → T (not tidy) → (close : State → Run State) (old : Run State) (p : ℕ) (new names : Names) → More old →
        Agree older new names → ((t : State) → Agree older t.names names → (0 < g) ⊎ (t.place ≡ p) → Follows older tidy S zero (close t) old) →
        (ys : List Extension) → All (HiddenExtension older newer 0 o g) ys → Follows older tidy S zero (bind (extensions newer bits new_obj o ys (at p new)) close) old
    plain_rest o g plain close old p new names more ag h ys a =
        blank_follows older tidy close old plain more (λ t held. h t (kept t held.0) (placed t held.1))
        (blank_extensions older newer bits 0 new_obj (blank 0) o new g p ys a (at p new) (inr (λ m l. refl), inr refl))
      where
        kept : (t : State) → (0 < 0) ⊎ ((m : ℕ) → m ≤ length older.names → t.names m ≡ new m) → Agree older t.names names
        kept t (inl z) = let y : ⊥ = omega arith in absurd y
        kept t (inr e) = λ m l. e m l ∙ ag m l

        placed : (t : State) → (((0 < 0) ⊎ (0 < g)) ⊎ (t.place ≡ p)) → (0 < g) ⊎ (t.place ≡ p)
        placed t (inl (inl z)) = let y : ⊥ = omega arith in absurd y
        placed t (inl (inr z)) = inl z
        placed t (inr e) = inr e

    module _ (declared c g line index : ℕ) (o : Object) (l : line ≤ length older.lines) (k : c ≤ length older.classes) where
      follow_allowed : (s t : State) → Agree older s.names t.names → (0 < g) ⊎ (s.place ≡ t.place) →
          Follows older tidy (Left older declared) zero (allowed false c g line index o.window s) (allowed tidy c g line index o.window t)
      follow_allowed s t h x =
          new_attempt older tidy line s.place _ _ tt _ refl
          (old_attempt older tidy line t.place _ _ _ (λ e q. closable_refuses older bits tidy g o.window t.place e q)
          (λ u e. follow_closing declared c g line index o.window l k s t h x))

      follow_rest : (ys : List Extension) → All (HiddenExtension older newer 0 o g) ys → (p : ℕ) (new old : Names) → Agree older new old →
          Follows older tidy (Left older declared) zero (bind (extensions newer bits new_obj o ys (at p new)) (allowed false c g line index o.window))
          (allowed tidy c g line index o.window (at p old))
      follow_rest ys a p new old h =
          decide tidy
          (λ t. old_attempt older tidy line p _ _ _ (λ e q. t) λ u e.
          tidy_rest o g p (closable-aligned older bits tidy g o.window p t e) (allowed false c g line index o.window) _ new
          (λ q x. new_attempt older tidy line q _ _ tt _ refl (follow_closing declared c g line index o.window l k (at q new) (at p old) h x)) ys a)
          (λ plain. subst (λ r. Follows older tidy (Left older declared) zero (bind (extensions newer bits new_obj o ys (at p new)) (allowed false c g line index o.window)) r)
          (sym (allowed_plain tidy plain c g line index o.window (at p old)))
          (plain_rest o g plain (allowed false c g line index o.window) (closing c g line index o.window (at p old)) p new old tt h
          (λ t ag x. new_attempt older tidy line t.place _ _ tt _ refl (follow_closing declared c g line index o.window l k t (at p old) ag x)) ys a))

    -- an object whose class the older knows, or that is unknown to both
    follow_opened : (declared c g line index : ℕ) (a : Header) (w : Window) → line ≤ length older.lines → c ≤ length older.classes →
        ((n : ℕ) → c ≡ suc n → greatest older (suc n) ≡ g) →
        Follows older tidy (Left older declared) zero (opened_by newer bits false new_obj c g line index a w) (opened_by older bits tidy old_obj c g line index a w)
    unfolding opened_by
    follow_opened declared c g line index a w l k eg =
        let o : Object = record { class = c; size = a.size; window = inner older bits g a w } in
        shown (show_open older line l c k index a) (show_open_deeper older line l c k index a) (λ u. refl)
        (follow_content (Left older declared) g (allowed false c g line index o.window) (allowed tidy c g line index o.window) o
        (record { both = follow_allowed declared c g line index o l k; rest = follow_rest declared c g line index o l k })
        c k eg refl a.after all_zero all_zero (λ m x. refl))

    -- an object whose class is new, by a plain reading
    follow_new : T (not tidy) → (declared c g line index : ℕ) (a : Header) (w : Window) → line ≤ length older.lines → length older.classes < c →
        T (is_base (class_at older declared)) → 0 < greatest older declared → 0 < g →
        Follows older tidy (Left older declared) zero (opened_by newer bits false new_obj c g line index a w) (opened_by older bits tidy old_obj 0 g line index a w)
    unfolding opened_by content bind
    follow_new plain declared c zero line index a w l k b gd z = let y : ⊥ = omega arith in absurd y
    follow_new plain declared c (suc g) line index a w l k b gd z =
        let o : Object = record { class = c; size = a.size; window = inner older bits (suc g) a w } in
        shown (mask_open older line l c k index a) (mask_open_deeper older line l c k index a) (λ t. absurd (T_not tidy plain t))
        (subst (λ r. Follows older tidy (Left older declared) 1 (bind (content newer bits new_obj o c (at a.after all_zero)) (allowed false c (suc g) line index o.window)) r) (sym (allowed_plain tidy plain 0 (suc g) line index (inner older bits (suc g) a w) (at a.after all_zero)))
        (blank_follows older tidy (allowed false c (suc g) line index (inner older bits (suc g) a w))
        (closing 0 (suc g) line index (inner older bits (suc g) a w) (at a.after all_zero)) plain tt
        (λ s u. new_attempt older tidy line s.place _ _ tt _ refl
        (shown (mask_close older line l c k index (a.after + 8 * a.size)) (close_deeper older 0 c line index (a.after + 8 * a.size)) (λ t. absurd (T_not tidy plain t))
        (ends (refl, inr (b, gd)))))
        (blank_content older newer bits 1 (omega arith) new_obj (blank 1) o c (at a.after all_zero))))

    -- a declared class whose id and size are read
    follow_chosen : (declared g line index p : ℕ) (a : Header) (w : Window) → line ≤ length older.lines → g ≡ greatest older declared →
        (new old : ℕ) → Chosen older newer gr declared new old → ((n : ℕ) → old ≡ suc n → greatest older (suc n) ≡ g) →
        Follows older tidy (Left older declared) zero
        (attempt line p (ensure (not (eqb new 0) || (not false && not (eqb g 0))) UnknownId) λ u. opened_by newer bits false new_obj new g line index a w)
        (attempt line p (ensure (not (eqb old 0) || (not tidy && not (eqb g 0))) UnknownId) λ u. opened_by older bits tidy old_obj old g line index a w)
    unfolding ensure
    follow_chosen declared g line index p a w l e new old ch eg = decide tidy (λ u. go (inl u) ch) (λ u. go (inr u) ch)
      where
        known : T tidy → ensure (not (eqb old 0) || (not tidy && not (eqb g 0))) UnknownId ≡ Ok tt → T (not (eqb old 0))
        known t q = elim (or_yes (not (eqb old 0)) (not tidy && not (eqb g 0)) (ensure_ok _ UnknownId tt q)) [
          | inl x ↦ x
          | inr x ↦ absurd (T_not tidy (and_yes (not tidy) _ x).0 t)
        ]

        opens : (c : ℕ) → new ≡ old → old ≤ length older.classes →
            Follows older tidy (Left older declared) zero (opened_by newer bits false new_obj new g line index a w) (opened_by older bits tidy old_obj old g line index a w)
        opens c q k =
            subst (λ c. Follows older tidy (Left older declared) zero (opened_by newer bits false new_obj c g line index a w) (opened_by older bits tidy old_obj old g line index a w))
            (sym q) (follow_opened declared old g line index a w l k eg)

        passes : (t : Bool) → t ≡ true → 0 < g → (c : ℕ) → ensure (not (eqb c 0) || (t && not (eqb g 0))) UnknownId ≡ Ok tt
        passes t q h c = (λ i. ensure (not (eqb c 0) || (q i && not_from_false (eqb g 0) (ne_eqb g 0 (λ e. omega arith)) i)) UnknownId) ∙ ap (λ b. ensure b UnknownId) (or-true (not (eqb c 0)))

        go : T tidy ⊎ T (not tidy) → Chosen older newer gr declared new old →
            Follows older tidy (Left older declared) zero
            (attempt line p (ensure (not (eqb new 0) || (not false && not (eqb g 0))) UnknownId) λ u. opened_by newer bits false new_obj new g line index a w)
            (attempt line p (ensure (not (eqb old 0) || (not tidy && not (eqb g 0))) UnknownId) λ u. opened_by older bits tidy old_obj old g line index a w)
        go (inl t) (inl same) =
            old_attempt older tidy line p _ _ _ (λ f q. t) λ u q.
            new_attempt older tidy line p _ _ tt _
            (λ i. ensure (true_of (not (eqb new 0)) (subst (λ c. T (not (eqb c 0))) (sym same.0) (known t q)) i || (not false && not (eqb g 0))) UnknownId)
            (opens old same.0 same.1)
        go (inl t) (inr diff) =
            old_attempt older tidy line p _ _ _ (λ f q. t) λ u q. absurd (subst (λ c. T (not (eqb c 0))) diff.0 (known t q))
        go (inr plain) (inl same) =
            follows_attempt older tidy line p l _ _ _ _ (λ i. ensure (not (eqb (same.0 i) 0) || (sym (true_of (not tidy) plain) i && not (eqb g 0))) UnknownId) λ u.
            opens old same.0 same.1
        go (inr plain) (inr diff) =
            let some : 0 < g = subst (λ n. 0 < n) (sym e) diff.3 in
            follows_attempt older tidy line p l _ _ _ _ (passes (not false) refl some new ∙ sym (passes (not tidy) (true_of (not tidy) plain) some old)) λ u.
            subst (λ c. Follows older tidy (Left older declared) zero (opened_by newer bits false new_obj new g line index a w) (opened_by older bits tidy old_obj c g line index a w))
            (sym diff.0) (follow_new plain declared new g line index a w l diff.1 diff.2 diff.3 some)

  pub follow_object : (n : ℕ) → FollowObjects older tidy (object_by newer bits false n) (object_by older bits tidy n)
  unfolding object_by
  follow_object zero line declared index w p l k = refuses l
  follow_object (suc n) line declared index w p l k =
      subst₂ (λ c g. Follows older tidy (Left older declared) zero (begun c g) (object_by older bits tidy (suc n) line declared index w p))
      (sym (class_same older newer gr declared k)) (sym (greatest_same older newer gr so declared k))
      (follows_attempt older tidy line p l _ _ _ _ refl λ a.
      follow_chosen (object_by newer bits false n) (object_by older bits tidy n) (follow_object n) (blank_object older newer bits n)
      declared (greatest older declared) line index p a w l refl (object_class newer declared a.id) (object_class older declared a.id)
      (chosen older newer gr declared a.id k) (λ m e. chosen_greatest older declared a.id m e))
    where
      begun : Class → ℕ → Run State
      begun c g =
          attempt line p (header bits w c g p) λ h.
          attempt line p (ensure (not (eqb (object_class newer declared h.id) 0) || (not false && not (eqb g 0))) UnknownId) λ u.
          opened_by newer bits false (object_by newer bits false n) (object_class newer declared h.id) g line index h w

  abbrev pub Ended : Unit {0} → Unit {0} → Type 0
  Ended a b = Unit {0}

  -- the end of a reading, at one place
  follow_end : (p : ℕ) → Follows older tidy Ended zero (attempt 0 p (at_end bits p) done) (attempt 0 p (at_end bits p) done)
  follow_end p = follows_attempt older tidy 0 p (omega arith) done done (at_end bits p) (at_end bits p) refl λ u. ends tt

  follow_top_end : (s t : State) → Left older older.top s t →
      Follows older tidy Ended zero (attempt 0 s.place (at_end bits s.place) done) (attempt 0 t.place (at_end bits t.place) done)
  follow_top_end s t left =
      subst (λ p. Follows older tidy Ended zero (attempt 0 p (at_end bits p) done) (attempt 0 t.place (at_end bits t.place) done))
      (sym left.0) (follow_end t.place)

  follow_top : (w : Window) → Follows older tidy (Left older older.top) zero (object_by newer bits false 16 0 newer.top 0 w 0) (object_by older bits tidy 16 0 older.top 0 w 0)
  follow_top w =
      subst (λ c. Follows older tidy (Left older older.top) zero (object_by newer bits false 16 0 c 0 w 0) (object_by older bits tidy 16 0 older.top 0 w 0))
      (sym gr.top) (follow_object 16 0 older.top 0 w 0 (omega arith) so.top)

  pub follow_reading : Follows older tidy Ended zero (reading_by newer bits false) (reading_by older bits tidy)
  unfolding reading_by
  follow_reading = follows_bind older tidy _ _ follow_top_end (follow_top (record { end = length bits; object = false }))

pub growth_law : GrowthLaw
growth_law older newer bits po pn gr =
    subst₂ (λ new old. Compares older 0 new old) (plain_reading newer bits) (plain_reading older bits)
    (compares older (follow_reading older newer gr (sound older po) (sound newer pn) bits false))

pub copy_law : CopyLaw
copy_law older newer bits po pn gr e =
    subst (λ new. (items new ≡ items (tidy_reading older bits)) × (outcome new ≡ ended)) (plain_reading newer bits)
    (copies older (follow_reading older newer gr (sound older po) (sound newer pn) bits true) e)
