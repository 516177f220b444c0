-- Of a run of hidden lines nothing is left, and it writes only new names where it stands in an older object.
use Rattle.std.proofs.Common.{◌≡◌, ℕ, zero, suc, ◌<◌, ◌≤◌, Bool, false, cond, T, eqb, leb, ◌⊎◌, List, [], ◌∷◌, length, ℤ, ap, ◌∙◌, inl, inr, arith, Option, Some}
use Rattle.std.proofs.lemmas.Bool.{ne_eqb}
use Rattle.checked.proofs.Sounds.{all_of}
use Rattle.records.specs.Statements.{written}
use Rattle.records.specs.declared.records.Extension.{Extension}
use Rattle.rules.specs.Trace.{Run}
use Rattle.rules.specs.Checks.{Check}
use Rattle.table.specs.Description.{Description, no_extension}
use Rattle.rules.specs.Values.{Names, is_zero}
use Rattle.rules.specs.declared.steps.Header.{Header}
use Rattle.rules.specs.declared.steps.Window.{Window}
use Rattle.rules.specs.Steps.{next_multiple}
use Rattle.records.specs.declared.statements.Statement.{Statement}
use Rattle.records.specs.declared.statements.Statement.TheVariants.{Assign, MapRead, If, While, Read, Use}
use Rattle.records.specs.declared.statements.UseLine.{UseLine}
use Rattle.records.specs.declared.statements.ReadLine.{ReadLine}
use Rattle.rules.specs.Code.{Code, finish, read, assign, map_read, use_of, branch, while, code}
use Rattle.rules.specs.Reading.{State, Object, Objects, write, moved, after_read, after_object, elements, objects, enough_objects, objects_to_end, used, rounds, run, extensions, content, all_zero}
use Rattle.rules.specs.Tidy.{opened_by, object_by}
use Rattle.checked.specs.Sound.{All}
use Rattle.rules.proofs.Follow.{Hidden, Blank, ends, refuses, hidden, quiet, blank_bind, blank_attempt, blank_pick}
use Rattle.rules.proofs.Struck.{hide_value, hide_open, open_deeper, hide_close, value_deeper, close_deeper}
use Rattle.rules.proofs.Same.{Each, each_all}

module _ (older : Description) where
  -- a line that is hidden at a depth: below 0 by its number, and then it writes no older name
  abbrev pub HiddenLine : ℕ → Option Statement → ℕ → Type 0
  HiddenLine k st line = (0 < k) ⊎ ((length older.lines < line) × ((written st ≡ 0) ⊎ (length older.names < written st)))

  -- the older names are as they were
  abbrev pub Kept : ℕ → Names → State → Type 0
  Kept k names s = (0 < k) ⊎ ((m : ℕ) → m ≤ length older.names → s.names m ≡ names m)

  pub line_hidden : (k : ℕ) (st : Option Statement) (line : ℕ) → HiddenLine k st line → Hidden older k line
  line_hidden k st line (inl h) = inl h
  line_hidden k st line (inr h) = inr h.0

  write_new : (x : ℕ) (v : ℤ) (names was : Names) → (x ≡ 0) ⊎ (length older.names < x) →
      ((m : ℕ) → m ≤ length older.names → names m ≡ was m) → (m : ℕ) → m ≤ length older.names → write x v names m ≡ was m
  write_new zero v names was n h m l = h m l
  write_new (suc x) v names was (inl e) h m l = let y : ⊥ = omega arith in absurd y
  write_new (suc x) v names was (inr n) h m l = ap (λ b. cond b v (names m)) (ne_eqb m (suc x) (λ e. omega arith)) ∙ h m l

  write_kept : (k : ℕ) (st : Option Statement) (line : ℕ) → HiddenLine k st line → (was : Names) (s : State) → Kept k was s → (p : ℕ) (v : ℤ) →
      Kept k was (record { place = p; names = write (written st) v s.names })
  write_kept k st line (inl h) was s kept p v = inl h
  write_kept k st line (inr h) was s (inl z) p v = inl z
  write_kept k st line (inr h) was s (inr e) p v = inr (write_new (written st) v s.names was h.1 e)

  module _ (d : Description) (bits : List Bool) (k : ℕ) where
    -- objects of hidden lines
    abbrev pub BlankObjects : Objects → Type 0
    BlankObjects obj = (line declared index : ℕ) (w : Window) (p : ℕ) → Hidden older k line → Blank older (λ (t : State). Unit {0}) k k (obj line declared index w p)

    blank_elements : (o : Object) (line : ℕ) (l : ReadLine) → HiddenLine k (Some (Read l)) line → (was : Names) (n index : ℕ) (s : State) → Kept k was s →
        Blank older (Kept k was) k k (elements d bits o line l n index s)
    unfolding elements
    blank_elements o line l hid was zero index s kept = quiet (ends kept)
    blank_elements o line l hid was (suc n) index s kept =
        blank_attempt older k line s.place (line_hidden k (Some (Read l)) line hid) _ _ λ g.
        hidden (hide_value older k line (line_hidden k (Some (Read l)) line hid) o index g) (value_deeper older k o line index g)
        (blank_elements o line l hid was n (suc index) (after_read l.name g s) (write_kept k (Some (Read l)) line hid was s kept g.after g.value))

    module _ (obj : Objects) (blank : BlankObjects obj) (o : Object) where
      blank_objects : (line : ℕ) (l : UseLine) → HiddenLine k (Some (Use l)) line → (was : Names) (n index : ℕ) (s : State) → Kept k was s →
          Blank older (Kept k was) k k (objects d bits obj o line l n index s)
      unfolding objects
      blank_objects line l hid was zero index s kept = quiet (ends kept)
      blank_objects line l hid was (suc n) index s kept =
          blank_bind older _
          (λ t u. blank_objects line l hid was n (suc index) (after_object l t s) (write_kept k (Some (Use l)) line hid was s kept t.place (t.names l.carried)))
          (blank line l.class index o.window s.place (line_hidden k (Some (Use l)) line hid))

      blank_enough : (line : ℕ) (l : UseLine) → HiddenLine k (Some (Use l)) line → (was : Names) (index : ℕ) (s : State) → Kept k was s →
          Blank older (Kept k was) k k (enough_objects d bits line l index s)
      blank_enough line l hid was index s kept =
          blank_attempt older k line s.place (line_hidden k (Some (Use l)) line hid) _ _ λ u. quiet (ends kept)

      blank_objects_to_end : (line : ℕ) (l : UseLine) → HiddenLine k (Some (Use l)) line → (was : Names) (n index : ℕ) (s : State) → Kept k was s →
          Blank older (Kept k was) k k (objects_to_end d bits obj o line l n index s)
      unfolding objects_to_end
      blank_objects_to_end line l hid was zero index s kept = blank_enough line l hid was index s kept
      blank_objects_to_end line l hid was (suc n) index s kept =
          blank_pick older (leb o.window.end (next_multiple 8 s.place)) _ _ (λ t. blank_enough line l hid was index s kept) λ t.
          blank_bind older _
          (λ t u. blank_objects_to_end line l hid was n (suc index) (after_object l t s) (write_kept k (Some (Use l)) line hid was s kept t.place (t.names l.carried)))
          (blank line l.class index o.window s.place (line_hidden k (Some (Use l)) line hid))

      blank_used : (line : ℕ) (l : UseLine) → HiddenLine k (Some (Use l)) line → (was : Names) (n : ℕ) (s : State) → Kept k was s →
          Blank older (Kept k was) k k (used d bits obj o line l n s)
      unfolding used
      blank_used line l hid was zero s kept = quiet (blank_objects_to_end line l hid was l.most 0 s kept)
      blank_used line l hid was (suc n) s kept =
          blank_attempt older k line s.place (line_hidden k (Some (Use l)) line hid) _ _ λ m. quiet (blank_objects line l hid was m 0 s kept)

      blank_rounds : (test : State → Check ℤ) (body : State → Run State) (line : ℕ) → Hidden older k line → (was : Names) →
          ((s : State) → Kept k was s → Blank older (Kept k was) k k (body s)) → (n : ℕ) (s : State) → Kept k was s →
          Blank older (Kept k was) k k (rounds d bits test body line n s)
      unfolding rounds
      blank_rounds test body line h was b zero s kept =
          blank_attempt older k line s.place h _ _ λ v. blank_attempt older k line s.place h _ _ λ u. quiet (ends kept)
      blank_rounds test body line h was b (suc n) s kept =
          blank_attempt older k line s.place h _ _ λ v.
          quiet (blank_pick older (is_zero v) _ _ (λ t. ends kept) (λ t. blank_bind older _ (λ t kept'. blank_rounds test body line h was b n t kept') (b s kept)))

      pub blank_run : (was : Names) (c : Code) → Each (HiddenLine k) c → (s : State) → Kept k was s → Blank older (Kept k was) k k (run d bits obj o c s)
      unfolding run
      blank_run was finish e s kept = quiet (ends kept)
      blank_run was (read line l c) e s kept =
          blank_attempt older k line s.place (line_hidden k (Some (Read l)) line e.0) _ _ λ n.
          quiet (blank_bind older _ (λ t kept'. blank_run was c e.1 t kept') (blank_elements o line l e.0 was n 0 s kept))
      blank_run was (assign line name node c) e s kept =
          blank_attempt older k line s.place (line_hidden k (Some (Assign name node)) line e.0) _ _ λ v.
          quiet (blank_run was c e.1 _ (write_kept k (Some (Assign name node)) line e.0 was s kept s.place v))
      blank_run was (map_read line m name c) e s kept =
          blank_attempt older k line s.place (line_hidden k (Some (MapRead m name)) line e.0) _ _ λ g.
          hidden (hide_value older k line (line_hidden k (Some (MapRead m name)) line e.0) o 0 g) (value_deeper older k o line 0 g)
          (blank_run was c e.1 (after_read name g s) (write_kept k (Some (MapRead m name)) line e.0 was s kept g.after g.value))
      blank_run was (use_of line l c) e s kept =
          blank_bind older _ (λ t kept'. blank_run was c e.1 t kept') (blank_used line l e.0 was l.count s kept)
      blank_run was (branch line node a b c) e s kept =
          blank_attempt older k line s.place (line_hidden k (Some (If node 0 0)) line e.0.2) _ _ λ v.
          quiet (blank_bind older _ (λ t kept'. blank_run was c e.3 t kept')
          (blank_pick older (is_zero v) _ _ (λ t. blank_run was b e.2 s kept) (λ t. blank_run was a e.1 s kept)))
      blank_run was (while line node most b c) e s kept =
          blank_bind older _ (λ t kept'. blank_run was c e.2 t kept')
          (blank_rounds _ _ line (line_hidden k (Some (While node 0 most)) line e.0.1) was (λ t kept'. blank_run was b e.1 t kept') most s kept)

  -- an extension of which nothing is left at a depth; if it is the object's own, the object is expandable
  abbrev pub HiddenExtension : Description → ℕ → Object → (greatest : ℕ) → Extension → Type 0
  HiddenExtension d k o g e =
      Hidden older k e.first × Each (HiddenLine k) (code d.lines e.first e.number) × (T (eqb e.class o.class) → (0 < k) ⊎ (0 < g))

  -- the older names are as they were, and so is the place unless the object is expandable
  abbrev pub Held : ℕ → Names → (greatest place : ℕ) → State → Type 0
  Held k was g p s = Kept k was s × (((0 < k) ⊎ (0 < g)) ⊎ (s.place ≡ p))

  pub blank_extensions : (d : Description) (bits : List Bool) (k : ℕ) (obj : Objects) → BlankObjects d bits k obj → (o : Object) (was : Names) (g p : ℕ) (es : List Extension) →
      All (HiddenExtension d k o g) es → (s : State) → Held k was g p s → Blank older (Held k was g p) k k (extensions d bits obj o es s)
  unfolding extensions
  blank_extensions d bits k obj blank o was g p [] a s held = ends held
  blank_extensions d bits k obj blank o was g p (e ∷ es) a s held =
      blank_pick older (eqb e.class o.class) _ _
      (λ t. blank_attempt older k e.first s.place a.0.0 _ _ λ q.
      quiet (blank_pick older (eqb q o.window.end) _ _
      (λ u. ends (held.0, inl (a.0.2 t)))
      (λ u. blank_bind older _ (λ r kept. blank_extensions d bits k obj blank o was g p es a.1 r (kept, inl (a.0.2 t)))
      (blank_run d bits k obj blank o was (code d.lines e.first e.number) a.0.1 (moved q s) held.0))))
      (λ t. quiet (blank_extensions d bits k obj blank o was g p es a.1 s held))

  -- inside what is struck nothing is left
  pub blank_content : (d : Description) (bits : List Bool) (k : ℕ) → 0 < k → (obj : Objects) → BlankObjects d bits k obj → (o : Object) (c : ℕ) (s : State) →
      Blank older (Held k all_zero 0 0) k k (content d bits obj o c s)
  unfolding content
  blank_content d bits k h obj blank o zero s = ends (inl h, inl (inl h))
  blank_content d bits k h obj blank o (suc c) s =
      blank_bind older _
      (λ t kept. blank_bind older _
      (λ u kept'. blank_extensions d bits k obj blank o all_zero 0 0 d.extensions
      (all_of _ no_extension d.extensions (λ n x y. (inl h, each_all (HiddenLine k) (λ st line. inl h) _, λ t. inl h))) u (inl h, inl (inl h)))
      (blank_run d bits k obj blank o all_zero _ (each_all (HiddenLine k) (λ st line. inl h) _) t (inl h)))
      (blank_run d bits k obj blank o all_zero _ (each_all (HiddenLine k) (λ st line. inl h) _) s (inl h))

  hidden_inside : (k line : ℕ) → Hidden older k line → Hidden older (suc k) line
  hidden_inside k line (inl h) = inl (omega arith)
  hidden_inside k line (inr h) = inr h

  pub blank_opened : (d : Description) (bits : List Bool) (k : ℕ) (obj : Objects) → BlankObjects d bits (suc k) obj → (c g line index : ℕ) (h : Header) (w : Window) →
      Hidden older k line → Blank older (λ (t : State). Unit {0}) k k (opened_by d bits false obj c g line index h w)
  unfolding opened_by
  blank_opened d bits k obj blank c g line index h w l =
      hidden (hide_open older k line l c index h) (open_deeper older k line l c index h)
      (blank_bind older _
      (λ s u. blank_attempt older (suc k) line s.place (hidden_inside k line l) _ _ λ v.
      hidden (hide_close older k line l c index _) (close_deeper older k c line index _) (ends tt))
      (blank_content d bits (suc k) (omega arith) obj blank _ c _))

  pub blank_object : (d : Description) (bits : List Bool) (n k : ℕ) → BlankObjects d bits k (object_by d bits false n)
  unfolding object_by
  blank_object d bits zero k line declared index w p l = refuses l
  blank_object d bits (suc n) k line declared index w p l =
      blank_attempt older k line p l _ _ λ h. blank_attempt older k line p l _ _ λ u.
      blank_opened d bits k (object_by d bits false n) (blank_object d bits n (suc k)) _ _ line index h w l
