-- Every fault of a reading has a number of the rules.
use Rattle.std.proofs.Common.{◌≡◌, ℕ, zero, suc, ◌+◌, ◌<◌, ◌≤◌, Bool, true, false, cond, not, ◌&&◌, eqb, ltb, leb, ◌⊎◌, List, [], ◌∷◌, length, get_or, ℤ, Ok, Err, sym, refl, ap, subst, inl, inr, arith, lit≤, eqb→eq, lt→ltb, T_not, Some, None, Option}
use Rattle.std.proofs.lemmas.Bool.{cond_both}
use Rattle.rules.proofs.Ranges.{Good, good}
use Rattle.table.proofs.Entries.{class_there}
use Rattle.rules.proofs.Booleans.{pick_is}
use Rattle.rules.specs.declared.faults.ReadingFault.{ReadingFault}
use Rattle.rules.specs.declared.faults.Failure.{Failure}
use Rattle.rules.specs.declared.items.Item.{Item}
use Rattle.records.specs.declared.records.Class.{Class}
use Rattle.records.specs.declared.records.Extension.{Extension}
use Rattle.rules.specs.Trace.{Run, out, pass, stop, done, bind, outcome, Outcome, ended, refused}
use Rattle.rules.specs.Checks.{Check, then, ensure, attempt}
use Rattle.records.specs.Classes.{is_base}
use Rattle.table.specs.Description.{Description, entry, no_class, class_at, line_at, node_at, row_at}
use Rattle.rules.specs.Lookups.{has_id, greatest, first_member, object_class, find_row}
use Rattle.rules.specs.declared.faults.ReadingCause.{ReadingCause}
use Rattle.rules.specs.declared.faults.ReadingCause.TheVariants.{SourceEnds, ObjectEnds, SkippedBits, OutsideBounds, UnknownId, Size, PastWindow, TooFew, BitsLeft, WidthOrCount, TooManyRounds}
use Rattle.rules.specs.declared.terms.Term.{Term}
use Rattle.rules.specs.declared.terms.Term.TheVariants.{Constant, Named, OwnSize, Apply}
use Rattle.rules.specs.Terms.{term}
use Rattle.rules.specs.Values.{Names, Worked, is_zero, of_node, term_value, before, value_within, value}
use Rattle.bits.specs.Bits.{number}
use Rattle.rules.specs.declared.steps.Header.{Header}
use Rattle.rules.specs.declared.steps.Window.{Window}
use Rattle.rules.specs.Steps.{enough, aligned, taken, natural, bounded, element, mapped, size_bytes, sized, header, at_end, next_multiple}
use Rattle.records.specs.declared.statements.Statement.{Statement}
use Rattle.records.specs.declared.statements.Statement.TheVariants.{Read, Assign, MapRead, Use, If, While}
use Rattle.records.specs.Statements.{statement}
use Rattle.records.specs.declared.statements.UseLine.{UseLine}
use Rattle.records.specs.declared.statements.ReadLine.{ReadLine}
use Rattle.rules.specs.Code.{Code, finish, read, assign, map_read, use_of, branch, while, code}
use Rattle.rules.specs.Reading.{State, Object, Objects, valued, counted, elements, objects, enough_objects, objects_to_end, used, rounds, run, stretch, extensions, content}
use Rattle.rules.specs.Tidy.{opened_by, object_by, reading_by}
use Rattle.checked.specs.Sound.{All}
use Rattle.rules.specs.Ranks.{Known, FaultsKnown}
use Rattle.checked.specs.Sound.{Below, LineRanked, Ranked}
use Rattle.rules.proofs.NodeFacts.{TermRanked, term_ranked}
use Rattle.rules.proofs.Same.{Each, code_each}
use Rattle.checked.proofs.Ranks.{ranked}
use Rattle.rules.proofs.Plain.{plain_reading}
use Rattle.rules.proofs.Chosen.{first_fact, member_base, member_kind}

-- a step, or a run, that fails only with numbers of the rules
data Fine {A : Type 0} : Check A → Type 0 where
  well : {a : A} → Fine (Ok a)
  known : {f : Failure} → Known f.cause → Fine (Err f)

data Goes {A : Type 0} : Run A → Type 0 where
  gives : {i : Item} {t : Run A} → Goes t → Goes (out i t)
  passes : {t : Run A} → Goes t → Goes (pass t)
  stops : {f : ReadingFault} → Known f.cause → Goes (stop f)
  ends : {a : A} → Goes (done a)

goes_bind : {A B : Type 0} {t : Run A} (k : A → Run B) → ((a : A) → Goes (k a)) → Goes t → Goes (bind t k)
unfolding bind
goes_bind k h (gives t) = gives (goes_bind k h t)
goes_bind k h (passes t) = passes (goes_bind k h t)
goes_bind k h (stops f) = stops f
goes_bind k h (ends {a}) = h a

goes_attempt : {A B : Type 0} (line p : ℕ) {m : Check A} (k : A → Run B) → Fine m → ((a : A) → Goes (k a)) → Goes (attempt line p m k)
unfolding attempt
goes_attempt line p k (well {a}) h = h a
goes_attempt line p k (known f) h = stops f

fine_then : {A B : Type 0} {m : Check A} (k : A → Check B) → Fine m → ((a : A) → Fine (k a)) → Fine (then m k)
unfolding then
fine_then k (well {a}) h = h a
fine_then k (known f) h = known f

fine_ensure : (b : Bool) (n : ReadingCause) → Known n → Fine (ensure b n)
unfolding ensure
fine_ensure true n k = well
fine_ensure false n k = known k

fine_of_node : (k : ℕ) (r : Worked) → Good r → Fine (of_node k r)
fine_of_node k (Ok v) h = well
fine_of_node k (Err n) h = known h

fine_before : (k : ℕ) (f : ℕ → Check ℤ) (j : ℕ) → j < k → Fine (f j) → Fine (before k f j)
fine_before k f j h x = pick_is Fine (ltb j k) _ _ (λ t. x) (λ t. absurd (T_not (ltb j k) t (lt→ltb j k h)))

fine_term : (k : ℕ) (t : Option Term) (names : Names) (size : ℕ) (f : ℕ → Check ℤ) → TermRanked k t → ((j : ℕ) → 0 < j → j < k → Fine (f j)) →
    Fine (term_value k t names size f)
unfolding term_value
fine_term k (Some (Constant v)) names size f ok h = well
fine_term k (Some (Named n)) names size f ok h = well
fine_term k (Some OwnSize) names size f ok h = well
fine_term k (Some (Apply operator left right)) names size f ok h =
    fine_then _ (h left ok.0 ok.1) λ x. fine_then _ (h right ok.2 ok.3) λ y. fine_of_node k _ (good operator x y)
fine_term k None names size f ok h = absurd ok

-- the steps
fine_enough : (w : Window) (p n : ℕ) → Fine (enough w p n)
fine_enough w p n = fine_ensure _ _ (cond_both w.object ObjectEnds SourceEnds Known (λ e. (lit≤ tt, lit≤ tt)) (λ e. (lit≤ tt, lit≤ tt)))

fine_aligned : (bits : List Bool) (w : Window) (to p : ℕ) → Fine (aligned bits w to p)
unfolding aligned
fine_aligned bits w to p =
    fine_then _ (fine_enough w p _) λ u. fine_then _ (fine_ensure _ SkippedBits (lit≤ tt, lit≤ tt)) λ u. well

fine_taken : (bits : List Bool) (w : Window) (n p : ℕ) → Fine (taken bits w n p)
unfolding taken
fine_taken bits w n p = fine_then _ (fine_enough w p n) λ u. well

fine_natural : (m : ℕ) (v : Check ℤ) → Fine v → Fine (natural m v)
unfolding natural
fine_natural m v h = fine_then _ h λ z. fine_then _ (fine_ensure _ WidthOrCount (lit≤ tt, lit≤ tt)) λ u. well

fine_bounded : (n : ℕ) (bound : Check ℤ) (kept : ℤ → Bool) → (0 < n → Fine bound) → Fine (bounded n bound kept)
fine_bounded zero bound kept h = well
fine_bounded (suc n) bound kept h = fine_then _ (h (omega arith)) λ b. fine_ensure _ OutsideBounds (lit≤ tt, lit≤ tt)

fine_element : (bits : List Bool) (w : Window) (l : ReadLine) (width low high : Check ℤ) (p : ℕ) → Fine width → (0 < l.lowest → Fine low) → (0 < l.highest → Fine high) →
    Fine (element bits w l width low high p)
unfolding element
fine_element bits w l width low high p a b c =
    fine_then _ (fine_aligned bits w l.alignment p) λ q.
    fine_then _ (fine_natural 32 width a) λ n.
    fine_then _ (fine_taken bits w n q) λ raw.
    fine_then _ (fine_bounded l.lowest low _ b) λ u.
    fine_then _ (fine_bounded l.highest high _ c) λ u. well

fine_mapped : (bits : List Bool) (w : Window) (width : ℕ) (outputs : ℕ → Check ℤ) (p : ℕ) → ((i : ℕ) → Fine (outputs i)) → Fine (mapped bits w width outputs p)
unfolding mapped
fine_mapped bits w width outputs p h = fine_then _ (fine_taken bits w width p) λ i. fine_then _ (h i) λ v. well

fine_row : (d : Description) (at n index : ℕ) → Fine (find_row d at n index)
unfolding find_row
fine_row d at zero index = known (lit≤ tt, lit≤ tt)
fine_row d at (suc n) index = pick_is Fine (eqb (row_at d at).index index) _ _ (λ t. well) (λ t. fine_row d (suc at) n index)

fine_bytes : (bits : List Bool) (w : Window) (n high p : ℕ) → Fine (size_bytes bits w n high p)
unfolding size_bytes
fine_bytes bits w zero high p = known (lit≤ tt, lit≤ tt)
fine_bytes bits w (suc n) high p =
    fine_then _ (fine_taken bits w 8 p) λ byte. pick_is Fine (ltb byte 128) _ _ (λ t. well) (λ t. fine_bytes bits w n _ _)

fine_sized : (bits : List Bool) (w : Window) (g p : ℕ) → Fine (sized bits w g p)
unfolding sized
fine_sized bits w zero p = well
fine_sized bits w (suc g) p =
    fine_then _ (fine_bytes bits w 4 0 p) λ s.
    fine_then _ (fine_ensure _ Size (lit≤ tt, lit≤ tt)) λ u. fine_then _ (fine_ensure _ PastWindow (lit≤ tt, lit≤ tt)) λ u. well

fine_header : (bits : List Bool) (w : Window) (c : Class) (g p : ℕ) → Fine (header bits w c g p)
unfolding header
fine_header bits w c g p =
    fine_then _ (fine_aligned bits w _ p) λ q. fine_then _ (fine_taken bits w _ q) λ id. fine_then _ (fine_sized bits w g _) λ s. well

fine_end : (bits : List Bool) (p : ℕ) → Fine (at_end bits p)
unfolding at_end
fine_end bits p = fine_ensure _ BitsLeft (lit≤ tt, lit≤ tt)

module _ (d : Description) (ra : Ranked d) (bits : List Bool) where
  fine_within : (size : ℕ) (names : Names) (f k : ℕ) → 0 < k → k ≤ length d.nodes → k < f → Fine (value_within f d.nodes size names k)
  unfolding value_within
  fine_within size names zero k x y z = let q : ⊥ = omega arith in absurd q
  fine_within size names (suc f) k x y z =
      fine_term k (term (node_at d k)) names size _ (term_ranked k (node_at d k) (ra.kinds k x y) (ra.nodes k x y))
      (λ j u v. fine_before k (value_within f d.nodes size names) j v (fine_within size names f j u (omega arith) (omega arith)))

  fine_value : (o : Object) (s : State) (k : ℕ) → 0 < k → k ≤ length d.nodes → Fine (valued d bits o s k)
  unfolding value
  fine_value o s k x y = fine_within o.size s.names (suc k) k x y (omega arith)

  fine_counted : (o : Object) (s : State) (k : ℕ) → k ≤ length d.nodes → Fine (counted d bits o s k)
  fine_counted o s zero y = well
  fine_counted o s (suc k) y = fine_natural 65535 _ (fine_value o s (suc k) (omega arith) y)

  -- objects of a line of a class of a rank
  abbrev GoObjects : ℕ → Objects → Type 0
  GoObjects rank obj = (line u index : ℕ) (w : Window) (p : ℕ) → Below d rank u → Goes (obj line u index w p)

  goes_elements : (o : Object) (line : ℕ) (l : ReadLine) (rank : ℕ) → LineRanked d rank (Some (Read l)) → (n index : ℕ) (s : State) → Goes (elements d bits o line l n index s)
  unfolding elements
  goes_elements o line l rank ok zero index s = passes ends
  goes_elements o line l rank ok (suc n) index s =
      goes_attempt _ _ _
      (fine_element bits o.window l _ _ _ s.place (fine_value o s l.width ok.0.0 ok.0.1) (λ h. fine_value o s l.lowest h ok.2) (λ h. fine_value o s l.highest h ok.3))
      λ g. gives (goes_elements o line l rank ok n (suc index) _)

  module _ (obj : Objects) (rank : ℕ) (go : GoObjects rank obj) (o : Object) where
    goes_objects : (line : ℕ) (l : UseLine) → LineRanked d rank (Some (Use l)) → (n index : ℕ) (s : State) → Goes (objects d bits obj o line l n index s)
    unfolding objects
    goes_objects line l ok zero index s = passes ends
    goes_objects line l ok (suc n) index s =
        goes_bind _ (λ t. goes_objects line l ok n (suc index) _) (go line l.class index o.window s.place ok.1)

    goes_enough : (line : ℕ) (l : UseLine) (index : ℕ) (s : State) → Goes (enough_objects d bits line l index s)
    goes_enough line l index s = goes_attempt _ _ _ (fine_ensure _ TooFew (lit≤ tt, lit≤ tt)) λ u. passes ends

    goes_to_end : (line : ℕ) (l : UseLine) → LineRanked d rank (Some (Use l)) → (n index : ℕ) (s : State) → Goes (objects_to_end d bits obj o line l n index s)
    unfolding objects_to_end
    goes_to_end line l ok zero index s = goes_enough line l index s
    goes_to_end line l ok (suc n) index s =
        pick_is Goes (leb o.window.end (next_multiple 8 s.place)) _ _ (λ t. goes_enough line l index s) λ t.
        goes_bind _ (λ t. goes_to_end line l ok n (suc index) _) (go line l.class index o.window s.place ok.1)

    goes_used : (line : ℕ) (l : UseLine) → LineRanked d rank (Some (Use l)) → (k : ℕ) → k ≤ length d.nodes → (s : State) → Goes (used d bits obj o line l k s)
    unfolding used
    goes_used line l ok zero y s = passes (goes_to_end line l ok l.most 0 s)
    goes_used line l ok (suc k) y s =
        goes_attempt _ _ _ (fine_natural 65535 _ (fine_value o s (suc k) (omega arith) y)) λ n. passes (goes_objects line l ok n 0 s)

    goes_rounds : (test : State → Check ℤ) (body : State → Run State) (line : ℕ) → ((s : State) → Fine (test s)) → ((s : State) → Goes (body s)) →
        (n : ℕ) (s : State) → Goes (rounds d bits test body line n s)
    unfolding rounds
    goes_rounds test body line te bo zero s =
        goes_attempt _ _ _ (te s) λ v. goes_attempt _ _ _ (fine_ensure _ TooManyRounds (lit≤ tt, lit≤ tt)) λ u. passes ends
    goes_rounds test body line te bo (suc n) s =
        goes_attempt _ _ _ (te s) λ v. passes (pick_is Goes (is_zero v) _ _ (λ t. ends) (λ t. goes_bind _ (goes_rounds test body line te bo n) (bo s)))

    abbrev Fit : Option Statement → ℕ → Type 0
    Fit st line = LineRanked d rank st

    goes_run : (c : Code) → Each Fit c → (s : State) → Goes (run d bits obj o c s)
    unfolding run
    goes_run finish e s = passes ends
    goes_run (read line l c) e s =
        goes_attempt _ _ _ (fine_counted o s l.count e.0.1) λ n. passes (goes_bind _ (goes_run c e.1) (goes_elements o line l rank e.0 n 0 s))
    goes_run (assign line name node c) e s = goes_attempt _ _ _ (fine_value o s node e.0.0 e.0.1) λ v. passes (goes_run c e.1 _)
    goes_run (map_read line m name c) e s =
        goes_attempt _ _ _ (fine_mapped bits o.window _ _ s.place (λ i. fine_row d _ _ i)) λ g. gives (goes_run c e.1 _)
    goes_run (use_of line l c) e s = goes_bind _ (goes_run c e.1) (goes_used line l e.0 l.count e.0.0 s)
    goes_run (branch line node a b c) e s =
        goes_attempt _ _ _ (fine_value o s node e.0.2.0 e.0.2.1) λ v.
        passes (goes_bind _ (goes_run c e.3) (pick_is Goes (is_zero v) _ _ (λ t. goes_run b e.2 s) (λ t. goes_run a e.1 s)))
    goes_run (while line node most b c) e s =
        goes_bind _ (goes_run c e.2)
        (goes_rounds _ _ line (λ t. fine_value o t node e.0.1.0 e.0.1.1) (goes_run b e.1) most s)

    goes_stretch : (first number : ℕ) → ((n : ℕ) → first ≤ n → n < first + number → LineRanked d rank (statement (line_at d n))) → (s : State) →
        Goes (stretch d bits obj o first number s)
    unfolding code
    goes_stretch first number h s =
        goes_run _ (code_each Fit d.lines first (first + number) h number first number (omega arith) (omega arith)) s

  below_more : (r q u : ℕ) → r ≤ q → Below d r u → Below d q u
  below_more r q u h b =
      record {
        some = b.some;
        there = b.there;
        no_member = b.no_member;
        own = omega arith;
        members = λ m t e. let z = b.members m t e in omega arith;
      }

  ranked_more : (r q : ℕ) → r ≤ q → (st : Option Statement) → LineRanked d r st → LineRanked d q st
  ranked_more r q h (Some (Read fields)) x = x
  ranked_more r q h (Some (Assign name node)) x = x
  ranked_more r q h (Some (MapRead map name)) x = x
  ranked_more r q h (Some (Use fields)) x = (x.0, below_more r q fields.class h x.1)
  ranked_more r q h (Some (If node first second)) x = x
  ranked_more r q h (Some (While node lines rounds)) x = x
  ranked_more r q h None x = x

  -- a class whose objects use only what is below a rank, with its base
  abbrev Within : ℕ → ℕ → Type 0
  Within rank c = ((class_at d c).rank ≤ rank) × (((class_at d c).base ≡ 0) ⊎ ((class_at d (class_at d c).base).rank ≤ rank))

  no_lines : (first number : ℕ) → number ≡ 0 → (rank n : ℕ) → first ≤ n → n < first + number → LineRanked d rank (statement (line_at d n))
  no_lines first number e rank n x y = let q : ⊥ = omega arith in absurd q

  base_number : (c : ℕ) → c ≡ 0 → (class_at d c).number ≡ 0
  unfolding entry
  base_number c e = ap (λ c. (class_at d c).number) e

  module _ (rank : ℕ) (obj : Objects) (go : GoObjects rank obj) where
    goes_extensions : (o : Object) → (class_at d o.class).rank ≤ rank → (es : List Extension) →
        All (λ (e : Extension).
        (n : ℕ) → e.first ≤ n → n < e.first + e.number → LineRanked d (class_at d e.class).rank (statement (line_at d n))) es →
        (s : State) → Goes (extensions d bits obj o es s)
    unfolding extensions
    goes_extensions o h [] a s = ends
    goes_extensions o h (e ∷ es) a s =
        pick_is Goes (eqb e.class o.class) _ _
        (λ t. goes_attempt _ _ _ (fine_aligned bits o.window 8 s.place) λ q.
        passes (pick_is Goes (eqb q o.window.end) _ _ (λ u. ends) λ u.
        goes_bind _ (goes_extensions o h es a.1)
        (goes_stretch obj rank go o e.first e.number
        (λ n x y. ranked_more _ rank (subst (λ c. (class_at d c).rank ≤ rank) (sym (eqb→eq e.class o.class t)) h) _ (a.0 n x y)) _)))
        (λ t. passes (goes_extensions o h es a.1 s))

    goes_content : (o : Object) (c : ℕ) → o.class ≡ c → (0 < c → Within rank c) → (s : State) → Goes (content d bits obj o c s)
    unfolding content
    goes_content o zero e w s = ends
    goes_content o (suc c) e w s =
        goes_bind _
        (λ t. goes_bind _
        (λ u. goes_extensions o (subst (λ x. (class_at d x).rank ≤ rank) (sym e) (w (omega arith)).0) d.extensions ra.extensions u)
        (goes_stretch obj rank go o _ _ (λ n x y. ranked_more _ rank (w (omega arith)).0 _ (ra.lines (suc c) n x y)) t))
        (goes_stretch obj rank go o _ _ (based (w (omega arith)).1) s)
      where
        based : ((class_at d (suc c)).base ≡ 0) ⊎ ((class_at d (class_at d (suc c)).base).rank ≤ rank) →
            (n : ℕ) → (class_at d (class_at d (suc c)).base).first ≤ n → n < (class_at d (class_at d (suc c)).base).first + (class_at d (class_at d (suc c)).base).number →
            LineRanked d rank (statement (line_at d n))
        based (inl z) n x y = no_lines _ _ (base_number _ z) rank n x y
        based (inr z) n x y = ranked_more _ rank z _ (ra.lines (class_at d (suc c)).base n x y)

  -- an object's class is within the rank that its declared class is below
  chosen_within : (rank u id : ℕ) → Below d (suc rank) u → 0 < object_class d u id → Within rank (object_class d u id)
  unfolding object_class entry
  chosen_within rank u id b h = go (is_base (class_at d u)) (eqb (class_at d u).abstracted 0 && has_id id (class_at d u)) h
    where
      own : Within rank u
      own = (omega (arith, b.own), inl (ra.bases u b.no_member))

      found : (r : ℕ) → first_member d.classes u id ≡ r → 0 < r → Within rank r
      found zero e z = let q : ⊥ = omega arith in absurd q
      found (suc r) e z =
          let c : Class = get_or d.classes r no_class in
          let m = first_fact d.classes u id r e in
          let q : c.base ≡ u = member_base u id c m in
          (omega (arith, b.members (suc r) (member_kind u id c m) q), inr (subst (λ x. (class_at d x).rank ≤ rank) (sym q) (omega (arith, b.own))))

      go : (t v : Bool) → 0 < cond (not t) u (cond v u (first_member d.classes u id)) → Within rank (cond (not t) u (cond v u (first_member d.classes u id)))
      go false v z = own
      go true true z = own
      go true false z = found (first_member d.classes u id) refl z

  goes_opened : (rank : ℕ) (obj : Objects) → GoObjects rank obj → (c g line index : ℕ) (h : Header) (w : Window) → (0 < c → Within rank c) →
      Goes (opened_by d bits false obj c g line index h w)
  unfolding opened_by
  goes_opened rank obj go c g line index h w x = gives (goes_bind _ (λ s. goes_attempt _ _ _ well λ u. gives ends) (goes_content rank obj go _ c refl x _))

  goes_object : (n : ℕ) → GoObjects (suc n) (object_by d bits false n)
  unfolding object_by
  goes_object zero line u index w p b = let z = ra.ranks u b.some b.there in let q : ⊥ = omega (arith, b.own) in absurd q
  goes_object (suc n) line u index w p b =
      goes_attempt _ _ _ (fine_header bits w (class_at d u) (greatest d u) p) λ h. goes_attempt _ _ _ (fine_ensure _ UnknownId (lit≤ tt, lit≤ tt)) λ x.
      goes_opened (suc n) (object_by d bits false n) (goes_object n) _ _ line index h w (chosen_within (suc n) u h.id b)

  top_below : Below d 17 d.top
  top_below =
      record {
        some = ra.top.0;
        there = ra.top.1;
        no_member = ra.top.2;
        own = let z = ra.ranks d.top ra.top.0 ra.top.1 in omega arith;
        members = λ m t e. let k = eqb→eq (class_at d m).kind 2 t in let y = class_there d m (omega arith) in let z = ra.ranks m y.0 y.1 in omega arith;
      }

  goes_reading : Goes (reading_by d bits false)
  unfolding reading_by
  goes_reading = goes_bind _ (λ t. goes_attempt _ _ _ (fine_end bits t.place) λ u. ends) (goes_object 16 0 d.top 0 _ 0 top_below)

cause_of : Outcome → ReadingCause
cause_of ended = SourceEnds
cause_of (refused f) = f.cause

goes_known : {A : Type 0} {t : Run A} → Goes t → Known (cause_of (outcome t))
unfolding outcome cause_of
goes_known (gives t) = goes_known t
goes_known (passes t) = goes_known t
goes_known (stops k) = k
goes_known ends = (lit≤ tt, lit≤ tt)

pub faults_known : FaultsKnown
unfolding cause_of
faults_known d bits p f e =
    subst (λ o. Known (cause_of o)) e (subst (λ t. Known (cause_of (outcome t))) (plain_reading d bits) (goes_known (goes_reading d (ranked d p) bits)))
