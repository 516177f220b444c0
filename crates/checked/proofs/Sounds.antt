-- What records name is there.
use Rattle.std.proofs.Common.{◌≡◌, ℕ, zero, suc, ◌+◌, ◌<◌, ◌≤◌, Bool, true, false, cond, not, ◌&&◌, T, eqb, ltb, leb, ◌⊎◌, List, [], ◌∷◌, length, sym, refl, ap, ◌∙◌, subst, inl, inr, add_assoc, arith, ltb-true, lt-ltb, ne_eqb, eqb-true, leb-true, Option, Some, None}
use borrow.Author.Tests.{eqb-false}
use Rattle.std.proofs.lemmas.Bool.{true≢false, not-false, and_parts, or_parts, both_ways}
use Rattle.records.specs.Classes.{is_plain, is_base, is_member}
use Rattle.records.specs.Statements.{statement}
use Rattle.records.specs.declared.records.Class.{Class}
use Rattle.records.specs.declared.records.Extension.{Extension}
use Rattle.records.specs.declared.records.Line.{Line}
use Rattle.records.specs.declared.statements.Statement.{Statement}
use Rattle.records.specs.declared.statements.Statement.TheVariants.{Read, Assign, MapRead, Use, If, While}
use Rattle.fields.specs.Values.{names_one, one_to_sixteen}
use Rattle.fields.specs.Lines.{read_nodes_fine, use_fine, limits_fine, statement_fine}
use Rattle.table.specs.Description.{Description, entry, no_class, no_extension, no_line, no_node, no_map, class_at, extension_at, line_at, statement_at, node_at, map_at, counts_of}
use Rattle.table.specs.First.{count_upto}
use Rattle.table.proofs.Entries.{entry_none}
use Rattle.passes.specs.Families.{in_family, expandable}
use Rattle.records.specs.Stretches.{in_stretch}
use Rattle.owners.specs.Names.{carry_wrong, carries_wrong}
use Rattle.checked.specs.Faultless.{Faultless}
use Rattle.checked.specs.Sound.{All, greatest, LineSound, in_classes, in_extensions, Sound, SoundLaw}
use Rattle.checked.proofs.Held.{faultless, and_rest, sum_one, in_one-holds}
use Rattle.checked.proofs.Booleans.{true_of}
use Rattle.checked.proofs.Numbered.{ClassParts, some_number, stretch, class_parts, base_there, extension_parts, name_there, from_zero}

-- record by record
later : {A : Type 0} (P : A → Type 0) (none x : A) (xs : List A) → ((n : ℕ) → 0 < n → n ≤ length (x ∷ xs) → P (entry (x ∷ xs) n none)) → (n : ℕ) → 0 < n → n ≤ length xs → P (entry xs n none)
unfolding entry
later P none x xs h zero a b = absurd (omega arith)
later P none x xs h (suc n) a b = h (suc (suc n)) (omega arith) (omega arith)

pub all_of : {A : Type 0} (P : A → Type 0) (none : A) (xs : List A) → ((n : ℕ) → 0 < n → n ≤ length xs → P (entry xs n none)) → All P xs
unfolding entry
all_of P none [] h = tt
all_of P none (x ∷ xs) h = (h 1 (omega arith) (omega arith), all_of P none xs (later P none x xs h))

-- counting from the front
count_agree : (p q : ℕ → Bool) (n : ℕ) → ((k : ℕ) → 0 < k → k ≤ n → p k ≡ q k) → count_upto p n ≡ count_upto q n
unfolding count_upto
count_agree p q zero h = refl
count_agree p q (suc n) h =
    rw (count_agree p q n (λ k a b. h k a (omega arith)), h (suc n) (omega arith) (omega arith))

count_front : (p : ℕ → Bool) (n : ℕ) → count_upto p (suc n) ≡ cond (p 1) 1 0 + count_upto (λ k. p (suc k)) n
unfolding count_upto
count_front p zero = omega arith
count_front p (suc n) =
    ap (λ (k : ℕ). k + cond (p (suc (suc n))) 1 0) (count_front p n) ∙ add_assoc (cond (p 1) 1 0) (count_upto (λ k. p (suc k)) n) (cond (p (suc (suc n))) 1 0)

-- how many of a list pass
tally : {A : Type 0} → (A → Bool) → List A → ℕ
tally f [] = 0
tally f (x ∷ xs) = cond (f x) 1 0 + tally f xs

same-entry : {A : Type 0} (x none : A) (xs : List A) (k : ℕ) → 0 < k → entry (x ∷ xs) (suc k) none ≡ entry xs k none
unfolding entry
same-entry x none xs zero h = absurd (omega arith)
same-entry x none xs (suc k) h = refl

first_entry : {A : Type 0} (x none : A) (xs : List A) → entry (x ∷ xs) 1 none ≡ x
unfolding entry
first_entry x none xs = refl

tallied : {A : Type 0} (f : A → Bool) (none : A) (xs : List A) → count_upto (λ k. f (entry xs k none)) (length xs) ≡ tally f xs
unfolding tally count_upto
tallied f none [] = refl
tallied f none (x ∷ xs) =
    count_front (λ k. f (entry (x ∷ xs) k none)) (length xs)
    ∙ rw (first_entry x none xs, count_agree (λ k. f (entry (x ∷ xs) (suc k) none)) (λ k. f (entry xs k none)) (length xs) (λ k a b. ap f (same-entry x none xs k a)), tallied f none xs)

classes_tally : (n : ℕ) (cs : List Class) → tally (λ (c : Class). in_stretch c.first c.number n) cs ≡ in_classes cs n
unfolding tally in_classes
classes_tally n [] = refl
classes_tally n (c ∷ cs) = rw (classes_tally n cs)

extensions_tally : (n : ℕ) (es : List Extension) → tally (λ (e : Extension). in_stretch e.first e.number n) es ≡ in_extensions es n
unfolding tally in_extensions
extensions_tally n [] = refl
extensions_tally n (e ∷ es) = rw (extensions_tally n es)

once : (d : Description) → Faultless d → (n : ℕ) → 0 < n → n ≤ length d.lines → in_classes d.classes n + in_extensions d.extensions n ≡ 1
once d ok n low high =
    let s = sum_one d n (in_one-holds d ok n low high) in
    let a = tallied (λ (c : Class). in_stretch c.first c.number n) no_class d.classes ∙ classes_tally n d.classes in
    let b = tallied (λ (e : Extension). in_stretch e.first e.number n) no_extension d.extensions ∙ extensions_tally n d.extensions in
    omega (arith, s, a, b)

-- an expandable class that is no base has a greatest size, its own or its base's
found : (d : Description) (n : ℕ) (p s m b : Bool) (g base : ℕ) → (p ≡ true → m ≡ false) → s ≡ false → (class_at d 0).greatest ≡ 0 → ltb 0 (cond p g (class_at d (cond s n (cond (m && b) base 0))).greatest) ≡ true → 0 < cond m (class_at d base).greatest g
found d n p true m b g base h e z q = absurd (true≢false e)
found d n true false true b g base h e z q = absurd (true≢false (h refl))
found d n true false false b g base h e z q = ltb-true 0 g q
found d n false false true true g base h e z q = ltb-true 0 _ q
found d n false false true false g base h e z q = let l = ltb-true 0 (class_at d 0).greatest q in absurd (omega arith)
found d n false false false b g base h e z q = let l = ltb-true 0 (class_at d 0).greatest q in absurd (omega arith)

none_at_zero : (d : Description) → class_at d 0 ≡ no_class
none_at_zero d = entry_none d.classes no_class

plain_no_member : (c : Class) → is_plain c ≡ true → is_member c ≡ false
plain_no_member c e = let z = eqb-true c.kind 0 e in ne_eqb c.kind 2 (λ q. omega arith)

extended : (d : Description) (n : ℕ) → is_base (class_at d n) ≡ false → expandable d n ≡ true → 0 < greatest d n
extended d n e q =
    found d n (is_plain (class_at d n)) (is_base (class_at d n)) (is_member (class_at d n)) (is_base (class_at d (class_at d n).base)) (class_at d n).greatest (class_at d n).base
    (plain_no_member (class_at d n)) e (ap (λ (c : Class). c.greatest) (none_at_zero d)) q

-- a base of an expandable family
base_expandable : (d : Description) (n : ℕ) → 0 < n → is_base (class_at d n) ≡ true → 0 < greatest d n → (in_family d n && expandable d n) ≡ true
base_expandable d n h e g =
    let k = eqb-true (class_at d n).kind 1 e in
    let p : is_plain (class_at d n) ≡ false = ne_eqb (class_at d n).kind 0 (λ q. omega arith) in
    let m : is_member (class_at d n) ≡ false = ne_eqb (class_at d n).kind 2 (λ q. omega arith) in
    let g' : 0 < (class_at d n).greatest = rw m at g in
    let z = ne_eqb n 0 (λ q. omega arith) in
    let l = lt-ltb 0 (class_at d n).greatest g' in
    rw (e, p, z, l)

-- the names of a carry
carry_step : (b : Bool) (carried receiving names : ℕ) → eqb carried 0 ≡ b → cond b (eqb receiving 0) (names_one carried names && names_one receiving names) ≡ true → (carried ≤ names) × ((carried ≡ 0 → ⊥) ⊎ (receiving ≡ 0))
carry_step true carried receiving names z e = let q = eqb-true carried 0 z in (omega arith, inr (eqb-true receiving 0 e))
carry_step false carried receiving names z e =
    ((some_number carried names (and_parts (names_one carried names) _ e).0).1, inl (eqb-false carried 0 z))

no_carry : (d : Description) (class carried receiving : ℕ) → 0 < class → carry_wrong d class carried ≡ false → (carried ≡ 0 → ⊥) ⊎ (receiving ≡ 0) → T (is_base (class_at d class)) → 0 < greatest d class → receiving ≡ 0
no_carry d class carried receiving low e (inr z) base g = z
no_carry d class carried receiving low e (inl z) base g =
    let w = and_rest (not (eqb carried 0)) _ e (rw (ne_eqb carried 0 z)) in
    absurd (both_ways _ (or_parts _ _ w).1 (base_expandable d class low (true_of _ base) g))

-- what a line names
line_sound : (d : Description) (s : Option Statement) → statement_fine (counts_of d) s ≡ true → carries_wrong d s ≡ false → LineSound d s
line_sound d (Some (Read fields)) e c =
    let counts = counts_of d in
    let f = (and_parts (read_nodes_fine counts fields) _ e).0 in
    let p = and_parts (names_one fields.width counts.nodes && leb fields.count counts.nodes && leb fields.lowest counts.nodes) _ f in
    let q = and_parts (names_one fields.width counts.nodes && leb fields.count counts.nodes) _ p.0 in
    let r = and_parts (names_one fields.width counts.nodes) _ q.0 in
    ((some_number fields.width (length d.nodes) r.0).1, leb-true fields.count _ r.1, leb-true fields.lowest _ q.1, leb-true fields.highest _ p.1)
line_sound d (Some (Assign name node)) e c =
    (some_number node (length d.nodes) (and_parts (names_one name (length d.names)) _ e).1).1
line_sound d (Some (MapRead map name)) e c =
    (some_number map (length d.maps) (and_parts (names_one map (length d.maps)) _ e).0).1
line_sound d (Some (Use fields)) e c =
    let counts = counts_of d in
    let p = and_parts (use_fine counts fields && limits_fine fields) _ e in
    let q = and_parts (use_fine counts fields) _ p.0 in
    let r = and_parts (names_one fields.class counts.classes) _ q.0 in
    let n = some_number fields.class (length d.classes) r.0 in
    let k = carry_step (eqb fields.carried 0) fields.carried fields.receiving (length d.names) refl p.1 in
    (n.1, leb-true fields.count _ r.1, k.0, no_carry d fields.class fields.carried fields.receiving n.0 c k.1)
line_sound d (Some (If node first second)) e c = (some_number node (length d.nodes) e).1
line_sound d (Some (While node lines rounds)) e c =
    (some_number node (length d.nodes) (and_parts (names_one node (length d.nodes)) _ e).0).1
line_sound d None e c = tt

module _ (d : Description) (ok : Faultless d) where
  pub line_is_fine : (n : ℕ) → 0 < n → n ≤ length d.lines → statement_fine (counts_of d) (statement_at d n) ≡ true
  unfolding statement_at
  line_is_fine n low high = (and_parts (statement_fine (counts_of d) (statement (line_at d n))) _ (not-false _ (ok.line_fields n low high))).0

  pub as_statement : (P : Option Statement → Type 0) (n : ℕ) → P (statement_at d n) → P (statement (line_at d n))
  unfolding statement_at
  as_statement P n h = h

  sound_line : (n : ℕ) → 0 < n → n ≤ length d.lines → LineSound d (statement (line_at d n))
  sound_line n low high =
      as_statement (LineSound d) n (line_sound d (statement_at d n) (line_is_fine n low high) (or_parts _ _ (ok.line_owners n low high)).1)

  pub class_is_fine : (c : ℕ) → 0 < c → c ≤ length d.classes → ClassParts (counts_of d) (class_at d c)
  class_is_fine c low high = class_parts (counts_of d) (class_at d c) (not-false _ (ok.class_fields c low high))

  extension_sound : (e : ℕ) → 0 < e → e ≤ length d.extensions → (0 < (extension_at d e).first) × (0 < (extension_at d e).number) × ((extension_at d e).first + (extension_at d e).number ≤ suc (length d.lines)) × (0 < greatest d (extension_at d e).class)
  extension_sound e low high =
      let p = extension_parts (counts_of d) (extension_at d e) (not-false _ (ok.extension_fields e low high)) in
      let s = stretch (extension_at d e).first (extension_at d e).number (length d.lines) p.2 in
      let q = or_parts _ _ (ok.extension_places e low high) in
      (s.1 p.1, p.1, s.0, extended d (extension_at d e).class q.0 (not-false _ q.1))

  map_sound : (m : ℕ) → 0 < m → m ≤ length d.maps → (map_at d m).first + (map_at d m).number ≤ suc (length d.rows)
  map_sound m low high =
      (stretch (map_at d m).first (map_at d m).number (length d.rows) (and_parts (one_to_sixteen (map_at d m).width) _ (not-false _ (ok.map_fields m low high))).1).0

  sounds : Sound d
  sounds =
      record {
        top = (some_number d.top (length d.classes) (not-false _ ok.top_there)).1;
        bases = from_zero (λ c. (class_at d c).base ≤ length d.classes) (length d.classes)
            (rw (none_at_zero d) (omega arith))
            (λ c low high. base_there (counts_of d) (class_at d c) (class_is_fine c low high).base);
        classes = from_zero (λ c. (class_at d c).first + (class_at d c).number ≤ suc (length d.lines)) (length d.classes)
            (rw (none_at_zero d) (omega arith))
            (λ c low high. (stretch (class_at d c).first (class_at d c).number (length d.lines) (class_is_fine c low high).lines).0);
        extensions = all_of _ no_extension d.extensions extension_sound;
        once = once d ok;
        lines = from_zero (λ n. LineSound d (statement (line_at d n))) (length d.lines)
            (subst (λ (l : Line). LineSound d (statement l)) (sym (entry_none d.lines no_line)) tt)
            sound_line;
        nodes = from_zero (λ k. (node_at d k).op ≡ 2 → (node_at d k).a ≤ length d.names) (length d.nodes)
            (λ h. rw (entry_none d.nodes no_node) (omega arith))
            (λ k low high h. name_there (counts_of d) k (node_at d k) (not-false _ (ok.node_fields k low high)) h);
        maps = from_zero (λ m. (map_at d m).first + (map_at d m).number ≤ suc (length d.rows)) (length d.maps)
            (rw (entry_none d.maps no_map) (omega arith))
            map_sound;
      }

pub sound : SoundLaw
sound d e = sounds d (faultless d e)
