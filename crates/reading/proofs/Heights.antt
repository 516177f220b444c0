-- A description without a fault is one that a reading can go by.
use Rattle.std.proofs.Common.{◌≡◌, ℕ, zero, suc, ◌+◌, ◌-◌, ◌*◌, ◌<◌, ◌≤◌, min, true, not, ◌&&◌, eqb, ltb, leb, ◌⊎◌, List, length, None, sym, refl, ap, ◌∙◌, subst, subst₂, inl, inr, arith, leb-true, Option, Some}
use native.Mathlib.Decide.{dec_le}
use lib.ListN.{get_or-eq_default}
use Rattle.std.proofs.lemmas.Bool.{not-false, and_parts}
use Rattle.std.proofs.lemmas.Bool.Decides.{nat_tests}
use Rattle.records.specs.declared.counts.Counts.{Counts}
use Rattle.records.specs.declared.records.Class.{Class}
use Rattle.records.specs.declared.records.Extension.{Extension}
use Rattle.records.specs.declared.records.Line.{Line}
use Rattle.records.specs.declared.records.Map.{Map}
use Rattle.records.specs.declared.statements.Statement.{Statement}
use Rattle.records.specs.declared.statements.Statement.TheVariants.{Read, Assign, MapRead, Use, If, While}
use Rattle.records.specs.Statements.{statement, written}
use Rattle.fields.specs.Lines.{statement_fine}
use Rattle.fields.specs.Tables.{class_fine, map_fine, base_fine, abstract_fine}
use Rattle.fields.specs.Values.{one_to_sixteen}
use Rattle.table.specs.Description.{Description, entry, class_at, extension_at, map_at, line_at, statement_at, counts_of, no_class, no_extension, no_map, no_line}
use Rattle.table.specs.Limits.{within_limits}
use Rattle.rules.specs.Code.{coded, code}
use Rattle.blocks.specs.Nesting.{has_blocks, in_first, in_second, taken, block_sound, line_sound}
use Rattle.blocks.proofs.Steps.{sound_step}
use Rattle.checked.specs.Check.{first_fault}
use Rattle.checked.specs.Faultless.{Faultless, Nests}
use Rattle.checked.proofs.Held.{faultless}
use Rattle.checked.proofs.Nest.{nests}
use Rattle.checked.proofs.Sounds.{line_is_fine}
use Rattle.objects.specs.Ahead.{height, Readable}
use Rattle.objects.proofs.Codes.{code_line, code_none}

-- a record that is there, or one that is not
entry_none : {A : Type 0} (xs : List A) (none : A) (n : ℕ) → (n ≡ 0) ⊎ (length xs < n) → entry xs n none ≡ none
unfolding entry
entry_none xs none zero h = refl
entry_none xs none (suc n) (inl e) = absurd (omega arith)
entry_none xs none (suc n) (inr e) = get_or-eq_default xs none {n = n} (omega arith)

there : (n count : ℕ) (P : ℕ → Type 0) → ((n ≡ 0) ⊎ (count < n) → P n) → (0 < n → n ≤ count → P n) → P n
there zero count P a b = a (inl refl)
there (suc n) count P a b = elim (dec_le (suc n) count) [ yes h ↦ b (omega arith) h | no h ↦ a (inr (omega arith)) ]

-- as many frames as code inside so many blocks wants
abbrev most : ℕ → ℕ
most e = 2 * (8 - e) + 1

module _ (d : Description) where
  abbrev high : (i n : ℕ) → ℕ
  high i n = height (code d.lines i n)

  at_place : (b i j m n : ℕ) → i ≡ j → m ≡ n → high i m ≤ b → high j n ≤ b
  at_place b i j m n p q = subst₂ (λ x y. high x y ≤ b) p q

  -- a line and its blocks, by the heights of what they hold
  line_high : (s : Option Statement) (i k e : ℕ) → taken s ≤ suc k → high (i + taken s) (suc k - taken s) ≤ most e
      → (has_blocks s ≡ true → (e < 8) × (high (i + 1) (in_first s) ≤ most (e + 1)) × (high (i + 1 + in_first s) (in_second s) ≤ most (e + 1)))
      → height (coded s i k (code d.lines)) ≤ most e
  unfolding coded height
  line_high (Some (Read fields)) i k e t r b =
      let h = at_place (most e) (i + 1) (suc i) (suc k - 1) k (omega arith) (omega arith) r in omega arith
  line_high (Some (Assign name node)) i k e t r b = at_place (most e) (i + 1) (suc i) (suc k - 1) k (omega arith) (omega arith) r
  line_high (Some (MapRead map name)) i k e t r b = at_place (most e) (i + 1) (suc i) (suc k - 1) k (omega arith) (omega arith) r
  line_high (Some (Use fields)) i k e t r b =
      let h = at_place (2 * (8 - e) + 1) (i + 1) (suc i) (suc k - 1) k (omega arith) (omega arith) r in omega arith
  line_high (Some (If node first second)) i k e t r b =
      let q = b refl in
      let m : min first k ≡ first = omega arith in
      let n : min second (k - first) ≡ second = omega arith in
      let x = at_place (most (e + 1)) (i + 1) (suc i) first first (omega arith) refl q.1 in
      let y = at_place (most (e + 1)) (i + 1 + first) (suc i + first) second second (omega arith) refl q.2 in
      let z = at_place (most e) (i + (1 + first + second)) (suc i + first + second) (suc k - (1 + first + second)) (k - first - second) (omega arith) (omega arith) r in
      let l : e < 8 = q.0 in
      rw (m, n) (omega arith)
  line_high (Some (While node lines rounds)) i k e t r b =
      let q = b refl in
      let m : min lines k ≡ lines = omega arith in
      let x = at_place (most (e + 1)) (i + 1) (suc i) lines lines (omega arith) refl q.1 in
      let z = at_place (most e) (i + (1 + lines + 0)) (suc i + lines) (suc k - (1 + lines + 0)) (k - lines) (omega arith) (omega arith) r in
      let l : e < 8 = q.0 in
      rw m (omega arith)
  line_high None i k e t r b = at_place (most e) (i + 1) (suc i) (suc k - 1) k (omega arith) (omega arith) r

  not_deep : (s : Option Statement) (e : ℕ) → not (has_blocks s && leb 8 e) ≡ true → has_blocks s ≡ true → e < 8
  not_deep s e h b = let t : not (leb 8 e) ≡ true = subst (λ x. not (x && leb 8 e) ≡ true) b h in grind (arith, nat_tests)

  one_taken : (s : Option Statement) → taken s ≡ 1 + in_first s + in_second s
  one_taken s = refl

  none_high : (i b : ℕ) → high i 0 ≤ b
  unfolding height
  none_high i b = let z = ap height (code_none d.lines i 0 refl) in omega arith

  as_code : (i k e : ℕ) → height (coded (statement_at d i) i k (code d.lines)) ≤ most e → height (coded (statement (line_at d i)) i k (code d.lines)) ≤ most e
  unfolding statement_at
  as_code i k e h = h

  block_high : (f n i e : ℕ) → n ≤ f → e ≤ 8 → block_sound d i n e ≡ true → high i n ≤ most e
  block_high f zero i e l m s = none_high i (most e)
  block_high zero (suc k) i e l m s = absurd (omega arith)
  block_high (suc f) (suc k) i e l m s =
      let st = statement_at d i in
      let some : 0 < suc k = omega arith in
      let p = and_parts (line_sound d i (suc k) e) _ (sym (sound_step d i (suc k) e some) ∙ s) in
      let q = and_parts (not (ltb (suc k) (taken st)) && not (has_blocks st && leb 8 e) && block_sound d (i + 1) (in_first st) (e + 1)) _ p.0 in
      let r = and_parts (not (ltb (suc k) (taken st)) && not (has_blocks st && leb 8 e)) _ q.0 in
      let v = and_parts (not (ltb (suc k) (taken st))) _ r.0 in
      let t : taken st ≤ suc k = grind (arith, nat_tests, v.0) in
      let u = one_taken st in
      subst (λ (x : ℕ). x ≤ most e) (sym (ap height (code_line d.lines i k)))
      (as_code i k e
      (line_high st i k e t
      (block_high f (suc k - taken st) (i + taken st) e (omega arith) m p.1)
      (λ b.
      let n = not_deep st e v.1 b in (
        n,
        block_high f (in_first st) (i + 1) (e + 1) (omega arith) (omega arith) r.1,
        block_high f (in_second st) (i + 1 + in_first st) (e + 1) (omega arith) (omega arith) q.1,
      ))))

  module _ (nest : Nests d) where
    class_high : (n : ℕ) → high (class_at d n).first (class_at d n).number ≤ 17
    class_high n =
        there n (length d.classes) (λ m. high (class_at d m).first (class_at d m).number ≤ 17)
        (λ z. subst (λ (c : Class). high c.first c.number ≤ 17) (sym (entry_none d.classes no_class n z)) (none_high 0 17))
        (λ a b. block_high (class_at d n).number (class_at d n).number (class_at d n).first 0 (omega arith) (omega arith) (nest.class_nests n a b))

    extension_high : (n : ℕ) → high (extension_at d n).first (extension_at d n).number ≤ 17
    extension_high n =
        there n (length d.extensions) (λ m. high (extension_at d m).first (extension_at d m).number ≤ 17)
        (λ z. subst (λ (c : Extension). high c.first c.number ≤ 17) (sym (entry_none d.extensions no_extension n z)) (none_high 0 17))
        (λ a b. block_high (extension_at d n).number (extension_at d n).number (extension_at d n).first 0 (omega arith) (omega arith) (nest.extension_nests n a b))

-- a name that a fine line writes is there
name_written : (counts : Counts) (s : Option Statement) → statement_fine counts s ≡ true → written s ≤ counts.names
name_written counts (Some (Read fields)) e = grind (arith, nat_tests)
name_written counts (Some (Assign name node)) e = grind (arith, nat_tests)
name_written counts (Some (MapRead map name)) e = grind (arith, nat_tests)
name_written counts (Some (Use fields)) e = grind (arith, nat_tests)
name_written counts (Some (If node first second)) e = omega arith
name_written counts (Some (While node lines rounds)) e = omega arith
name_written counts None e = omega arith

class_narrow : (counts : Counts) (c : Class) → class_fine counts c ≡ true → c.width ≤ 16
class_narrow counts c e =
    let o = and_parts (leb c.kind 2 && base_fine counts c && abstract_fine c && leb c.width 16 && one_to_sixteen c.rank) _ e in
    let q = and_parts (leb c.kind 2 && base_fine counts c && abstract_fine c && leb c.width 16) _ o.0 in
    leb-true c.width 16 (and_parts (leb c.kind 2 && base_fine counts c && abstract_fine c) _ q.0).1

map_narrow : (counts : Counts) (m : Map) → map_fine counts m ≡ true → m.width ≤ 16
map_narrow counts m e =
    let o = and_parts (one_to_sixteen m.width) _ e in
    leb-true m.width 16 (and_parts (not (eqb m.width 0)) _ o.0).1

module _ (d : Description) (ok : Faultless d) where
  id_narrow : (n : ℕ) → (class_at d n).width ≤ 16
  id_narrow n =
      there n (length d.classes) (λ m. (class_at d m).width ≤ 16)
      (λ z. subst (λ (c : Class). c.width ≤ 16) (sym (entry_none d.classes no_class n z)) (omega arith))
      (λ a b. class_narrow (counts_of d) (class_at d n) (not-false _ (ok.class_fields n a b)))

  index_narrow : (n : ℕ) → (map_at d n).width ≤ 16
  index_narrow n =
      there n (length d.maps) (λ m. (map_at d m).width ≤ 16)
      (λ z. subst (λ (c : Map). c.width ≤ 16) (sym (entry_none d.maps no_map n z)) (omega arith))
      (λ a b. map_narrow (counts_of d) (map_at d n) (not-false _ (ok.map_fields n a b)))

  name_there : length d.names ≤ 128 → (n : ℕ) → written (statement_at d n) ≤ 128
  unfolding statement_at
  name_there l n =
      there n (length d.lines) (λ m. written (statement (line_at d m)) ≤ 128)
      (λ z. subst (λ (x : Line). written (statement x) ≤ 128) (sym (entry_none d.lines no_line n z)) (omega arith))
      (λ a b. let h = name_written (counts_of d) (statement_at d n) (line_is_fine d ok n a b) in omega arith)

pub readable : (d : Description) → first_fault d ≡ None → length d.names ≤ 128 → Readable d
readable d e l =
    let ok = faultless d e in
    let nest = nests d e in
    record {
      classes = class_high d nest;
      extensions = extension_high d nest;
      names = name_there d ok l;
      ids = id_narrow d ok;
      maps = index_narrow d ok;
    }

pub names_few : (classes names extensions lines nodes maps rows : ℕ) → within_limits classes names extensions lines nodes maps rows ≡ true → names ≤ 128
names_few classes names extensions lines nodes maps rows e = grind (arith, nat_tests)
