-- What a line uses ranks below the line's class.
use Rattle.std.proofs.Common.{◌≡◌, ℕ, zero, suc, ◌+◌, ◌<◌, ◌≤◌, Bool, true, false, not, ◌&&◌, T, eqb, leb, List, length, sym, refl, ◌∙◌, subst, inl, inr, arith, eq-eqb, leb-true, Option, Some, None}
use Rattle.std.proofs.lemmas.Bool.{true≢false, not-false, and_parts, or_parts, or_right}
use Rattle.std.proofs.lemmas.Float.{T_from_false}
use Rattle.std.proofs.lemmas.Bool.Decides.{leb_tells}
use Rattle.records.specs.Classes.{is_base, is_member}
use Rattle.records.specs.Statements.{statement}
use Rattle.records.specs.declared.records.Class.{Class}
use Rattle.records.specs.declared.statements.Statement.{Statement}
use Rattle.records.specs.declared.statements.Statement.TheVariants.{Read, Assign, MapRead, Use, If, While}
use Rattle.fields.specs.Values.{names_one}
use Rattle.fields.specs.Lines.{read_nodes_fine, use_fine, limits_fine, statement_fine}
use Rattle.table.specs.Description.{Description, entry, no_class, no_extension, class_at, extension_at, line_at, statement_at, node_at, counts_of}
use Rattle.table.proofs.Entries.{entry_none, entry_past}
use Rattle.table.proofs.Scans.{no_some}
use Rattle.owners.specs.Lines.{class_of_line}
use Rattle.owners.specs.Ranks.{used_by}
use Rattle.places.specs.Classes.{later, names_as_later}
use Rattle.places.specs.Uses.{statement_wrong}
use Rattle.checked.specs.Chains.{MakesObject}
use Rattle.checked.specs.Faultless.{Faultless}
use Rattle.checked.specs.Sound.{Below, LineRanked, Ranked, RankedLaw}
use Rattle.checked.proofs.Held.{faultless, and_rest, of_class, of_extension, in_one-holds}
use Rattle.checked.proofs.Nest.{held_in}
use Rattle.checked.proofs.Booleans.{true_of, false_of}
use Rattle.checked.proofs.Numbered.{some_number, in_table, base_there, no_base, extension_parts, operands, known_kind}
use Rattle.checked.proofs.Chained.{made_below}
use Rattle.checked.proofs.Sounds.{all_of, line_is_fine, as_statement, class_is_fine}

-- a record, or what stands for none
anywhere : {A : Type 0} (xs : List A) (none : A) (P : A → Type 0) → P none → ((n : ℕ) → 0 < n → n ≤ length xs → P (entry xs n none)) → (n : ℕ) → P (entry xs n none)
anywhere xs none P z h zero = subst P (sym (entry_none xs none)) z
anywhere xs none P z h (suc n) =
    elim (leb_tells (suc n) (length xs)) [
      | inl t ↦ h (suc n) (omega arith) t.1
      | inr t ↦ subst P (sym (entry_past xs (suc n) none t.1)) z
    ]

and_first : (x y : Bool) → (x && y) ≡ false → y ≡ true → x ≡ false
and_first true y e h = absurd (true≢false (sym h ∙ e))
and_first false y e h = refl

later_there : (m n count : ℕ) → 0 < m → m ≤ count → n ≤ count → (0 < later m n) × (later m n ≤ count)
later_there m n count a b c =
    elim (leb_tells m n) [
      | inl t ↦ rw t.0 (omega (arith, t.1), c)
      | inr t ↦ rw t.0 (a, b)
    ]

module _ (d : Description) (ok : Faultless d) where
  base_is_base : (m : ℕ) → 0 < m → m ≤ length d.classes → is_member (class_at d m) ≡ true → is_base (class_at d (class_at d m).base) ≡ true
  base_is_base m low high member =
      let b = (class_at d m).base in
      let there = later_there m b (length d.classes) low high (base_there (counts_of d) (class_at d m) (class_is_fine d ok m low high).base) in
      let p = ok.class_places (later m b) there.0 there.1 in
      let s = (or_parts _ _ (or_parts _ _ p).0).1 in
      let t = no_some (names_as_later d (later m b)) (length d.classes) s m low high in
      let u = and_first _ _ t (eq-eqb (later m b) (later m b) refl) in
      (and_parts (is_base (class_at d b)) _ (not-false _ (and_rest _ _ u member))).0

  uses_itself : (class : ℕ) → used_by d class class ≡ true
  uses_itself class = rw (eq-eqb class class refl)

  uses_member : (class m : ℕ) → 0 < m → m ≤ length d.classes → is_member (class_at d m) ≡ true → (class_at d m).base ≡ class → used_by d class m ≡ true
  uses_member class m low high member e =
      let b : is_base (class_at d class) ≡ true = subst (λ (k : ℕ). is_base (class_at d k) ≡ true) e (base_is_base m low high member) in
      or_right (eqb m class) _ (rw (b, member, eq-eqb (class_at d m).base class e))

  below_rank : (rank class : ℕ) → 0 < class → class ≤ length d.classes → is_member (class_at d class) ≡ false → ((u : ℕ) → 0 < u → u ≤ length d.classes → used_by d class u ≡ true → (class_at d u).rank < rank) → Below d rank class
  below_rank rank class low high member below =
      record {
        some = low;
        there = high;
        no_member = T_from_false _ member;
        own = below class low high (uses_itself class);
        members = anywhere d.classes no_class (λ (x : Class). T (is_member x) → x.base ≡ class → x.rank < rank)
            (λ t e. absurd t)
            (λ m a b t e. below m a b (uses_member class m a b (true_of _ t) e));
      }

  line_ranked : (rank : ℕ) (s : Option Statement) → statement_fine (counts_of d) s ≡ true → statement_wrong d s ≡ false → ((u : ℕ) → 0 < u → u ≤ length d.classes → MakesObject d s u → (class_at d u).rank < rank) → LineRanked d rank s
  line_ranked rank (Some (Read fields)) e w below =
      let counts = counts_of d in
      let f = (and_parts (read_nodes_fine counts fields) _ e).0 in
      let p = and_parts (names_one fields.width counts.nodes && leb fields.count counts.nodes && leb fields.lowest counts.nodes) _ f in
      let q = and_parts (names_one fields.width counts.nodes && leb fields.count counts.nodes) _ p.0 in
      let r = and_parts (names_one fields.width counts.nodes) _ q.0 in
      (some_number fields.width (length d.nodes) r.0, leb-true fields.count _ r.1, leb-true fields.lowest _ q.1, leb-true fields.highest _ p.1)
  line_ranked rank (Some (Assign name node)) e w below =
      some_number node (length d.nodes) (and_parts (names_one name (length d.names)) _ e).1
  line_ranked rank (Some (MapRead map name)) e w below = tt
  line_ranked rank (Some (Use fields)) e w below =
      let counts = counts_of d in
      let p = (and_parts (use_fine counts fields && limits_fine fields) _ e).0 in
      let q = (and_parts (use_fine counts fields) _ p).0 in
      let r = and_parts (names_one fields.class counts.classes) _ q in
      let n = some_number fields.class (length d.classes) r.0 in
      (leb-true fields.count _ r.1, below_rank rank fields.class n.0 n.1 (or_parts _ _ w).0 below)
  line_ranked rank (Some (If node first second)) e w below = some_number node (length d.nodes) e
  line_ranked rank (Some (While node lines rounds)) e w below =
      some_number node (length d.nodes) (and_parts (names_one node (length d.nodes)) _ e).0
  line_ranked rank None e w below = tt

  ranked_line : (n : ℕ) → 0 < n → n ≤ length d.lines → (c : ℕ) → class_of_line d n ≡ c → LineRanked d (class_at d c).rank (statement (line_at d n))
  ranked_line n low high c e =
      as_statement d ok (LineRanked d (class_at d c).rank) n
      (line_ranked (class_at d c).rank (statement_at d n) (line_is_fine d ok n low high) (ok.line_places n low high)
      (λ u a b h. subst (λ (k : ℕ). (class_at d u).rank < (class_at d k).rank) e (made_below d ok (class_of_line d n) (statement_at d n) (ok.line_ranks n low high) u a b h)))

  class_lines : (c : ℕ) → 0 < c → c ≤ length d.classes → (n : ℕ) → (class_at d c).first ≤ n → n < (class_at d c).first + (class_at d c).number → LineRanked d (class_at d c).rank (statement (line_at d n))
  class_lines c low high n a b =
      let t = in_table (class_at d c).first (class_at d c).number (length d.lines) (class_is_fine d ok c low high).lines n a b in
      ranked_line n t.0 t.1 c (of_class d n (in_one-holds d ok n t.0 t.1) c low high (held_in (class_at d c).first (class_at d c).number n a b))

  extension_lines : (e : ℕ) → 0 < e → e ≤ length d.extensions → (n : ℕ) → (extension_at d e).first ≤ n → n < (extension_at d e).first + (extension_at d e).number → LineRanked d (class_at d (extension_at d e).class).rank (statement (line_at d n))
  extension_lines e low high n a b =
      let p = extension_parts (counts_of d) (extension_at d e) (not-false _ (ok.extension_fields e low high)) in
      let t = in_table (extension_at d e).first (extension_at d e).number (length d.lines) p.2 n a b in
      ranked_line n t.0 t.1 (extension_at d e).class (of_extension d n (in_one-holds d ok n t.0 t.1) e low high (held_in (extension_at d e).first (extension_at d e).number n a b))

  rankeds : Ranked d
  rankeds =
      record {
        ranks = λ c low high. some_number _ 16 (class_is_fine d ok c low high).rank;
        bases = anywhere d.classes no_class (λ (x : Class). T (not (is_member x)) → x.base ≡ 0)
            (λ t. refl)
            (λ c low high t. no_base (counts_of d) (class_at d c) (class_is_fine d ok c low high).base (false_of _ t));
        top =
            let t = some_number d.top (length d.classes) (not-false _ ok.top_there) in
            (t.0, t.1, T_from_false _ ok.top_no_member);
        lines = anywhere d.classes no_class (λ (x : Class). (n : ℕ) → x.first ≤ n → n < x.first + x.number → LineRanked d x.rank (statement (line_at d n)))
            (λ n a b. absurd (omega arith))
            class_lines;
        extensions = all_of _ no_extension d.extensions extension_lines;
        kinds = λ k low high. known_kind (counts_of d) k (node_at d k) (not-false _ (ok.node_fields k low high));
        nodes = λ k low high h.
            let p = operands (counts_of d) k (node_at d k) (not-false _ (ok.node_fields k low high)) h in
            (p.1.0, p.1.1, p.2.0, p.2.1);
      }

pub ranked : RankedLaw
ranked d e = rankeds d (faultless d e)
