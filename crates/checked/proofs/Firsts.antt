-- The first fault is the first that the rules name.
use Rattle.std.proofs.Common.{◌≡◌, ℕ, zero, suc, ◌<◌, ◌≤◌, Bool, true, false, ◌&&◌, ◌||◌, eqb, ltb, ◌⊎◌, List, [], ◌∷◌, ◌++◌, length, Some, None, Option, sym, refl, ap, ◌∙◌, inl, inr, arith, ltb-true, eqb-true}
use Rattle.std.proofs.lemmas.Bool.Decides.{leb_tells}
use Rattle.std.proofs.lemmas.Bool.{and_parts, true≢false, false≢true}
use Rattle.records.specs.Causes.{cause_number, table_number}
use Rattle.records.specs.declared.faults.Cause.{Cause}
use Rattle.records.specs.declared.faults.Cause.TheVariants.{Field, Stretch, Depth, Rank, Owner, Place}
use Rattle.records.specs.declared.faults.Table.{Table}
use Rattle.records.specs.declared.faults.Table.TheVariants.{Classes, Names, Extensions, Lines, Nodes, Maps, Rows}
use Rattle.records.specs.declared.faults.Fault.{Fault}
use Rattle.table.specs.Description.{Description}
use Rattle.table.specs.First.{or_else, when, first_upto}
use Rattle.table.specs.Fields.{top_field, class_field, name_field, extension_field, line_field, node_field, map_field}
use Rattle.passes.specs.Naming.{named, of_top}
use Rattle.blocks.specs.Stretches.{line_stretch, line_depth, node_depth}
use Rattle.owners.specs.Ranks.{line_rank}
use Rattle.owners.specs.Names.{line_owner, node_owner}
use Rattle.places.specs.Classes.{class_place}
use Rattle.places.specs.Uses.{top_place, extension_place, line_place}
use Rattle.places.specs.Rows.{row_place}
use Rattle.checked.specs.Check.{first_fault}
use Rattle.checked.specs.Law.{Rule, each, top, rules, Breaks, NoLater, Says}

-- what a search among the records of a rule has found
abbrev pub Finds : (ℕ → Type 0) → Option ℕ → Type 0
Finds names (Some n) = names n × ((m : ℕ) → names m → n ≤ m)
Finds names None = (m : ℕ) → names m → ⊥

finds_more : (p : ℕ → Bool) (count : ℕ) (o : Option ℕ) (b : Bool) → p (suc count) ≡ b → Finds (λ n. (0 < n) × (n ≤ count) × (p n ≡ true)) o → Finds (λ n. (0 < n) × (n ≤ suc count) × (p n ≡ true)) (or_else o (when b (suc count)))
finds_more p count (Some n) b e f = (
  (f.0.0, omega (arith, f.0.1), f.0.2),
  λ m h. elim (leb_tells m count) [ inl t ↦ f.1 m (h.0, t.1, h.2) | inr t ↦ omega (arith, f.0.1, t.1) ],
)
finds_more p count None true e f = (
  (omega arith, omega arith, e),
  λ m h. elim (leb_tells m count) [ inl t ↦ absurd (f m (h.0, t.1, h.2)) | inr t ↦ omega (arith, t.1) ],
)
finds_more p count None false e f =
    λ m h. elim (leb_tells m count) [
      | inl t ↦ f m (h.0, t.1, h.2)
      | inr t ↦ let q : m ≡ suc count = omega (arith, t.1, h.1) in true≢false (sym h.2 ∙ ap p q ∙ e)
    ]

pub finds_each : (p : ℕ → Bool) (count : ℕ) → Finds (λ n. (0 < n) × (n ≤ count) × (p n ≡ true)) (first_upto p count)
unfolding first_upto
finds_each p zero = λ m h. omega (arith, h.0, h.1)
finds_each p (suc count) = finds_more p count (first_upto p count) (p (suc count)) refl (finds_each p count)

finds_top : (b : Bool) → Finds (λ n. (n ≡ 0) × (b ≡ true)) (when b 0)
finds_top true = ((refl, refl), λ m h. omega arith)
finds_top false = λ m h. false≢true h.1

-- one rule
alone : (r : Rule) (o : Option ℕ) → Finds r.names o → Says (r ∷ []) (named r.cause r.table o)
alone r (Some n) f =
    record {
      broken = inl (refl, refl, f.0);
      first = λ cause table m b.
          elim b [ inl h ↦ inr (ap cause_number h.0, inr (ap table_number h.1, f.1 m h.2)) | inr h ↦ absurd h ];
    }
alone r None f = λ cause table m b. elim b [ inl h ↦ f m h.2 | inr h ↦ h ]

-- every rule of these has a cause of a later number, or the same and a later table
abbrev after : Cause → Table → List Rule → Bool
after cause table [] = true
after cause table (s ∷ ss) =
    (ltb (cause_number cause) (cause_number s.cause)
    || eqb (cause_number cause) (cause_number s.cause) && ltb (table_number table) (table_number s.table))
    && after cause table ss

abbrev apart : List Rule → List Rule → Bool
apart [] ss = true
apart (r ∷ rs) ss = after r.cause r.table ss && apart rs ss

left : (rs ss : List Rule) (cause : Cause) (table : Table) (n : ℕ) → Breaks rs cause table n → Breaks (rs ++ ss) cause table n
left [] ss cause table n b = absurd b
left (r ∷ rs) ss cause table n (inl h) = inl h
left (r ∷ rs) ss cause table n (inr h) = inr (left rs ss cause table n h)

right : (rs ss : List Rule) (cause : Cause) (table : Table) (n : ℕ) → Breaks ss cause table n → Breaks (rs ++ ss) cause table n
right [] ss cause table n b = b
right (r ∷ rs) ss cause table n b = inr (right rs ss cause table n b)

either : (rs ss : List Rule) (cause : Cause) (table : Table) (n : ℕ) → Breaks (rs ++ ss) cause table n → Breaks rs cause table n ⊎ Breaks ss cause table n
either [] ss cause table n b = inr b
either (r ∷ rs) ss cause table n (inl h) = inl (inl h)
either (r ∷ rs) ss cause table n (inr h) = elim (either rs ss cause table n h) [ inl k ↦ inl (inr k) | inr k ↦ inr k ]

abbrev Ahead : Cause → Table → Cause → Table → Type 0
Ahead cause table cause' table' =
    (cause_number cause < cause_number cause') ⊎ ((cause_number cause ≡ cause_number cause') × (table_number table < table_number table'))

numbers_ahead : (m t n u : ℕ) → (ltb m n || eqb m n && ltb t u) ≡ true → (m < n) ⊎ ((m ≡ n) × (t < u))
numbers_ahead m t n u e =
    elim (leb_tells (suc m) n) [
      | inl h ↦ inl h.1
      | inr h ↦ let k = and_parts (eqb m n) (ltb t u) (rw h.0 at e) in inr (eqb-true m n k.0, ltb-true t u k.1)
    ]

ahead-all : (cause : Cause) (table : Table) (ss : List Rule) (cause' : Cause) (table' : Table) (n : ℕ) → after cause table ss ≡ true → Breaks ss cause' table' n → Ahead cause table cause' table'
ahead-all cause table [] cause' table' n e b = absurd b
ahead-all cause table (s ∷ ss) cause' table' n e (inl h) =
    rw (sym h.0, sym h.1) (numbers_ahead (cause_number cause) (table_number table) (cause_number s.cause) (table_number s.table) (and_parts _ _ e).0)
ahead-all cause table (s ∷ ss) cause' table' n e (inr h) = ahead-all cause table ss cause' table' n (and_parts _ _ e).1 h

apart-all : (rs ss : List Rule) (cause : Cause) (table : Table) (m : ℕ) (cause' : Cause) (table' : Table) (n : ℕ) → apart rs ss ≡ true → Breaks rs cause table m → Breaks ss cause' table' n → Ahead cause table cause' table'
apart-all [] ss cause table m cause' table' n e a b = absurd a
apart-all (r ∷ rs) ss cause table m cause' table' n e (inl h) b =
    rw (sym h.0, sym h.1) (ahead-all r.cause r.table ss cause' table' n (and_parts _ _ e).0 b)
apart-all (r ∷ rs) ss cause table m cause' table' n e (inr h) b = apart-all rs ss cause table m cause' table' n (and_parts _ _ e).1 h b

no_later : (f : Fault) (cause : Cause) (table : Table) (n : ℕ) → Ahead f.cause f.table cause table → NoLater f cause table n
no_later f cause table n (inl h) = inl h
no_later f cause table n (inr h) = inr (h.0, inl h.1)

-- rules, and later rules
joined : (rs ss : List Rule) (x y : Option Fault) → apart rs ss ≡ true → Says rs x → Says ss y → Says (rs ++ ss) (or_else x y)
joined rs ss (Some f) y e s t =
    record {
      broken = left rs ss _ _ _ s.broken;
      first = λ cause table n b.
          elim (either rs ss cause table n b) [
            | inl h ↦ s.first cause table n h
            | inr h ↦ no_later f cause table n (apart-all rs ss f.cause f.table f.«record» cause table n e s.broken h)
          ];
    }
joined rs ss None (Some g) e s t =
    record {
      broken = right rs ss _ _ _ t.broken;
      first = λ cause table n b.
          elim (either rs ss cause table n b) [ inl h ↦ absurd (s cause table n h) | inr h ↦ t.first cause table n h ];
    }
joined rs ss None None e s t =
    λ cause table n b. elim (either rs ss cause table n b) [ inl h ↦ s cause table n h | inr h ↦ t cause table n h ]

-- the same as a record, whose arguments antt finds
record Told (rs : List Rule) (o : Option Fault) : Type 0 where
  says : Says rs o

each-alone : (cause : Cause) (table : Table) (count : ℕ) (p : ℕ → Bool) → Told (each cause table count p ∷ []) (named cause table (first_upto p count))
each-alone cause table count p = record { says = alone (each cause table count p) (first_upto p count) (finds_each p count) }

top-alone : (cause : Cause) (b : Bool) → Told (top cause b ∷ []) (of_top cause b)
top-alone cause b = record { says = alone (top cause b) (when b 0) (finds_top b) }

then : {rs ss : List Rule} {x y : Option Fault} → Told rs x → Told ss y → apart rs ss ≡ true → Told (rs ++ ss) (or_else x y)
then {rs} {ss} {x} {y} s t e = record { says = joined rs ss x y e s.says t.says }

told : (d : Description) → Told (rules d) (first_fault d)
told d =
    then (then (top-alone Field (top_field d)) (
    then (each-alone Field Classes (length d.classes) (class_field d)) (
    then (each-alone Field Names (length d.names) (name_field d)) (
    then (each-alone Field Extensions (length d.extensions) (extension_field d)) (
    then (each-alone Field Lines (length d.lines) (line_field d)) (
    then (each-alone Field Nodes (length d.nodes) (node_field d)) (
    each-alone Field Maps (length d.maps) (map_field d)) refl) refl) refl) refl) refl) refl) (
    then (each-alone Stretch Lines (length d.lines) (line_stretch d)) (
    then (then (each-alone Depth Lines (length d.lines) (line_depth d)) (
    each-alone Depth Nodes (length d.nodes) (node_depth d)) refl) (
    then (each-alone Rank Lines (length d.lines) (line_rank d)) (
    then (then (each-alone Owner Lines (length d.lines) (line_owner d)) (
    each-alone Owner Nodes (length d.nodes) (node_owner d)) refl) (
    then (top-alone Place (top_place d)) (
    then (each-alone Place Classes (length d.classes) (class_place d)) (
    then (each-alone Place Extensions (length d.extensions) (extension_place d)) (
    then (each-alone Place Lines (length d.lines) (line_place d)) (
    each-alone Place Rows (length d.rows) (row_place d)) refl) refl) refl) refl) refl) refl) refl) refl) refl

pub first_fault_law : (d : Description) → Says (rules d) (first_fault d)
first_fault_law d = (told d).says
