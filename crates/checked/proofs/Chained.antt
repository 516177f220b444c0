-- Ranks fall along a chain of uses, so it has at most 16 classes.
use Rattle.std.proofs.Common.{◌≡◌, ℕ, ◌<◌, ◌≤◌, false, List, [], ◌∷◌, length, subst, arith, leb-false, Option, Some, None}
use Rattle.std.proofs.lemmas.Bool.{not-false}
use Rattle.records.specs.declared.statements.Statement.{Statement}
use Rattle.records.specs.declared.statements.Statement.TheVariants.{Read, Assign, MapRead, Use, If, While}
use Rattle.table.specs.Description.{Description, class_at, statement_at, counts_of}
use Rattle.owners.specs.Lines.{class_of_line}
use Rattle.owners.specs.Ranks.{not_below, uses_wrong}
use Rattle.checked.specs.Chains.{MakesObject, Uses, Chain, ChainsLaw}
use Rattle.checked.specs.Faultless.{Faultless}
use Rattle.table.proofs.Scans.{no_some}
use Rattle.checked.proofs.Held.{faultless, and_rest}
use Rattle.checked.proofs.Numbered.{some_number, class_parts}

module _ (d : Description) (ok : Faultless d) where
  pub made_below : (user : ℕ) (s : Option Statement) → uses_wrong d user s ≡ false → (u : ℕ) → 0 < u → u ≤ length d.classes → MakesObject d s u → (class_at d u).rank < (class_at d user).rank
  made_below user (Some (Read fields)) e u a b h = absurd h
  made_below user (Some (Assign name node)) e u a b h = absurd h
  made_below user (Some (MapRead map name)) e u a b h = absurd h
  made_below user (Some (Use fields)) e u a b h =
      leb-false _ _ (and_rest _ _ (no_some (not_below d user fields.class) (length d.classes) e u a b) h)
  made_below user (Some (If node first second)) e u a b h = absurd h
  made_below user (Some (While node lines rounds)) e u a b h = absurd h
  made_below user None e u a b h = absurd h

  used_below : (c u : ℕ) → Uses d c u → 0 < u → u ≤ length d.classes → (class_at d u).rank < (class_at d c).rank
  used_below c u h a b =
      subst (λ (k : ℕ). (class_at d u).rank < (class_at d k).rank) h.3
      (made_below (class_of_line d h.0) (statement_at d h.0) (ok.line_ranks h.0 h.1 h.2) u a b h.4)

  rank_of : (c : ℕ) → 0 < c → c ≤ length d.classes → (0 < (class_at d c).rank) × ((class_at d c).rank ≤ 16)
  rank_of c low high = some_number _ 16 (class_parts (counts_of d) (class_at d c) (not-false _ (ok.class_fields c low high))).rank

  there : (c : ℕ) (us : List ℕ) → Chain d c us → (0 < c) × (c ≤ length d.classes)
  there c [] h = h
  there c (u ∷ us) h = (h.0, h.1)

  shorter_than_rank : (c : ℕ) (us : List ℕ) → Chain d c us → length (c ∷ us) ≤ (class_at d c).rank
  shorter_than_rank c [] h = (rank_of c h.0 h.1).0
  shorter_than_rank c (u ∷ us) h =
      let t = there u us h.3 in
      let b = used_below c u h.2 t.0 t.1 in
      let i = shorter_than_rank u us h.3 in
      omega arith

  within : (c : ℕ) (us : List ℕ) → Chain d c us → length (c ∷ us) ≤ 16
  within c us h =
      let t = there c us h in
      let r = (rank_of c t.0 t.1).1 in
      let i = shorter_than_rank c us h in
      omega arith

pub chained : ChainsLaw
chained d e c us h = within d (faultless d e) c us h
