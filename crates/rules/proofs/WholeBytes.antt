-- An expandable family's id takes whole bytes.
use Rattle.std.proofs.Common.{◌≡◌, ◌%◌, ◌<◌, Bool, true, false, cond, not, ◌&&◌, ◌||◌, eqb, refl, subst, inl, inr, arith}
use Rattle.std.proofs.lemmas.Bool.{or_parts, or_cases, not-false, ne_eqb, eqb-true}
use Rattle.records.specs.Classes.{is_base}
use Rattle.records.specs.declared.records.Class.{Class}
use Rattle.table.specs.Description.{class_at}
use Rattle.places.specs.Classes.{ids_fit, plain_wrong, base_wrong, member_wrong, class_wrong}
use Rattle.checked.proofs.Held.{faultless}
use Rattle.rules.specs.Order.{BytesLaw}
use Rattle.table.proofs.Entries.{class_there}

-- the width of a base with a greatest size, where nothing is wrong with it
base_bytes : (c : Class) → base_wrong c ≡ false → 0 < c.greatest → c.width % 8 ≡ 0
base_bytes c e g =
    let sized = (or_parts (eqb c.width 0) _ (or_parts _ (not (ids_fit c c.width)) e).0).1 in
    let only : not (eqb c.width 8 || eqb c.width 16) ≡ false = subst (λ b. not b && not (eqb c.width 8 || eqb c.width 16) ≡ false) (ne_eqb c.greatest 0 (λ z. omega arith)) sized in
    elim (or_cases (eqb c.width 8) (eqb c.width 16) (not-false _ only)) [
      | inl t ↦ (let q = eqb-true c.width 8 t in omega arith)
      | inr t ↦ (let q = eqb-true c.width 16 t in omega arith)
    ]

width_bytes : (c : Class) → class_wrong c ≡ false → c.kind ≡ 1 → 0 < c.greatest → c.width % 8 ≡ 0
width_bytes c e k g =
    base_bytes c (subst (λ k. cond (eqb k 0) (plain_wrong c) (cond (eqb k 1) (base_wrong c) (member_wrong c)) ≡ false) k e) g

pub bytes : BytesLaw
bytes d p c g = go (is_base (class_at d c)) refl
  where
    go : (b : Bool) → is_base (class_at d c) ≡ b → cond b (class_at d c).width 0 % 8 ≡ 0
    go false e = refl
    go true e =
        let k = eqb-true (class_at d c).kind 1 e in
        let own : 0 < (class_at d c).greatest = subst (λ k. 0 < cond (eqb k 2) (class_at d (class_at d c).base).greatest (class_at d c).greatest) k g in
        let t = class_there d c (omega arith) in
        let q = (faultless d p).class_places c t.0 t.1 in
        width_bytes (class_at d c) (or_parts (class_wrong (class_at d c)) _ (or_parts _ _ q).0).0 k own
