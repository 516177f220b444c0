use Rattle.std.proofs.Common.{◌≡◌, ℕ, Bool, true, false, ◌&&◌, eqb, ◌≢◌, List, sym, refl, ap, ◌∙◌, arith}
use Rattle.std.proofs.lemmas.Bool.Decides.{nat_tests}
use Rattle.records.specs.declared.records.Class.{Class}
use Rattle.table.specs.Description.{description}
use Rattle.rules.specs.Lookups.{has_id, first_member}
use Rattle.reading.proofs.Members.{class_plain, class_own, class_member}
use Rattle.reading.proofs.lookups.object_class.Goals as goal
use Rattle.reading.proofs.lookups.object_class.Goals.{else-class-eq0-via-then-class-eq0+else-has_id, else-class-eq0-via-else-class-eq0}

and_false : (a b : Bool) → b ≡ false → (a && b) ≡ false
and_false true b e = e
and_false false b e = refl

not_zero : (n : ℕ) → n ≢ 0 → eqb n 0 ≡ false
not_zero n h = grind (arith, nat_tests)

pub returns-then-not-is_base : goal.returns-then-not-is_base
returns-then-not-is_base c =
    class_plain (description c.args.tables.now) c.args.declared c.args.id c.class-class.result c.class-class.ensures (sym c.is_base.ensures ∙ c.if-not-is_base.true)

pub returns-then-has_id : goal.returns-then-has_id
returns-then-has_id c =
    class_own (description c.args.tables.now) c.args.declared c.args.id c.class-class.result c.class-class.ensures (sym c.is_base.ensures ∙ c.if-not-is_base.false)
    c.if-class-eq0.true (sym c.has_id.ensures ∙ c.if-has_id.true)

pub returns : goal.returns
returns c =
    let none : (eqb c.class-class.result.abstracted 0 && has_id c.args.id c.class-class.result) ≡ false =
    elim c.else-class-eq0.branch [
      | else-class-eq0-via-then-class-eq0+else-has_id w ↦ (let f : has_id c.args.id c.class-class.result ≡ false = sym w.has_id.ensures ∙ w.if-has_id.false in and_false _ _ f)
      | else-class-eq0-via-else-class-eq0 w ↦ (let f : eqb c.class-class.result.abstracted 0 ≡ false = not_zero _ w.if-class-eq0.false in ap (λ b. b && has_id c.args.id c.class-class.result) f)
    ] in
    c.first_member.ensures
    ∙ ap (λ (xs : List Class). first_member xs c.args.declared c.args.id) c.deref.ensures.value
    ∙ class_member (description c.args.tables.now) c.args.declared c.args.id c.class-class.result c.class-class.ensures (sym c.is_base.ensures ∙ c.if-not-is_base.false) none
