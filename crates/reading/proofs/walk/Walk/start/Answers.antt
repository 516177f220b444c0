use Rattle.std.proofs.Common.{◌≡◌, List, length, sym, refl, ◌∙◌, subst, arith}
use Rattle.table.specs.Description.{description}
use Rattle.rules.specs.Order.{declared_at}
use Rattle.reading.specs.declared.open_object.Using.{Using}
use Rattle.reading.specs.declared.open_object.OpenObject.{OpenObject}
use Rattle.reading.specs.Walks.{Enclosed}
use Rattle.reading.proofs.Enclosing.{walked_from}
use Rattle.reading.proofs.Stepping.{none_open, none_sound, start_run}
use Rattle.reading.proofs.walk.Walk.start.Goals as goal

pub begin-requires : goal.begin-requires
begin-requires g c =
    record {
      sound = none_sound (description c.args.tables.now) _ refl refl;
      readable = c.requires.readable;
      declared = subst (λ (u : Using). declared_at (description c.args.tables.now) u.line ≡ u.class) (sym c.used_by_none.ensures) refl;
    }

pub returns : goal.returns
returns g c =
    let d = description c.args.tables.now in
    let bits = g.S.Source.bits c.args.source.now in
    let begun = rw c.used_by_none.ensures at c.begin.ensures.moved in
    walked_from d bits 0 0 _ c.begin.result c.begin.new.self refl
    (λ B long. (0, start_run d B _ c.args.count (none_open _ refl) (c.requires.whole ∙ long)))
    (λ h. subst (λ (os : List OpenObject). Enclosed (length bits) os c.args.count) (sym (none_open _ refl)) (omega (arith, c.requires.whole)))
    begun
