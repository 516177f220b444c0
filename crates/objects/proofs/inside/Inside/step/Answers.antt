use Rattle.std.proofs.Common.{◌≡◌, arith, Bool, List, length, Ok, Result, subst}
use Rattle.table.specs.Description.{description}
use Rattle.rules.specs.declared.faults.ReadingFault.{ReadingFault}
use Rattle.objects.specs.declared.moves.Move.{Move}
use Rattle.objects.specs.declared.moves.Move.TheVariants.{Quiet}
use Rattle.objects.specs.Ahead.{inner_of, object_of, inner_run}
use Rattle.objects.specs.Moves.{StepFrom}
use Rattle.objects.proofs.Alikes.{alike_self, alike_here, less_alike, likewise_long}
use Rattle.objects.proofs.Passing.{fewer_passed, moved_later, ran_more, nothing}
use Rattle.objects.proofs.inside.Inside.step.Goals as goal

pub returns-then-not-stays : goal.returns-then-not-stays
returns-then-not-stays g c =
    let d = description c.args.scene.now.tables.now in
    let o = object_of c.args.scene.now.about in
    let p = c.args.scene.now.place in
    let bits = g.S.Source.bits c.args.scene.now.source.now in
    record {
      moved = λ B l.
          let ran = c.loop-moved.invariant.1 B (likewise_long bits B p c.turn-moved.result l) in
          moved_later d B o (inner_run d B o (inner_of c.loop-moved.self) p) ran.before p c.turn-moved.result (inner_of c.turn-moved.new.self) ran.same (c.turn-moved.ensures.moved B l);
      bound = λ h. c.turn-moved.ensures.bound h;
    }

pub loop-moved-smaller : goal.loop-moved-smaller
loop-moved-smaller g c =
    let d = description c.args.scene.now.tables.now in
    let o = object_of c.args.scene.now.about in
    let p = c.args.scene.now.place in
    let bits = g.S.Source.bits c.args.scene.now.source.now in
    let e : c.turn-moved.result ≡ Ok (Quiet p) = c.stays.ensures c.if-not-stays.false in
    let step = subst (λ (r : Result Move ReadingFault). StepFrom c.args.scene.now (λ B. inner_run d B o (inner_of c.loop-moved.self) p) r c.turn-moved.new.self) e c.turn-moved.ensures in
    let m = step.moved bits alike_self in
    fewer_passed m.before (inner_run d bits o (inner_of c.loop-moved.self) p nothing) (inner_run d bits o (inner_of c.turn-moved.new.self) p nothing) (m.same nothing)

pub loop-moved-preserved : goal.loop-moved-preserved
loop-moved-preserved g c =
    let d = description c.args.scene.now.tables.now in
    let o = object_of c.args.scene.now.about in
    let p = c.args.scene.now.place in
    let bits = g.S.Source.bits c.args.scene.now.source.now in
    let e : c.turn-moved.result ≡ Ok (Quiet p) = c.stays.ensures c.if-not-stays.false in
    let step = subst (λ (r : Result Move ReadingFault). StepFrom c.args.scene.now (λ B. inner_run d B o (inner_of c.loop-moved.self) p) r c.turn-moved.new.self) e c.turn-moved.ensures in (
      (step.moved bits alike_self).fit,
      λ (B : List Bool) (long : length bits ≡ length B).
          let m = step.moved B (less_alike (omega arith) (omega arith) (alike_here {p = p} long)) in
          ran_more m.before (inner_run d B o (inner_of c.turn-moved.new.self) p) (c.loop-moved.invariant.1 B long) m.same,
    )
