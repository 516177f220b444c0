use Rattle.std.proofs.Common.{◌∷◌, refl, ap, ◌∙◌, arith}
use Rattle.std.proofs.lemmas.Result.{err_from_is_err_and}
use Rattle.table.specs.Description.{description}
use Rattle.rules.specs.Code.{coded}
use Rattle.rules.specs.Trace.{stop}
use Rattle.objects.specs.Frames.{frames}
use Rattle.objects.specs.Ahead.{inner_of, object_of}
use Rattle.objects.proofs.LineRuns.{use_fails, use_run, use_to_end, use_room, counted_room, to_end_room}
use Rattle.objects.proofs.Tries.{tried_ok, tried_err}
use Rattle.objects.proofs.Sames.{same-inner, quietly_at}
use Rattle.objects.proofs.inside.Inside.use_line.Goals as goal
use Rattle.objects.proofs.inside.Inside.use_line.Goals.{then-fields-gt0+in_ok-tried, else-fields-gt0}

pub push_both-requires : goal.push_both-requires
unfolding coded
push_both-requires g c =
    let bits = g.S.Source.bits c.args.scene.now.source.now in
    let u = use_room (description c.args.scene.now.tables.now) bits (object_of c.args.scene.now.about) (inner_of c.args.self.now) c.args.scene.now.place c.args.at.line c.args.at.after c.args.fields c.requires.room in
    omega (arith, u.0)

pub returns : goal.returns
unfolding coded
returns g c =
    let fs = frames c.args.self.now.frames in
    record {
      moved = λ B l.
          elim c.if-fields-gt0.branch [
            | then-fields-gt0+in_ok-tried w ↦
                quietly_at (same-inner (c.push_both.ensures ∙ (λ i. w.objects-is i ∷ c.lines_after.ensures i ∷ fs)) refl)
                (record {
                  before = 0;
                  same = use_run (description c.args.scene.now.tables.now) B (object_of c.args.scene.now.about) (inner_of c.args.self.now) c.args.scene.now.place c.args.at.line c.args.at.after c.args.fields w.if-fields-gt0.true w.in_ok-tried.field-0 (tried_ok c.args.at.line c.args.scene.now.place w.count.result _ w.in_ok-tried.ensures ∙ w.count.ensures);
                  fit = counted_room (description c.args.scene.now.tables.now) B (object_of c.args.scene.now.about) (inner_of c.args.self.now) c.args.scene.now.place c.args.at.line c.args.at.after c.args.fields w.in_ok-tried.field-0 c.requires.is c.requires.room;
                  near = c.args.scene.now.near;
                })
            | else-fields-gt0 w ↦
                quietly_at (same-inner (c.push_both.ensures ∙ (λ i. w.objects-is i ∷ c.lines_after.ensures i ∷ fs)) refl)
                (record {
                  before = 0;
                  same = use_to_end (description c.args.scene.now.tables.now) B (object_of c.args.scene.now.about) (inner_of c.args.self.now) c.args.scene.now.place c.args.at.line c.args.at.after c.args.fields (omega (arith, w.if-fields-gt0.false));
                  fit = to_end_room (description c.args.scene.now.tables.now) B (object_of c.args.scene.now.about) (inner_of c.args.self.now) c.args.scene.now.place c.args.at.line c.args.at.after c.args.fields c.requires.is c.requires.room;
                  near = c.args.scene.now.near;
                })
          ];
      bound = λ h. (omega arith, h);
    }

pub returns-in_err-tried : goal.returns-in_err-tried
unfolding coded
returns-in_err-tried g c =
    let p = err_from_is_err_and c.from_residual.result c.from_residual.ensures.1 in
    let t = tried_err c.args.at.line c.args.scene.now.place c.count.result _ c.in_err-tried.ensures in
    rw (p.1, p.2) (record {
      moved = λ B l.
          record {
            before = 0;
            same = λ obj. use_fails (description c.args.scene.now.tables.now) B (object_of c.args.scene.now.about) (inner_of c.args.self.now) c.args.scene.now.place c.args.at.line c.args.at.after c.args.fields (omega arith) t.0 (t.1 ∙ c.count.ensures) obj ∙ ap stop t.2;
            fit = c.requires.room.fit;
          };
      bound = λ h. tt;
    })
