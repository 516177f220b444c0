use Rattle.std.proofs.Common.{◌∷◌, ap, ◌∙◌, arith, to_z-of_z, w64, SFits, rules}
use Rattle.std.proofs.lemmas.Result.{err_from_is_err_and}
use Rattle.table.specs.Description.{description}
use Rattle.rules.specs.Code.{coded}
use Rattle.rules.specs.Trace.{stop}
use Rattle.objects.specs.declared.frame.Frame.{Frame}
use Rattle.objects.specs.Frames.{frames}
use Rattle.objects.specs.Ahead.{inner_of, object_of}
use Rattle.objects.proofs.LineRuns.{assign_fails, assign_run, assign_room}
use Rattle.objects.proofs.Tries.{tried_ok, tried_err}
use Rattle.objects.proofs.Sames.{same-inner, quietly_at}
use Rattle.objects.proofs.inside.Inside.assign.Goals as goal

pub returns : goal.returns
unfolding coded
returns g c =
    let d = description c.args.scene.now.tables.now in
    let fv : SFits w64 c.in_ok-value.value = search rules in
    record {
      moved = λ B l.
          quietly_at (same-inner (c.push.ensures ∙ ap (λ (f : Frame). f ∷ frames c.args.self.now.frames) c.lines_after.ensures) (simp to_z-of_z at c.write.ensures))
          (record {
            before = 0;
            same = assign_run d B (object_of c.args.scene.now.about) (inner_of c.args.self.now) c.args.scene.now.place c.args.at.line c.args.at.after c.args.name c.args.node c.in_ok-value.value (tried_ok c.args.at.line c.args.scene.now.place c.value.result _ c.in_ok-value.ensures ∙ c.value.ensures);
            fit = assign_room d B (object_of c.args.scene.now.about) (inner_of c.args.self.now) c.args.scene.now.place c.args.at.line c.args.at.after c.args.name c.args.node c.requires.room;
            near = c.args.scene.now.near;
          });
      bound = λ h. (omega arith, h);
    }

pub returns-in_err-value : goal.returns-in_err-value
unfolding coded
returns-in_err-value g c =
    let p = err_from_is_err_and c.from_residual.result c.from_residual.ensures.1 in
    let t = tried_err c.args.at.line c.args.scene.now.place c.value.result _ c.in_err-value.ensures in
    rw (p.1, p.2) (record {
      moved = λ B l.
          record {
            before = 0;
            same = λ obj. assign_fails (description c.args.scene.now.tables.now) B (object_of c.args.scene.now.about) (inner_of c.args.self.now) c.args.scene.now.place c.args.at.line c.args.at.after c.args.name c.args.node t.0 (t.1 ∙ c.value.ensures) obj ∙ ap stop t.2;
            fit = c.requires.room.fit;
          };
      bound = λ h. tt;
    })
