use Rattle.std.proofs.Common.{[], ◌∷◌, sym, refl, ap, ◌∙◌, arith}
use Rattle.std.proofs.lemmas.Result.{err_from_is_err_and}
use Rattle.table.specs.Description.{description}
use Rattle.rules.specs.Code.{coded}
use Rattle.rules.specs.Trace.{stop}
use Rattle.objects.specs.declared.frame.Frame.{Frame}
use Rattle.objects.specs.declared.frame.Frame.TheVariants.{Elements}
use Rattle.objects.specs.Frames.{frames}
use Rattle.objects.specs.Ahead.{inner_of, object_of}
use Rattle.objects.proofs.LineRuns.{read_fails, read_run, read_room, some_counted}
use Rattle.objects.proofs.Tries.{tried_ok, tried_err}
use Rattle.objects.proofs.Sames.{same-inner, quietly_at, room_two}
use Rattle.objects.proofs.inside.Inside.read.Goals as goal

pub push_both-requires : goal.push_both-requires
unfolding coded
push_both-requires g c =
    room_two (description c.args.scene.now.tables.now) (Elements c.args.at.line c.args.fields 0 c.in_ok-total.total) _ (frames c.args.self.now.frames)
    (read_room (description c.args.scene.now.tables.now) [] (object_of c.args.scene.now.about) (inner_of c.args.self.now) c.args.scene.now.place c.args.at.line c.args.at.after c.args.fields c.in_ok-total.total c.requires.is c.requires.room)

pub returns : goal.returns
unfolding coded
returns g c =
    let d = description c.args.scene.now.tables.now in
    let i = inner_of c.args.self.now in
    record {
      moved = λ B l.
          quietly_at (same-inner (c.push_both.ensures ∙ ap (λ (f : Frame). Elements c.args.at.line c.args.fields 0 c.in_ok-total.total ∷ f ∷ frames c.args.self.now.frames) c.lines_after.ensures) refl)
          (record {
            before = 0;
            same = read_run d B (object_of c.args.scene.now.about) i c.args.scene.now.place c.args.at.line c.args.at.after c.args.fields c.in_ok-total.total (tried_ok c.args.at.line c.args.scene.now.place c.count.result _ c.in_ok-total.ensures ∙ (c.count.ensures ∙ sym (some_counted d B (object_of c.args.scene.now.about) (inner_of c.args.self.now) c.args.scene.now.place c.args.at.line c.args.at.after c.args.fields c.args.fields.count (omega arith))));
            fit = read_room d B (object_of c.args.scene.now.about) i c.args.scene.now.place c.args.at.line c.args.at.after c.args.fields c.in_ok-total.total c.requires.is c.requires.room;
            near = c.args.scene.now.near;
          });
      bound = λ h. (omega arith, h);
    }

pub returns-in_err-total : goal.returns-in_err-total
unfolding coded
returns-in_err-total g c =
    let d = description c.args.scene.now.tables.now in
    let p = err_from_is_err_and c.from_residual.result c.from_residual.ensures.1 in
    let t = tried_err c.args.at.line c.args.scene.now.place c.count.result _ c.in_err-total.ensures in
    rw (p.1, p.2) (record {
      moved = λ B l.
          record {
            before = 0;
            same = λ obj. read_fails (description c.args.scene.now.tables.now) B (object_of c.args.scene.now.about) (inner_of c.args.self.now) c.args.scene.now.place c.args.at.line c.args.at.after c.args.fields t.0 (t.1 ∙ (c.count.ensures ∙ sym (some_counted d B (object_of c.args.scene.now.about) (inner_of c.args.self.now) c.args.scene.now.place c.args.at.line c.args.at.after c.args.fields c.args.fields.count (omega arith)))) obj ∙ ap stop t.2;
            fit = c.requires.room.fit;
          };
      bound = λ h. tt;
    })
