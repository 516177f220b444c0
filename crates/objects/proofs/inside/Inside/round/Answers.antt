use Rattle.std.proofs.Common.{◌-◌, [], ◌∷◌, sym, refl, ap, ◌∙◌, arith, to_z-of_z, w64, SFits, rules}
use Rattle.std.proofs.lemmas.Result.{err_from_is_err_and}
use Rattle.table.specs.Description.{description}
use Rattle.rules.specs.declared.faults.Failure.{Failure}
use Rattle.rules.specs.Checks.{fault}
use Rattle.rules.specs.Trace.{stop}
use Rattle.objects.specs.declared.frame.Frame.{Frame}
use Rattle.objects.specs.declared.frame.Frame.TheVariants.{Rounds}
use Rattle.objects.specs.Frames.{frames}
use Rattle.objects.specs.Ahead.{inner_of, object_of}
use Rattle.objects.proofs.FrameRuns.{round_fails, round_ends, round_stops, round_goes, round_room}
use Rattle.objects.proofs.Tries.{tried_ok, tried_err}
use Rattle.objects.proofs.Sames.{same-inner, quietly_at, room_two, fit_under}
use Rattle.objects.proofs.inside.Inside.round.Goals as goal

pub returns-then-is_zero : goal.returns-then-is_zero
returns-then-is_zero g c =
    let fv : SFits w64 c.in_ok-value.value = search rules in
    record {
      moved = λ B l.
          record {
            before = 0;
            same = round_ends (description c.args.scene.now.tables.now) B (object_of c.args.scene.now.about) (inner_of c.args.self.now) c.args.scene.now.place c.args.line c.args.node c.args.count c.args.left c.in_ok-value.value (tried_ok c.args.line c.args.scene.now.place c.value.result _ c.in_ok-value.ensures ∙ c.value.ensures) (sym (simp to_z-of_z at c.is_zero.ensures) ∙ c.if-is_zero.true);
            fit = fit_under (description c.args.scene.now.tables.now) _ _ c.requires;
            near = c.args.scene.now.near;
          };
      bound = λ h. (omega arith, h);
    }

pub returns-then-left-eq0 : goal.returns-then-left-eq0
returns-then-left-eq0 g c =
    let fv : SFits w64 c.in_ok-value.value = search rules in
    record {
      moved = λ B l.
          record {
            before = 0;
            same = λ obj. round_stops (description c.args.scene.now.tables.now) B (object_of c.args.scene.now.about) (inner_of c.args.self.now) c.args.scene.now.place c.args.line c.args.node c.args.count c.args.left (omega arith) c.in_ok-value.value (tried_ok c.args.line c.args.scene.now.place c.value.result _ c.in_ok-value.ensures ∙ c.value.ensures) (sym (simp to_z-of_z at c.is_zero.ensures) ∙ c.if-is_zero.false) obj ∙ ap stop (sym (c.at.ensures ∙ ap (λ (f : Failure). fault f.cause c.args.line f.node c.args.scene.now.place) c.from.ensures));
            fit = fit_under (description c.args.scene.now.tables.now) _ _ c.requires;
          };
      bound = λ h. tt;
    }

pub push_both-requires : goal.push_both-requires
push_both-requires g c =
    room_two (description c.args.scene.now.tables.now) _ _ (frames c.args.self.now.frames) (let bits = [] in round_room (description c.args.scene.now.tables.now) bits (object_of c.args.scene.now.about) (inner_of c.args.self.now) c.args.scene.now.place c.args.line c.args.node c.args.count c.args.left c.requires)

pub returns : goal.returns
returns g c =
    let fv : SFits w64 c.in_ok-value.value = search rules in
    record {
      moved = λ B l.
          quietly_at (same-inner (c.push_both.ensures ∙ ap (λ (f : Frame). f ∷ Rounds c.args.line c.args.node c.args.count (c.args.left - 1) ∷ frames c.args.self.now.frames) c.lines_after.ensures) refl)
          (record {
            before = 0;
            same = round_goes (description c.args.scene.now.tables.now) B (object_of c.args.scene.now.about) (inner_of c.args.self.now) c.args.scene.now.place c.args.line c.args.node c.args.count c.args.left (omega arith) c.in_ok-value.value (tried_ok c.args.line c.args.scene.now.place c.value.result _ c.in_ok-value.ensures ∙ c.value.ensures) (sym (simp to_z-of_z at c.is_zero.ensures) ∙ c.if-is_zero.false);
            fit = round_room (description c.args.scene.now.tables.now) B (object_of c.args.scene.now.about) (inner_of c.args.self.now) c.args.scene.now.place c.args.line c.args.node c.args.count c.args.left c.requires;
            near = c.args.scene.now.near;
          });
      bound = λ h. (omega arith, h);
    }

pub returns-in_err-value : goal.returns-in_err-value
returns-in_err-value g c =
    let p = err_from_is_err_and c.from_residual.result c.from_residual.ensures.1 in
    let t = tried_err c.args.line c.args.scene.now.place c.value.result _ c.in_err-value.ensures in
    rw (p.1, p.2) (record {
      moved = λ B l.
          record {
            before = 0;
            same = λ obj. round_fails (description c.args.scene.now.tables.now) B (object_of c.args.scene.now.about) (inner_of c.args.self.now) c.args.scene.now.place c.args.line c.args.node c.args.count c.args.left t.0 (t.1 ∙ c.value.ensures) obj ∙ ap stop t.2;
            fit = fit_under (description c.args.scene.now.tables.now) _ _ c.requires;
          };
      bound = λ h. tt;
    })
