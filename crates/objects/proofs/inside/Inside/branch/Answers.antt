use Rattle.std.proofs.Common.{◌+◌, ◌-◌, min, [], ◌∷◌, sym, refl, ap, ◌∙◌, arith, to_z-of_z, w64, SFits, rules}
use Rattle.std.proofs.lemmas.Result.{err_from_is_err_and}
use Rattle.table.specs.Description.{description}
use Rattle.rules.specs.Code.{coded}
use Rattle.rules.specs.Trace.{stop}
use Rattle.objects.specs.declared.frame.Frame.{Frame}
use Rattle.objects.specs.declared.frame.Frame.TheVariants.{Lines}
use Rattle.objects.specs.Frames.{frames}
use Rattle.objects.specs.Ahead.{inner_of, object_of}
use Rattle.objects.proofs.LineRuns.{branch_fails, branch_first, branch_second, first_room, second_room}
use Rattle.objects.proofs.Tries.{tried_ok, tried_err}
use Rattle.objects.proofs.Sames.{same-inner, quietly_at, room_two}
use Rattle.objects.proofs.inside.Inside.branch.Goals as goal
use Rattle.objects.proofs.inside.Inside.branch.Goals.{then-is_zero, else-is_zero}

pub push_both-requires : goal.push_both-requires
unfolding coded
push_both-requires g c =
    room_two (description c.args.scene.now.tables.now) _ _ (frames c.args.self.now.frames) (let bits = [] in first_room (description c.args.scene.now.tables.now) bits (object_of c.args.scene.now.about) (inner_of c.args.self.now) c.args.scene.now.place c.args.at.line c.args.at.after c.args.node c.args.first c.args.second c.requires.room)

pub returns : goal.returns
unfolding coded
returns g c =
    let fv : SFits w64 c.in_ok-value.value = search rules in
    let m = c.min-m.ensures in
    let n = c.min-n.ensures ∙ ap (λ x. min c.args.second (c.args.at.after - x)) m in
    let at = c.args.at.line + 1 in
    let fs = frames c.args.self.now.frames in
    let worked = tried_ok c.args.at.line c.args.scene.now.place c.value.result _ c.in_ok-value.ensures ∙ c.value.ensures in
    record {
      moved = λ B l.
          elim c.if-is_zero.branch [
            | then-is_zero w ↦
                quietly_at (same-inner (c.push_both.ensures ∙ ap (λ (f : Frame). f ∷ Lines (at + c.min-m.result + c.min-n.result) (c.args.at.after - c.min-m.result - c.min-n.result) ∷ fs) w.block-is ∙ (λ i. Lines (at + m i) (n i) ∷ Lines (at + m i + n i) (c.args.at.after - m i - n i) ∷ fs)) refl)
                (record {
                  before = 0;
                  same = branch_second (description c.args.scene.now.tables.now) B (object_of c.args.scene.now.about) (inner_of c.args.self.now) c.args.scene.now.place c.args.at.line c.args.at.after c.args.node c.args.first c.args.second c.in_ok-value.value worked (sym (simp to_z-of_z at c.is_zero.ensures) ∙ w.if-is_zero.true);
                  fit = second_room (description c.args.scene.now.tables.now) B (object_of c.args.scene.now.about) (inner_of c.args.self.now) c.args.scene.now.place c.args.at.line c.args.at.after c.args.node c.args.first c.args.second c.requires.room;
                  near = c.args.scene.now.near;
                })
            | else-is_zero w ↦
                quietly_at (same-inner (c.push_both.ensures ∙ ap (λ (f : Frame). f ∷ Lines (at + c.min-m.result + c.min-n.result) (c.args.at.after - c.min-m.result - c.min-n.result) ∷ fs) w.block-is ∙ (λ i. Lines at (m i) ∷ Lines (at + m i + n i) (c.args.at.after - m i - n i) ∷ fs)) refl)
                (record {
                  before = 0;
                  same = branch_first (description c.args.scene.now.tables.now) B (object_of c.args.scene.now.about) (inner_of c.args.self.now) c.args.scene.now.place c.args.at.line c.args.at.after c.args.node c.args.first c.args.second c.in_ok-value.value worked (sym (simp to_z-of_z at c.is_zero.ensures) ∙ w.if-is_zero.false);
                  fit = first_room (description c.args.scene.now.tables.now) B (object_of c.args.scene.now.about) (inner_of c.args.self.now) c.args.scene.now.place c.args.at.line c.args.at.after c.args.node c.args.first c.args.second c.requires.room;
                  near = c.args.scene.now.near;
                })
          ];
      bound = λ h. (omega arith, h);
    }

pub returns-in_err-value : goal.returns-in_err-value
unfolding coded
returns-in_err-value g c =
    let p = err_from_is_err_and c.from_residual.result c.from_residual.ensures.1 in
    let t = tried_err c.args.at.line c.args.scene.now.place c.value.result _ c.in_err-value.ensures in
    rw (p.1, p.2) (record {
      moved = λ B l.
          record {
            before = 0;
            same = λ obj. branch_fails (description c.args.scene.now.tables.now) B (object_of c.args.scene.now.about) (inner_of c.args.self.now) c.args.scene.now.place c.args.at.line c.args.at.after c.args.node c.args.first c.args.second t.0 (t.1 ∙ c.value.ensures) obj ∙ ap stop t.2;
            fit = c.requires.room.fit;
          };
      bound = λ h. tt;
    })
