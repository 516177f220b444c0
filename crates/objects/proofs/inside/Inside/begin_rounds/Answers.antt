use Rattle.std.proofs.Common.{◌+◌, ◌-◌, [], ◌∷◌, sym, refl, ap, ◌∙◌, subst}
use Rattle.table.specs.Description.{description}
use Rattle.rules.specs.Code.{coded}
use Rattle.objects.specs.declared.frame.Frame.TheVariants.{Lines, Rounds}
use Rattle.objects.specs.Frames.{frames}
use Rattle.objects.specs.Ahead.{inner_of, object_of}
use Rattle.objects.specs.Ahead.{Fit, Inner, inner_run}
use Rattle.objects.proofs.FrameRuns.{while_run, while_room, moved_from}
use Rattle.objects.proofs.Sames.{same-inner}
use Rattle.objects.proofs.inside.Inside.begin_rounds.Goals as goal

pub round-requires : goal.round-requires
unfolding coded
round-requires g c =
    let m = c.min-m.ensures in
    let fs = frames c.args.self.now.frames in
    let e = c.push.ensures ∙ (λ i. Lines (c.args.at.line + 1 + m i) (c.args.at.after - m i) ∷ fs) in
    subst (Fit (description c.args.scene.now.tables.now)) (sym (λ i. Rounds c.args.at.line c.args.node (m i) c.args.rounds ∷ e i))
    (let bits = [] in while_room (description c.args.scene.now.tables.now) bits (object_of c.args.scene.now.about) (inner_of c.args.self.now) c.args.scene.now.place c.args.at.line c.args.at.after c.args.node c.args.lines c.args.rounds c.requires.room)

pub returns : goal.returns
unfolding coded
returns g c =
    let d = description c.args.scene.now.tables.now in
    let o = object_of c.args.scene.now.about in
    let m = c.min-m.ensures in
    let fs = frames c.args.self.now.frames in
    let e = c.push.ensures ∙ (λ i. Lines (c.args.at.line + 1 + m i) (c.args.at.after - m i) ∷ fs) in
    record {
      moved = λ B l.
          moved_from d B o c.args.scene.now.place c.round.result (inner_of c.round.new.self)
          (λ obj. while_run (description c.args.scene.now.tables.now) B (object_of c.args.scene.now.about) (inner_of c.args.self.now) c.args.scene.now.place c.args.at.line c.args.at.after c.args.node c.args.lines c.args.rounds obj
          ∙ ap (λ (x : Inner). inner_run d B o x c.args.scene.now.place obj) (sym (same-inner (λ i. Rounds c.args.at.line c.args.node (m i) c.args.rounds ∷ e i) refl)))
          (c.round.ensures.moved B l);
      bound = λ h. c.round.ensures.bound h;
    }
