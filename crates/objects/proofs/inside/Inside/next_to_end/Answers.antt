use Rattle.std.proofs.Common.{◌≡◌, ◌≤◌, true, leb, ◌⊎◌, sym, refl, ap, ◌∙◌, inl, inr, arith}
use Rattle.table.specs.Description.{description}
use Rattle.rules.specs.declared.faults.Failure.{Failure}
use Rattle.rules.specs.Checks.{fault}
use Rattle.rules.specs.Trace.{stop}
use Rattle.objects.specs.declared.frame.Frame.TheVariants.{Uncounted}
use Rattle.objects.specs.Ahead.{inner_of, object_of}
use Rattle.objects.proofs.FrameRuns.{to_end_stops, to_end_ends, to_end_begins, to_end_room, to_end_uses}
use Rattle.objects.proofs.Sames.{same-inner, begins_at, room_under, fit_under}
use Rattle.rules.specs.Steps.{next_multiple}
use Rattle.objects.proofs.inside.Inside.next_to_end.Goals as goal
use Rattle.objects.proofs.inside.Inside.next_to_end.Goals.{else-index-fields-via-then-index-fields+else-not-at_end, else-index-fields-via-else-index-fields}

pub push-requires : goal.push-requires
push-requires g c = room_under (description c.args.scene.now.tables.now) (Uncounted c.args.line c.args.fields c.args.index) refl c.requires

pub returns-then-not-at_end : goal.returns-then-not-at_end
returns-then-not-at_end g c =
    record {
      moved = λ B l.
          begins_at (same-inner c.push.ensures refl)
          (record {
            before = 0;
            same = to_end_begins (description c.args.scene.now.tables.now) B (object_of c.args.scene.now.about) (inner_of c.args.self.now) c.args.scene.now.place c.args.line c.args.fields c.args.index (omega arith) (sym c.at_end.ensures ∙ c.if-not-at_end.true);
            fit = to_end_room (description c.args.scene.now.tables.now) B (object_of c.args.scene.now.about) (inner_of c.args.self.now) c.args.scene.now.place c.args.line c.args.fields c.args.index c.requires;
            uses = to_end_uses (description c.args.scene.now.tables.now) B (object_of c.args.scene.now.about) (inner_of c.args.self.now) c.args.scene.now.place c.args.line c.args.fields c.args.index c.requires;
          });
      bound = λ h. tt;
    }

pub returns-then-index-fields-2 : goal.returns-then-index-fields-2
returns-then-index-fields-2 g c =
    let ended : (c.args.fields.most ≤ c.args.index) ⊎ (leb c.args.scene.now.about.window.end (next_multiple 8 c.args.scene.now.place) ≡ true) =
    elim c.else-index-fields.branch [
      | else-index-fields-via-then-index-fields+else-not-at_end w ↦ inr (sym w.at_end.ensures ∙ w.if-not-at_end.false)
      | else-index-fields-via-else-index-fields w ↦ inl w.if-index-fields.false
    ] in
    record {
      moved = λ B l.
          record {
            before = 0;
            same = λ obj. to_end_stops (description c.args.scene.now.tables.now) B (object_of c.args.scene.now.about) (inner_of c.args.self.now) c.args.scene.now.place c.args.line c.args.fields c.args.index ended c.if-index-fields-2.true obj ∙ ap stop (sym (c.at.ensures ∙ ap (λ (f : Failure). fault f.cause c.args.line f.node c.args.scene.now.place) c.from.ensures));
            fit = fit_under (description c.args.scene.now.tables.now) _ _ c.requires;
          };
      bound = λ h. tt;
    }

pub returns : goal.returns
returns g c =
    let ended : (c.args.fields.most ≤ c.args.index) ⊎ (leb c.args.scene.now.about.window.end (next_multiple 8 c.args.scene.now.place) ≡ true) =
    elim c.else-index-fields.branch [
      | else-index-fields-via-then-index-fields+else-not-at_end w ↦ inr (sym w.at_end.ensures ∙ w.if-not-at_end.false)
      | else-index-fields-via-else-index-fields w ↦ inl w.if-index-fields.false
    ] in
    record {
      moved = λ B l.
          record {
            before = 0;
            same = to_end_ends (description c.args.scene.now.tables.now) B (object_of c.args.scene.now.about) (inner_of c.args.self.now) c.args.scene.now.place c.args.line c.args.fields c.args.index ended c.if-index-fields-2.false;
            fit = fit_under (description c.args.scene.now.tables.now) _ _ c.requires;
            near = c.args.scene.now.near;
          };
      bound = λ h. (omega arith, h);
    }
