use Rattle.std.proofs.Common.{◌+◌, ◌∷◌, sym, refl, ap, ◌∙◌, arith, to_z-of_z, w64, SFits, rules}
use Rattle.std.proofs.lemmas.Result.{err_from_is_err_and, IfOk-at_ok}
use Rattle.table.specs.Description.{description, map_at}
use Rattle.rules.specs.Code.{coded}
use Rattle.rules.specs.declared.items.Item.{Item}
use Rattle.rules.specs.declared.steps.Got.{Got}
use Rattle.rules.specs.Trace.{stop, out}
use Rattle.rules.specs.Reading.{write}
use Rattle.rules.specs.Lookups.{map_output}
use Rattle.steps.specs.Took.{Took}
use Rattle.objects.specs.declared.frame.Frame.{Frame}
use Rattle.objects.specs.declared.frame.Frame.TheVariants.{Lines}
use Rattle.objects.specs.Frames.{frames}
use Rattle.objects.specs.Ahead.{inner_of, object_of, inner_run, onto, with_names}
use Rattle.objects.proofs.Alikes.{mapped_alike, mapped_refused, alike_as, took_as}
use Rattle.objects.proofs.Owns.{map_ends}
use Rattle.objects.proofs.LineRuns.{map_fails, map_run, map_room}
use Rattle.objects.specs.Likewise.{reach}
use Rattle.objects.proofs.Tries.{tried_ok, tried_err}
use Rattle.objects.proofs.Sames.{same-inner, gives_at}
use Rattle.objects.proofs.inside.Inside.map_read.Goals as goal

pub returns : goal.returns
unfolding coded
returns g c =
    let d = description c.args.scene.now.tables.now in
    let i = inner_of c.args.self.now in
    let o = object_of c.args.scene.now.about in
    let fv : SFits w64 c.in_ok-got.got.value = search rules in
    let bits = g.S.Source.bits c.args.scene.now.source.now in
    let got = tried_ok c.args.at.line c.args.scene.now.place c.mapped.result _ c.in_ok-got.ensures in
    let took = IfOk-at_ok (λ (g : Got). Took c.args.scene.now.place o.window.end g.place g.length g.after) (sym got) c.mapped.ensures.bound in
    record {
      moved = λ B l.
          gives_at (same-inner (c.push.ensures ∙ ap (λ (f : Frame). f ∷ frames c.args.self.now.frames) c.lines_after.ensures) (simp to_z-of_z at c.write.ensures))
          (record {
            before = 0;
            same = λ obj. map_run d B o i c.args.scene.now.place c.args.at.line c.args.at.after c.args.map c.args.name c.in_ok-got.got (mapped_alike bits B o.window c.args.scene.now.place (map_at d c.args.map).width (map_output d c.args.map) c.in_ok-got.got (omega (arith, c.args.scene.now.readable.maps c.args.map)) took.most (alike_as (c.args.scene.now.place + reach) c.value_item.ensures l) (got ∙ c.mapped.ensures.value)) obj
                ∙ ap (λ (x : Item). out x (inner_run d B o (onto (Lines (c.args.at.line + 1) c.args.at.after) (with_names (write c.args.name c.in_ok-got.got.value i.names) i)) c.in_ok-got.got.after obj)) (sym c.value_item.ensures);
            kind = ap (λ (x : Item). x.kind) c.value_item.ensures;
            ends = map_ends d bits o c.args.at.line 0 c.args.scene.now.place c.in_ok-got.got.after c.in_ok-got.got c.value_item.result c.value_item.ensures refl c.args.map c.args.name c.requires.is (got ∙ c.mapped.ensures.value);
            fit = map_room d B o i c.args.scene.now.place c.args.at.line c.args.at.after c.args.map c.args.name c.requires.room;
            near = omega (arith, took.most, took.within, c.args.scene.now.within, g.S.Source.short c.args.scene.now.source.now);
          });
      bound = λ h. took_as (sym c.value_item.ensures) took;
    }

pub returns-in_err-got : goal.returns-in_err-got
unfolding coded
returns-in_err-got g c =
    let d = description c.args.scene.now.tables.now in
    let p = err_from_is_err_and c.from_residual.result c.from_residual.ensures.1 in
    let t = tried_err c.args.at.line c.args.scene.now.place c.mapped.result _ c.in_err-got.ensures in
    rw (p.1, p.2) (record {
      moved = λ B l.
          record {
            before = 0;
            same = λ obj. map_fails (description c.args.scene.now.tables.now) B (object_of c.args.scene.now.about) (inner_of c.args.self.now) c.args.scene.now.place c.args.at.line c.args.at.after c.args.map c.args.name t.0 (t.1 ∙ c.mapped.ensures.value ∙ mapped_refused (g.S.Source.bits c.args.scene.now.source.now) B c.args.scene.now.about.window c.args.scene.now.place (map_at d c.args.map).width (map_output d c.args.map) (omega (arith, c.args.scene.now.readable.maps c.args.map)) l) obj ∙ ap stop t.2;
            fit = c.requires.room.fit;
          };
      bound = λ h. tt;
    })
