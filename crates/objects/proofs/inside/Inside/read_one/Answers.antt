use Rattle.std.proofs.Common.{◌+◌, ◌∷◌, sym, refl, ap, ◌∙◌, arith, to_z-of_z, w64, SFits, rules}
use Rattle.std.proofs.lemmas.Result.{err_from_is_err_and, IfOk-at_ok}
use Rattle.table.specs.Description.{description}
use Rattle.records.specs.declared.statements.Statement.TheVariants.{Read}
use Rattle.rules.specs.Code.{coded}
use Rattle.rules.specs.declared.faults.ReadingFault.{ReadingFault}
use Rattle.rules.specs.declared.items.Item.{Item}
use Rattle.rules.specs.declared.steps.Got.{Got}
use Rattle.rules.specs.Trace.{pass, stop, out}
use Rattle.rules.specs.Reading.{write}
use Rattle.steps.specs.Took.{Took}
use Rattle.objects.specs.declared.frame.Frame.{Frame}
use Rattle.objects.specs.declared.frame.Frame.TheVariants.{After}
use Rattle.objects.specs.Frames.{frames}
use Rattle.objects.specs.Ahead.{inner_of, object_of, inner_run, onto, with_names}
use Rattle.objects.specs.Scenes.{node_value}
use Rattle.objects.proofs.Alikes.{element_alike, element_refused, alike_as, took_as}
use Rattle.objects.specs.Likewise.{reach}
use Rattle.objects.proofs.Owns.{element_ends}
use Rattle.objects.proofs.NextLines.{line_named}
use Rattle.objects.proofs.LineRuns.{one_fails, one_run, one_room}
use Rattle.objects.proofs.Tries.{tried_ok, tried_err}
use Rattle.objects.proofs.Sames.{same-inner, gives_at}
use Rattle.objects.proofs.inside.Inside.read_one.Goals as goal

pub write-requires : goal.write-requires
write-requires g c =
    line_named (description c.args.scene.now.tables.now) c.args.at.line (Read c.args.fields) c.requires.fits.is c.args.scene.now.readable

pub returns : goal.returns
unfolding coded
returns g c =
    let d = description c.args.scene.now.tables.now in
    let i = inner_of c.args.self.now in
    let o = object_of c.args.scene.now.about in
    let f = c.args.fields in
    let width = node_value c.args.scene.now c.args.self.now f.width in
    let lowest = node_value c.args.scene.now c.args.self.now f.lowest in
    let highest = node_value c.args.scene.now c.args.self.now f.highest in
    let fv : SFits w64 c.in_ok-got.got.value = search rules in
    let bits = g.S.Source.bits c.args.scene.now.source.now in
    let got = tried_ok c.args.at.line c.args.scene.now.place c.element.result _ c.in_ok-got.ensures in
    let took = IfOk-at_ok (λ (g : Got). Took c.args.scene.now.place o.window.end g.place g.length g.after) (sym got) c.element.ensures.bound in
    record {
      moved = λ B l.
          gives_at (same-inner (c.push.ensures ∙ ap (λ (f : Frame). f ∷ frames c.args.self.now.frames) c.lines_after_value.ensures) (simp to_z-of_z at c.write.ensures))
          (record {
            before = 1;
            same = λ obj. one_run d B o i c.args.scene.now.place c.args.at.line c.args.at.after f c.requires.one c.in_ok-got.got (element_alike bits B o.window c.args.scene.now.place f width lowest highest c.in_ok-got.got (omega arith) (alike_as (c.args.scene.now.place + reach) c.value_item.ensures l) (got ∙ c.element.ensures.value)) obj
                ∙ ap (λ (x : Item). pass (out x (inner_run d B o (onto (After (c.args.at.line + 1) c.args.at.after) (with_names (write f.name c.in_ok-got.got.value i.names) i)) c.in_ok-got.got.after obj))) (sym c.value_item.ensures);
            kind = ap (λ (x : Item). x.kind) c.value_item.ensures;
            ends = element_ends d bits o c.args.at.line 0 c.args.scene.now.place c.in_ok-got.got.after c.in_ok-got.got c.value_item.result c.value_item.ensures refl f width lowest highest c.requires.fits.is (got ∙ c.element.ensures.value);
            fit = one_room d B o i c.args.scene.now.place c.args.at.line c.args.at.after f c.requires.one c.requires.fits.room;
            near = omega (arith, took.most, took.within, c.args.scene.now.within, g.S.Source.short c.args.scene.now.source.now);
          });
      bound = λ h. took_as (sym c.value_item.ensures) took;
    }

pub returns-in_err-got : goal.returns-in_err-got
unfolding coded
returns-in_err-got g c =
    let d = description c.args.scene.now.tables.now in
    let f = c.args.fields in
    let width = node_value c.args.scene.now c.args.self.now f.width in
    let lowest = node_value c.args.scene.now c.args.self.now f.lowest in
    let highest = node_value c.args.scene.now c.args.self.now f.highest in
    let p = err_from_is_err_and c.from_residual.result c.from_residual.ensures.1 in
    let t = tried_err c.args.at.line c.args.scene.now.place c.element.result _ c.in_err-got.ensures in
    rw (p.1, p.2) (record {
      moved = λ B l.
          record {
            before = 1;
            same = λ obj. one_fails d B (object_of c.args.scene.now.about) (inner_of c.args.self.now) c.args.scene.now.place c.args.at.line c.args.at.after f c.requires.one t.0 (t.1 ∙ c.element.ensures.value ∙ element_refused (g.S.Source.bits c.args.scene.now.source.now) B c.args.scene.now.about.window c.args.scene.now.place f width lowest highest (omega arith) l) obj ∙ ap (λ (f : ReadingFault). pass (stop f)) t.2;
            fit = c.requires.fits.room.fit;
          };
      bound = λ h. tt;
    })
