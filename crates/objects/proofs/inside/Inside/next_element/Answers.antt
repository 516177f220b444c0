use Rattle.std.proofs.Common.{◌+◌, sym, refl, ap, ◌∙◌, arith, to_z-of_z, w64, SFits, rules}
use Rattle.std.proofs.lemmas.Result.{err_from_is_err_and, IfOk-at_ok}
use Rattle.table.specs.Description.{description}
use Rattle.rules.specs.Trace.{stop, out}
use Rattle.objects.specs.declared.frame.Frame.TheVariants.{Elements}
use Rattle.objects.specs.Ahead.{inner_of, object_of}
use Rattle.rules.specs.declared.items.Item.{Item}
use Rattle.rules.specs.declared.steps.Got.{Got}
use Rattle.rules.specs.Reading.{write}
use Rattle.steps.specs.Took.{Took}
use Rattle.records.specs.declared.statements.Statement.TheVariants.{Read}
use Rattle.objects.specs.Ahead.{inner_run, onto, with_names}
use Rattle.objects.specs.Scenes.{node_value}
use Rattle.objects.proofs.Alikes.{element_alike, element_refused, alike_as, took_as}
use Rattle.objects.proofs.Owns.{element_ends}
use Rattle.objects.proofs.NextLines.{line_named}
use Rattle.objects.proofs.FrameRuns.{elements_end, element_fails, element_run, element_room, element_reads}
use Rattle.objects.specs.Likewise.{reach}
use Rattle.objects.proofs.Tries.{tried_ok, tried_err}
use Rattle.objects.proofs.Sames.{same-inner, gives_at, room_under, fit_under}
use Rattle.objects.proofs.inside.Inside.next_element.Goals as goal

pub returns-then-index-total : goal.returns-then-index-total
returns-then-index-total g c =
    record {
      moved = λ B l.
          record {
            before = 0;
            same = elements_end (description c.args.scene.now.tables.now) B (object_of c.args.scene.now.about) (inner_of c.args.self.now) c.args.scene.now.place c.args.line c.args.fields c.args.index c.args.total (omega arith);
            fit = fit_under (description c.args.scene.now.tables.now) _ _ c.requires;
            near = c.args.scene.now.near;
          };
      bound = λ h. (omega arith, h);
    }

pub write-requires : goal.write-requires
write-requires g c =
    let bits = g.S.Source.bits c.args.scene.now.source.now in
    line_named (description c.args.scene.now.tables.now) c.args.line (Read c.args.fields) (element_reads (description c.args.scene.now.tables.now) bits (object_of c.args.scene.now.about) (inner_of c.args.self.now) c.args.scene.now.place c.args.line c.args.fields c.args.index c.args.total c.requires) c.args.scene.now.readable

pub push-requires : goal.push-requires
push-requires g c = room_under (description c.args.scene.now.tables.now) (Elements c.args.line c.args.fields c.args.index c.args.total) refl c.requires

pub returns : goal.returns
returns g c =
    let d = description c.args.scene.now.tables.now in
    let o = object_of c.args.scene.now.about in
    let i = inner_of c.args.self.now in
    let fv : SFits w64 c.in_ok-got.got.value = search rules in
    let bits = g.S.Source.bits c.args.scene.now.source.now in
    let f = c.args.fields in
    let width = node_value c.args.scene.now c.args.self.now f.width in
    let lowest = node_value c.args.scene.now c.args.self.now f.lowest in
    let highest = node_value c.args.scene.now c.args.self.now f.highest in
    let got = tried_ok c.args.line c.args.scene.now.place c.element.result _ c.in_ok-got.ensures in
    let took = IfOk-at_ok (λ (g : Got). Took c.args.scene.now.place o.window.end g.place g.length g.after) (sym got) c.element.ensures.bound in
    record {
      moved = λ B l.
          gives_at (same-inner c.push.ensures (simp to_z-of_z at c.write.ensures))
          (record {
            before = 0;
            same = λ obj. element_run (description c.args.scene.now.tables.now) B (object_of c.args.scene.now.about) (inner_of c.args.self.now) c.args.scene.now.place c.args.line c.args.fields c.args.index c.args.total (omega arith) c.in_ok-got.got (element_alike bits B o.window c.args.scene.now.place f width lowest highest c.in_ok-got.got (omega arith) (alike_as (c.args.scene.now.place + reach) c.value_item.ensures l) (got ∙ c.element.ensures.value)) obj
                ∙ ap (λ (x : Item). out x (inner_run d B o (onto (Elements c.args.line c.args.fields (c.args.index + 1) c.args.total) (with_names (write c.args.fields.name c.in_ok-got.got.value i.names) i)) c.in_ok-got.got.after obj)) (sym c.value_item.ensures);
            kind = ap (λ (x : Item). x.kind) c.value_item.ensures;
            ends = element_ends d bits o c.args.line c.args.index c.args.scene.now.place c.in_ok-got.got.after c.in_ok-got.got c.value_item.result c.value_item.ensures refl f width lowest highest (element_reads d bits o i c.args.scene.now.place c.args.line f c.args.index c.args.total c.requires) (got ∙ c.element.ensures.value);
            fit = element_room (description c.args.scene.now.tables.now) B (object_of c.args.scene.now.about) (inner_of c.args.self.now) c.args.scene.now.place c.args.line c.args.fields c.args.index c.args.total c.requires;
            near = omega (arith, took.most, took.within, c.args.scene.now.within, g.S.Source.short c.args.scene.now.source.now);
          });
      bound = λ h. took_as (sym c.value_item.ensures) took;
    }

pub returns-in_err-got : goal.returns-in_err-got
returns-in_err-got g c =
    let f = c.args.fields in
    let width = node_value c.args.scene.now c.args.self.now f.width in
    let lowest = node_value c.args.scene.now c.args.self.now f.lowest in
    let highest = node_value c.args.scene.now c.args.self.now f.highest in
    let p = err_from_is_err_and c.from_residual.result c.from_residual.ensures.1 in
    let t = tried_err c.args.line c.args.scene.now.place c.element.result _ c.in_err-got.ensures in
    rw (p.1, p.2) (record {
      moved = λ B l.
          record {
            before = 0;
            same = λ obj. element_fails (description c.args.scene.now.tables.now) B (object_of c.args.scene.now.about) (inner_of c.args.self.now) c.args.scene.now.place c.args.line c.args.fields c.args.index c.args.total (omega arith) t.0 (t.1 ∙ c.element.ensures.value ∙ element_refused (g.S.Source.bits c.args.scene.now.source.now) B c.args.scene.now.about.window c.args.scene.now.place f width lowest highest (omega arith) l) obj ∙ ap stop t.2;
            fit = fit_under (description c.args.scene.now.tables.now) _ _ c.requires;
          };
      bound = λ h. tt;
    })
