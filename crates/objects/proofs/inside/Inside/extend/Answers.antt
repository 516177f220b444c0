use Rattle.std.proofs.lemmas.Result.{err_from_is_err_and, IfOk-at_ok}
use Rattle.std.proofs.Common.{rules, ◌≡◌, ◌+◌, ◌<◌, ◌≤◌, true, false, eqb, List, [], ◌∷◌, length, sym, refl, ap, ◌∙◌, subst, arith}
use Rattle.table.specs.Description.{Description, description}
use Rattle.rules.specs.Trace.{stop}
use Rattle.objects.specs.declared.frame.Frame.{Frame}
use Rattle.objects.specs.declared.frame.Frame.TheVariants.{Lines}
use Rattle.objects.specs.Ahead.{inner_of, object_of}
use Rattle.objects.proofs.Alikes.{aligned_alike, aligned_refused}
use Rattle.objects.proofs.FrameRuns.{no_extension_left, other_extension, extension_fails, extensions_end, extension_begins, extension_room}
use Rattle.objects.proofs.Tries.{tried_ok, tried_err}
use Rattle.objects.proofs.Sames.{same-inner, quietly_at}
use Rattle.std.proofs.lemmas.Bool.Decides.{nat_tests}
use Rattle.records.specs.declared.records.Extension.{Extension}
use Rattle.table.specs.Description.{entry, extension_at, no_extension}
use Rattle.objects.specs.Ahead.{Fit}
use Rattle.objects.proofs.inside.Inside.extend.Goals as goal

none_fit : (d : Description) (fs : List Frame) → fs ≡ [] → Fit d fs
unfolding Fit
none_fit d fs e = subst (Fit d) (sym e) tt

pub returns-then-i-count : goal.returns-then-i-count
returns-then-i-count g c =
    let d = description c.args.scene.now.tables.now in
    let v = c.deref-table.ensures.value in
    record {
      moved = λ B l.
          record {
            before = 0;
            same = no_extension_left d B (object_of c.args.scene.now.about) (inner_of c.args.self.now) c.args.scene.now.place c.requires (subst (λ (es : List Extension). length es ≤ c.args.self.now.extension) v c.if-i-count.true);
            fit = none_fit d _ c.requires;
          };
      bound = λ h. tt;
    }

pub returns-then-extension-scene : goal.returns-then-extension-scene
returns-then-extension-scene g c =
    let d = description c.args.scene.now.tables.now in
    let v = c.deref-table.ensures.value in
    let some : c.args.self.now.extension < length d.extensions = subst (λ (es : List Extension). c.args.self.now.extension < length es) v c.if-i-count.false in
    let is : c.record_at-extension.result ≡ extension_at d (c.args.self.now.extension + 1) = c.record_at-extension.ensures ∙ ap (λ (es : List Extension). entry es (c.args.self.now.extension + 1) no_extension) v in
    let other : eqb c.record_at-extension.result.class c.args.scene.now.about.class ≡ false = grind (arith, nat_tests) in
    record {
      moved = λ B l.
          quietly_at (same-inner c.requires refl)
          (record {
            before = 0;
            same = other_extension d B (object_of c.args.scene.now.about) (inner_of c.args.self.now) c.args.scene.now.place c.requires c.record_at-extension.result is some other;
            fit = none_fit d [] refl;
            near = c.args.scene.now.near;
          });
      bound = λ h. (omega arith, h);
    }

pub returns-then-q-scene : goal.returns-then-q-scene
returns-then-q-scene g c =
    let d = description c.args.scene.now.tables.now in
    let v = c.deref-table.ensures.value in
    let some : c.args.self.now.extension < length d.extensions = subst (λ (es : List Extension). c.args.self.now.extension < length es) v c.if-i-count.false in
    let is : c.record_at-extension.result ≡ extension_at d (c.args.self.now.extension + 1) = c.record_at-extension.ensures ∙ ap (λ (es : List Extension). entry es (c.args.self.now.extension + 1) no_extension) v in
    let own : eqb c.record_at-extension.result.class c.args.scene.now.about.class ≡ true = grind (arith, nat_tests) in
    let q = tried_ok c.record_at-extension.result.first c.args.scene.now.place c.aligned.result _ c.in_ok-q.ensures in
    let went = IfOk-at_ok (λ q. (c.args.scene.now.place ≤ q) × (q ≤ c.args.scene.now.about.window.end)) (sym q) c.aligned.ensures.bound in
    let last : eqb c.in_ok-q.q c.args.scene.now.about.window.end ≡ true = grind (arith, nat_tests) in
    record {
      moved = λ B l.
          quietly_at (same-inner c.requires refl)
          (record {
            before = 0;
            same = extensions_end d B (object_of c.args.scene.now.about) (inner_of c.args.self.now) c.args.scene.now.place c.requires c.record_at-extension.result is some own c.in_ok-q.q (aligned_alike (g.S.Source.bits c.args.scene.now.source.now) B c.args.scene.now.about.window c.args.scene.now.place 8 c.in_ok-q.q (omega arith) l (q ∙ c.aligned.ensures.value)) last (length c.deref-table.result.now) (subst (λ (es : List Extension). length d.extensions ≤ length es) (sym v) (omega arith));
            fit = none_fit d [] refl;
            near = omega (arith, went.1, c.args.scene.now.within, g.S.Source.short c.args.scene.now.source.now);
          });
      bound = λ h. went;
    }

pub returns-else-q-scene : goal.returns-else-q-scene
returns-else-q-scene g c =
    let d = description c.args.scene.now.tables.now in
    let v = c.deref-table.ensures.value in
    let some : c.args.self.now.extension < length d.extensions = subst (λ (es : List Extension). c.args.self.now.extension < length es) v c.if-i-count.false in
    let is : c.record_at-extension.result ≡ extension_at d (c.args.self.now.extension + 1) = c.record_at-extension.ensures ∙ ap (λ (es : List Extension). entry es (c.args.self.now.extension + 1) no_extension) v in
    let own : eqb c.record_at-extension.result.class c.args.scene.now.about.class ≡ true = grind (arith, nat_tests) in
    let q = tried_ok c.record_at-extension.result.first c.args.scene.now.place c.aligned.result _ c.in_ok-q.ensures in
    let went = IfOk-at_ok (λ q. (c.args.scene.now.place ≤ q) × (q ≤ c.args.scene.now.about.window.end)) (sym q) c.aligned.ensures.bound in
    let lines : c.from-else-q-scene.result ≡ Lines c.record_at-extension.result.first c.record_at-extension.result.number = search rules in
    let more : eqb c.in_ok-q.q c.args.scene.now.about.window.end ≡ false = grind (arith, nat_tests) in
    record {
      moved = λ B l.
          quietly_at (same-inner (c.push.ensures ∙ λ i. lines i ∷ c.requires i) refl)
          (record {
            before = 0;
            same = extension_begins d B (object_of c.args.scene.now.about) (inner_of c.args.self.now) c.args.scene.now.place c.requires c.record_at-extension.result is some own c.in_ok-q.q (aligned_alike (g.S.Source.bits c.args.scene.now.source.now) B c.args.scene.now.about.window c.args.scene.now.place 8 c.in_ok-q.q (omega arith) l (q ∙ c.aligned.ensures.value)) more;
            fit = extension_room d B (object_of c.args.scene.now.about) (inner_of c.args.self.now) c.args.scene.now.place c.requires c.record_at-extension.result is some c.args.scene.now.readable;
            near = omega (arith, went.1, c.args.scene.now.within, g.S.Source.short c.args.scene.now.source.now);
          });
      bound = λ h. went;
    }

pub returns-in_err-q : goal.returns-in_err-q
returns-in_err-q g c =
    let d = (description c.args.scene.now.tables.now) in
    let v = c.deref-table.ensures.value in
    let some : c.args.self.now.extension < length d.extensions = subst (λ (es : List Extension). c.args.self.now.extension < length es) v c.if-i-count.false in
    let is : c.record_at-extension.result ≡ extension_at d (c.args.self.now.extension + 1) = c.record_at-extension.ensures ∙ ap (λ (es : List Extension). entry es (c.args.self.now.extension + 1) no_extension) v in
    let own : eqb c.record_at-extension.result.class c.args.scene.now.about.class ≡ true = grind (arith, nat_tests) in
    let p = err_from_is_err_and c.from_residual.result c.from_residual.ensures.1 in
    let t = tried_err c.record_at-extension.result.first c.args.scene.now.place c.aligned.result _ c.in_err-q.ensures in
    rw (p.1, p.2) (record {
      moved = λ B l.
          record {
            before = 0;
            same = λ obj. extension_fails (description c.args.scene.now.tables.now) B (object_of c.args.scene.now.about) (inner_of c.args.self.now) c.args.scene.now.place c.requires c.record_at-extension.result is some own t.0 (t.1 ∙ c.aligned.ensures.value ∙ aligned_refused (g.S.Source.bits c.args.scene.now.source.now) B c.args.scene.now.about.window c.args.scene.now.place 8 (omega arith) l) obj ∙ ap stop t.2;
            fit = none_fit d _ c.requires;
          };
      bound = λ h. tt;
    })
