use Rattle.std.proofs.Common.{◌+◌, ◌*◌, ◌≤◌, sym, ap, ◌∙◌, subst, arith, rules, of_calls}
use Rattle.std.proofs.lemmas.Result.{err_from_is_err_and, IfOk-at_ok}
use Rattle.records.specs.declared.records.Class.{Class}
use Rattle.table.specs.Description.{description, class_at}
use Rattle.rules.specs.Lookups.{greatest}
use Rattle.objects.proofs.Alikes.{header_refused}
use Rattle.reading.proofs.Enclosing.{id_narrow}
use Rattle.rules.specs.Steps.{header}
use Rattle.rules.specs.declared.steps.Header.{Header}
use Rattle.objects.proofs.Tries.{tried_ok, tried_err, told_at}
use Rattle.rules.specs.declared.faults.Failure.{Failure}
use Rattle.rules.specs.Checks.{fault}
use Rattle.rules.specs.Trace.{stop}
use Rattle.reading.specs.Walks.{objects_of}
use Rattle.reading.proofs.Entering.{begin_full, begin_fails}
use Rattle.reading.proofs.Stepping.{few_open, all_open, sound_near}
use Rattle.reading.proofs.walk.Walk.begin.Goals as goal

pub returns-then-self-ge-MOST-clause-moved : goal.returns-then-self-ge-MOST-clause-moved
returns-then-self-ge-MOST-clause-moved g c =
    let d = description c.args.tables.now in
    record {
      moved = λ B same.
          record {
            before = 0;
            same = begin_full d B (objects_of c.args.self.now) c.args.used c.args.view.now.window c.args.self.now.place (all_open c.args.self.now (omega arith)) ∙ ap stop (sym (c.at.ensures ∙ ap (λ (f : Failure). fault f.cause c.args.used.line f.node c.args.self.now.place) c.from.ensures));
            sound = c.requires.sound;
          };
      bound = λ h. tt;
      ends = λ st. tt;
    }

pub header-requires : goal.header-requires
header-requires g c =
    record {
      place = sound_near (description c.args.tables.now) c.args.self.now c.requires.sound;
      width = subst (λ (x : Class). x.width ≤ 16) (sym c.class.ensures) (c.requires.readable.ids c.args.used.class);
    }

pub enter-requires : goal.enter-requires
enter-requires g c =
    let bits = g.S.Source.bits c.args.view.now.source.now in
    let told = tried_ok c.args.used.line c.args.self.now.place c.header.result c.in_ok-header.header
    (sym c.in_ok-header.was ∙ told_at c.args.used.line c.args.self.now.place c.header.result c.map_err.result _ (λ f y q. search (rules, of_calls)) c.map_err.ensures.cases) in
    let bound = IfOk-at_ok (λ (h : Header). (c.args.self.now.place ≤ h.place) × (h.place ≤ h.after) × (h.after + 8 * h.size ≤ c.args.view.now.window.end)) (sym told) c.header.ensures.bound in
    record {
      sound = c.requires.sound;
      room = few_open c.args.self.now (omega arith);
      readable = c.requires.readable;
      most = c.greatest-greatest.ensures;
      declared = c.requires.declared;
      short = (bound.2, omega (arith, c.args.view.now.within, g.S.Source.short c.args.view.now.source.now));
      placed = (bound.0, bound.1);
    }

pub returns-clause-moved : goal.returns-clause-moved
returns-clause-moved g c =
    let bits = g.S.Source.bits c.args.view.now.source.now in
    let told = tried_ok c.args.used.line c.args.self.now.place c.header.result c.in_ok-header.header
    (sym c.in_ok-header.was ∙ told_at c.args.used.line c.args.self.now.place c.header.result c.map_err.result _ (λ f y q. search (rules, of_calls)) c.map_err.ensures.cases) in
    c.enter.ensures.moved bits c.args.view.now.within
    (told ∙ c.header.ensures.value ∙ (λ i. header bits c.args.view.now.window (c.class.ensures i) (c.greatest-greatest.ensures i) c.args.self.now.place))

pub returns-in_err-header-clause-moved : goal.returns-in_err-header-clause-moved
returns-in_err-header-clause-moved g c =
    let d = description c.args.tables.now in
    let bits = g.S.Source.bits c.args.view.now.source.now in
    let p = err_from_is_err_and c.from_residual.result c.from_residual.ensures.1 in
    let t = tried_err c.args.used.line c.args.self.now.place c.header.result _
    (sym c.in_err-header.was ∙ told_at c.args.used.line c.args.self.now.place c.header.result c.map_err.result _ (λ f y q. search (rules, of_calls)) c.map_err.ensures.cases) in
    rw (p.1, p.2) (record {
      moved = λ B same.
          let u = c.args.used in
          record {
            before = 0;
            same = begin_fails d B (objects_of c.args.self.now) c.args.used c.args.view.now.window c.args.self.now.place (few_open c.args.self.now (omega arith)) t.0
                (t.1 ∙ c.header.ensures.value ∙ (λ i. header bits c.args.view.now.window (c.class.ensures i) (c.greatest-greatest.ensures i) c.args.self.now.place)
                ∙ header_refused bits B c.args.view.now.window c.args.self.now.place (class_at d u.class) (greatest d u.class) (id_narrow (class_at d u.class) (c.requires.readable.ids u.class)) same)
                ∙ ap stop t.2;
            sound = c.requires.sound;
          };
      bound = λ h. tt;
      ends = λ st. tt;
    })
