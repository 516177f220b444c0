use Rattle.std.proofs.Common.{◌+◌, sym, ap, ◌∙◌, subst}
use Rattle.objects.specs.Likewise.{Alike, reach}
use Rattle.reading.proofs.Enclosing.{begun_from}
use Rattle.rules.specs.declared.faults.Failure.{Failure}
use Rattle.rules.specs.Checks.{fault}
use Rattle.rules.specs.Trace.{stop}
use Rattle.reading.proofs.Stepping.{ended_alike, ends_well, ends_short}
use Rattle.reading.proofs.walk.Walk.finish.Goals as goal

pub returns-then-at_end : goal.returns-then-at_end
returns-then-at_end g c = λ d s.
    record {
      moved = λ B same.
          let e = ends_well d B c.args.self.now c.requires.begun c.requires.none (sym (ended_alike (g.S.Source.bits c.args.source.now) B c.args.self.now.place (subst (λ p. Alike (g.S.Source.bits c.args.source.now) B p (p + reach)) (begun_from c.args.self.now c.requires.begun) same)) ∙ sym c.at_end.ensures ∙ c.if-at_end.true) in
          record { before = 0; same = e; still = e; sound = s };
      bound = λ h. tt;
      ends = λ st. tt;
    }

pub returns : goal.returns
returns g c = λ d s.
    record {
      moved = λ B same.
          record {
            before = 0;
            same = ends_short d B c.args.self.now c.requires.begun c.requires.none (sym (ended_alike (g.S.Source.bits c.args.source.now) B c.args.self.now.place (subst (λ p. Alike (g.S.Source.bits c.args.source.now) B p (p + reach)) (begun_from c.args.self.now c.requires.begun) same)) ∙ sym c.at_end.ensures ∙ c.if-at_end.false) ∙ ap stop (sym (c.at.ensures ∙ ap (λ (f : Failure). fault f.cause 0 f.node c.args.self.now.place) c.from.ensures));
            sound = s;
          };
      bound = λ h. tt;
      ends = λ st. tt;
    }
