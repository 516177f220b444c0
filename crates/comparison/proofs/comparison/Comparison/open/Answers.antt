use Rattle.std.proofs.Common.{ap, ◌∙◌}
use Rattle.table.specs.Description.{description}
use Rattle.checked.specs.Check.{first_fault}
use Rattle.rules.proofs.ByTests.{grown_means}
use Rattle.writing.proofs.Aheads.{no_fault}
use Rattle.comparison.proofs.Handed.{hands_out}
use Rattle.comparison.proofs.Compared.{older_and_newer}
use Rattle.comparison.proofs.comparison.Comparison.open.Goals as goal

pub returns : goal.returns
returns g c =
    let d = description c.args.older.now.loaded in
    let e = description c.args.newer.now.loaded in
    record {
      begun =
          record {
            older = c.open.ensures;
            newer = c.open-2.ensures;
            tables = ap description c.tables.ensures.same;
            depth = c.new.ensures;
            has_grown = c.grown.ensures.answer;
          };
      older = hands_out g.O.Source g.O.Source.bits;
      newer = hands_out g.N.Source g.N.Source.bits;
      law = λ y. older_and_newer g.O.Source g.N.Source g.O.Source.bits g.N.Source.bits d e (c.grown.ensures.law (c.grown.ensures.answer ∙ y)) (no_fault (first_fault e) c.args.newer.now.faultless) (grown_means d e y);
    }
