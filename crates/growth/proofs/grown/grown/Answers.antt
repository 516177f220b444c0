use Rattle.std.proofs.Common.{◌≡◌, sym, ◌∙◌, subst₂}
use Rattle.table.specs.Description.{description}
use Rattle.rules.specs.Growth.{grown, ReadsOn}
use Rattle.rules.proofs.Parts.{reads_on}
use Rattle.growth.proofs.grown.grown.Goals as goal

pub returns : goal.returns
unfolding grown
returns c =
    let a = c.tables.ensures.same in
    let b = c.tables-2.ensures.same in
    record {
      answer = subst₂ (λ x y. c.keeps_rules.result ≡ grown (description x) (description y)) a b c.keeps_rules.ensures;
      law = λ e.
          subst₂ (λ x y. ReadsOn (description x) (description y)) a b
          (reads_on (description c.tables.result.now) (description c.tables-2.result.now) c.tables.ensures.faultless c.tables-2.ensures.faultless (sym c.keeps_rules.ensures ∙ e));
    }
