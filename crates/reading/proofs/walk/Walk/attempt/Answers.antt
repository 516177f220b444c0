use Rattle.std.proofs.Common.{ap, ◌∙◌}
use Rattle.table.specs.Description.{description}
use Rattle.reading.specs.Offers.{restored}
use Rattle.reading.proofs.Taking.{declined}
use Rattle.reading.proofs.walk.Walk.attempt.Goals as goal

pub returns : goal.returns
returns g c =
    let d = description c.args.tables.now in
    let v = c.args.self.now in
    record {
      other = declined d (g.S.Source.bits c.args.source.now) v c.advance.new.self c.advance.result c.args.wanted c.advance.ensures.came (c.gives.ensures.no c.if-gives.false);
      left = c.advance.new.self;
      long = c.restore.ensures.long;
      back = c.restore.ensures.back ∙ ap (λ s. restored s c.advance.new.self) c.saved-saved.ensures;
      kept = c.advance.ensures.kept;
    }
