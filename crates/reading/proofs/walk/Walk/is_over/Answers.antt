use Rattle.std.proofs.Common.{refl}
use Rattle.reading.proofs.Taking.{over_by, over-not}
use Rattle.reading.proofs.walk.Walk.is_over.Goals as goal

pub returns-then-self : goal.returns-then-self
returns-then-self c = over_by c.args.self.now _ c.if-self.true refl

pub returns-else-self : goal.returns-else-self
returns-else-self c = over-not c.args.self.now c.if-self.false
