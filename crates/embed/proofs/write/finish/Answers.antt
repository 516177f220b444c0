use Rattle.std.proofs.Common.{refl, Ok, Err}
use Rattle.embed.proofs.write.finish.Goals as goal

pub returns-in-Ok : goal.returns-in-Ok
returns-in-Ok c = (Ok c.in-Ok.field-0, c.in-Ok.ensures, refl)

pub returns : goal.returns
returns c = (Err c.in-Err.field-0, c.in-Err.ensures, c.refused.ensures)
