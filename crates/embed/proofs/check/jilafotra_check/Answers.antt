use Rattle.table.specs.Loading.{loaded}
use Rattle.embed.proofs.Told.{told}
use Rattle.embed.proofs.check.jilafotra_check.Goals as goal

pub returns : goal.returns
returns c = rw c.answer.ensures (told (loaded c.args.description.now) c.load.result c.load.ensures)
