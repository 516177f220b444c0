use Rattle.std.proofs.Common.{rules}
use Rattle.table.specs.Description.{statement_at}
use Rattle.table.proofs.loaded.Loaded.statement.Goals as goal

pub returns : goal.returns
unfolding statement_at
returns c = search rules
