use Rattle.writing.proofs.Written.{writes}
use Rattle.writing.proofs.state.Writing.open.Goals as goal

pub returns-then-bits-clause-law : goal.returns-then-bits-clause-law
returns-then-bits-clause-law c = writes

pub returns-then-some_ahead-clause-law : goal.returns-then-some_ahead-clause-law
returns-then-some_ahead-clause-law c = writes

pub returns-clause-law : goal.returns-clause-law
returns-clause-law c = writes
