use Rattle.std.proofs.Common.{sym, ap, ltb}
use Rattle.writing.proofs.Ended.{end_by}
use Rattle.writing.proofs.state.Writing.can_end.Goals as goal

pub returns-then-is_over : goal.returns-then-is_over
returns-then-is_over c = end_by c.args.self.now c.if-is_over.ensures _ (ap (λ n. ltb n 8) (sym c.saturating_sub.ensures))
