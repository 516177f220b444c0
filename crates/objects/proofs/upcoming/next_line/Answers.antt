use Rattle.std.proofs.Common.{sym, ap, ◌∙◌, arith}
use Rattle.records.specs.Statements.{statement}
use Rattle.objects.proofs.Codes.{code_none, code-past, is_line, is_none, line_passed, line_next}
use Rattle.objects.proofs.upcoming.next_line.Goals as goal

pub returns-then-line-lines : goal.returns-then-line-lines
returns-then-line-lines c = c.loop-left.invariant.0 ∙ code-past c.args.lines.now c.loop-left.line c.loop-left.left (omega arith)

pub loop-left-preserved : goal.loop-left-preserved
loop-left-preserved c = (
  c.loop-left.invariant.0
      ∙ line_passed c.args.lines.now c.loop-left.line c.loop-left.left (omega arith)
      (is_none _ _ _ (sym c.in-Err.is ∙ c.try_from.ensures) ∙ ap statement c.record_at.ensures),
  omega arith,
)

pub returns-in-Ok : goal.returns-in-Ok
returns-in-Ok c =
    let e = is_line _ _ _ (sym c.in-Ok.is ∙ c.try_from.ensures) ∙ ap statement c.record_at.ensures in
    record {
      same = c.loop-left.invariant.0 ∙ line_next c.args.lines.now c.loop-left.line c.loop-left.left (omega arith) _ e;
      is = sym e;
    }

pub returns : goal.returns
returns c = c.loop-left.invariant.0 ∙ code_none c.args.lines.now c.loop-left.line c.loop-left.left (omega arith)
