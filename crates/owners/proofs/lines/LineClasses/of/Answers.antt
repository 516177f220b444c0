use Rattle.std.proofs.Common.{◌+◌, arith, length-set}
use Rattle.std.proofs.lemmas.List.Edits.{fill_by_more}
use Rattle.table.specs.Description.{description}
use Rattle.owners.specs.Lines.{class_of_line}
use Rattle.owners.proofs.lines.LineClasses.of.Goals as goal

pub loop-i-preserved : goal.loop-i-preserved
loop-i-preserved c = (
  simp length-set c.loop-i.invariant.0,
  simp c.class_of_line.ensures (fill_by_more (λ k. class_of_line (description c.args.loaded.now) (k + 1)) c.loop-i.classes c.loop-i.i 0 (omega arith) c.loop-i.invariant.1),
)

pub invariant_of-result : goal.invariant_of-result
invariant_of-result c =
    record {
      found = λ k h. c.loop-i.invariant.1 k (omega (arith, h, c.line_count-i-end.ensures.value));
    }
