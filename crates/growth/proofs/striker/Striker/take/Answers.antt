use Rattle.std.proofs.Common.{cond, [], ◌∷◌, ap, ◌∙◌}
use Rattle.table.specs.Description.{description}
use Rattle.rules.specs.Growth.{left_of, masked, deeper, next_depth}
use Rattle.growth.proofs.striker.Striker.take.Goals as goal

pub returns-then-struck : goal.returns-then-struck
unfolding left_of deeper
returns-then-struck c =
    record {
      left = ap (λ b. cond b [] (masked (description c.args.older.now) c.args.item.kind c.args.item ∷ [])) c.if-struck.ensures;
      depth = λ h. c.next_depth-self.ensures h ∙ ap (λ b. next_depth c.args.item.kind b c.args.self.now.depth) c.is_new.ensures;
    }

pub returns-else-struck : goal.returns-else-struck
unfolding left_of deeper
returns-else-struck c =
    record {
      left =
          ap (λ i. i ∷ []) c.masked.ensures ∙
          ap (λ b. cond b [] (masked (description c.args.older.now) c.args.item.kind c.args.item ∷ [])) c.if-struck.ensures;
      depth = λ h. c.next_depth-self.ensures h ∙ ap (λ b. next_depth c.args.item.kind b c.args.self.now.depth) c.is_new.ensures;
    }
