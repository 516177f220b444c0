use Rattle.std.proofs.Common.{false, replicate, refl, ◌∙◌, inl, inr, arith, length-set}
use Rattle.std.proofs.lemmas.Bool.Decides.{leb_tells}
use Rattle.table.specs.Description.{description}
use Rattle.owners.proofs.Reached.{unmarked, marked_none, marked_more, unmarked_more, reaches_past}
use Rattle.owners.proofs.reach.reaching.Goals as goal

pub loop-i-init : goal.loop-i-init
loop-i-init c = (
  refl,
  λ k h. marked_none (description c.args.loaded.now) c.args.x (replicate 257 false) 0 c.requires.0 k h (unmarked 257 k),
  λ k h. unmarked 257 k,
)

pub loop-i-preserved : goal.loop-i-preserved
loop-i-preserved c = (
  simp length-set c.loop-i.invariant.0,
  marked_more (description c.args.loaded.now) c.args.x c.loop-i.marks c.loop-i.i c.marks_next.result (omega (arith, c.loop-i.invariant.0, c.node_count-i-end.ensures.bound)) c.loop-i.invariant.1 c.marks_next.ensures,
  unmarked_more (description c.args.loaded.now) c.args.x c.loop-i.marks c.loop-i.i c.marks_next.result c.loop-i.invariant.2,
)

pub returns : goal.returns
returns c = λ r.
    elim (leb_tells r c.loop-i.i) [
      | inl t ↦ c.loop-i.invariant.1 r (omega (arith, t.1))
      | inr t ↦ c.loop-i.invariant.2 r (omega (arith, t.1)) ∙ reaches_past (description c.args.loaded.now) c.args.x r (omega (arith, t.1, c.node_count-i-end.ensures.value)) c.requires.1
    ]
