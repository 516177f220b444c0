use Rattle.std.proofs.Common.{◌≡◌, Bool, List, Some, None, Ok, Err, sym, refl, ap, ◌∙◌, subst}
use Rattle.table.specs.Description.{description}
use Rattle.bits.specs.declared.source.Source.{Ghosts}
use Rattle.rules.specs.Trace.{Run, out, pass}
use Rattle.objects.specs.Passed.{passed}
use Rattle.objects.proofs.Alikes.{alike_self}
use Rattle.objects.proofs.Passing.{fewer_passed}
use Rattle.reading.specs.declared.state.Reading.{Reading}
use Rattle.reading.specs.Walks.{Answer, walk_ahead, Stepped}
use Rattle.reading.specs.Positions.{latest}
use Rattle.reading.specs.Reads.{ahead, last_of, held, Told}
use Rattle.reading.specs.Calls.{given, Keeps, NextCalled}
use Rattle.reading.proofs.Enclosing.{stepped_sound}
use Rattle.reading.proofs.Nexts.{held_none, held_some, skipped_pass, skipped_out, skipped_stop, skipped_done, told_next}
use Rattle.reading.proofs.state.Reading.next.Goals as goal

module _ {S : Type 0} {g : Ghosts S} (bits : S → List Bool) where
  -- nothing was called
  kept : (r : Reading S g) → Keeps bits r r
  kept r = record { description = refl; source = refl }

  -- the call, from what was handed out
  called : (r t : Reading S g) (s answer : Answer) → s ≡ answer → Told (ahead bits r) answer (ahead bits t)
      → last_of t ≡ latest (last_of r) (given answer) → Keeps bits r t → NextCalled bits r s t
  called r t s answer e told last keeps =
      subst (λ (a : Answer). NextCalled bits r a t) (sym e) (record { next = told_next (ahead bits r) answer (ahead bits t) told; told = told; last = last; keeps = keeps })

pub invariant_of-self : goal.invariant_of-self
invariant_of-self g c =
    let s = c.loop-answer.self in
    record { readable = s.readable; sound = stepped_sound (description s.tables.now) (g.S.Source.bits s.source) s.walk c.step.result c.step.new.self c.step.ensures.moved }

pub invariant_of-self-in-Ok-None : goal.invariant_of-self-in-Ok-None
invariant_of-self-in-Ok-None g c =
    let s = c.loop-answer.self in
    record { readable = s.readable; sound = stepped_sound (description s.tables.now) (g.S.Source.bits s.source) s.walk c.step.result c.step.new.self c.step.ensures.moved }

pub invariant_of-self-in-Err : goal.invariant_of-self-in-Err
invariant_of-self-in-Err g c =
    let s = c.loop-answer.self in
    record { readable = s.readable; sound = stepped_sound (description s.tables.now) (g.S.Source.bits s.source) s.walk c.step.result c.step.new.self c.step.ensures.moved }

pub loop-answer-init : goal.loop-answer-init
loop-answer-init g c = (c.in_default.is, refl, refl, kept g.S.Source.bits c.args.self.now)

pub returns-in-Ok-Some : goal.returns-in-Ok-Some
returns-in-Ok-Some g c =
    let s = c.loop-answer.self in
    let d = description s.tables.now in
    let bits = g.S.Source.bits s.source in
    let before = walk_ahead d bits s.walk in
    let after = walk_ahead d bits c.step.new.self in
    let none = c.loop-answer.invariant.0 in
    let item = c.in-Ok-Some.item in
    let e : c.in-Some-step.answer ≡ Ok (Some item) = c.in-Ok-Some.is ∙ ap Ok (rw c.in-Ok-Some.is at c.in-Ok-Some.field-0-is) in
    let step = subst (λ (r : Answer). Stepped d bits s.walk (Some r) c.step.new.self) e c.in-Some-step.ensures.moved in
    let m = step.moved _ alike_self in
    called g.S.Source.bits c.args.self.now _ c.in-Some-step.answer (Ok (Some item)) e
    (sym c.loop-answer.invariant.1 ∙ skipped_out _ _ item m.before (held_none s.fault before none ∙ m.same) ∙ ap (out item) (sym (held_none s.fault after none)))
    refl (record { description = c.loop-answer.invariant.3.description; source = c.loop-answer.invariant.3.source })

pub returns-in-Ok-None : goal.returns-in-Ok-None
returns-in-Ok-None g c =
    let s = c.loop-answer.self in
    let d = description s.tables.now in
    let bits = g.S.Source.bits s.source in
    let before = walk_ahead d bits s.walk in
    let after = walk_ahead d bits c.step.new.self in
    let none = c.loop-answer.invariant.0 in
    let e : c.in-Some-step.answer ≡ Ok None = c.in-Ok-None.is ∙ ap Ok (rw c.in-Ok-None.is at c.in-Ok-None.field-0-is) in
    let step = subst (λ (r : Answer). Stepped d bits s.walk (Some r) c.step.new.self) e c.in-Some-step.ensures.moved in
    let ends = step.moved _ alike_self in
    called g.S.Source.bits c.args.self.now _ c.in-Some-step.answer (Ok None) e (
      sym c.loop-answer.invariant.1 ∙ skipped_done _ ends.before (held_none s.fault before none ∙ ends.same),
      held_none s.fault after none ∙ ends.still,
    )
    c.loop-answer.invariant.2 (record { description = c.loop-answer.invariant.3.description; source = c.loop-answer.invariant.3.source })

pub returns-in-Err : goal.returns-in-Err
returns-in-Err g c =
    let s = c.loop-answer.self in
    let d = description s.tables.now in
    let bits = g.S.Source.bits s.source in
    let before = walk_ahead d bits s.walk in
    let none = c.loop-answer.invariant.0 in
    let fault = c.in-Err.fault in
    let e : c.in-Some-step.answer ≡ Err fault = c.in-Err.is in
    let step = subst (λ (r : Answer). Stepped d bits s.walk (Some r) c.step.new.self) e c.in-Some-step.ensures.moved in
    let m = step.moved _ alike_self in
    called g.S.Source.bits c.args.self.now _ c.in-Some-step.answer (Err fault) e
    (sym c.loop-answer.invariant.1 ∙ skipped_stop _ fault m.before (held_none s.fault before none ∙ m.same), refl)
    c.loop-answer.invariant.2 (record { description = c.loop-answer.invariant.3.description; source = c.loop-answer.invariant.3.source })

pub loop-answer-preserved : goal.loop-answer-preserved
loop-answer-preserved g c =
    let s = c.loop-answer.self in
    let d = description s.tables.now in
    let bits = g.S.Source.bits s.source in
    let before = walk_ahead d bits s.walk in
    let after = walk_ahead d bits c.step.new.self in
    let none = c.loop-answer.invariant.0 in
    let m = c.in_default-step.ensures.moved.moved _ alike_self in (
      none,
      sym (skipped_pass (held s.fault before) (held s.fault after) m.before (held_none s.fault before none ∙ m.same ∙ ap (λ (t : Run (Unit {0})). passed m.before (pass t)) (sym (held_none s.fault after none)))) ∙ c.loop-answer.invariant.1,
      c.loop-answer.invariant.2,
      record { description = c.loop-answer.invariant.3.description; source = c.loop-answer.invariant.3.source },
    )

pub loop-answer-smaller : goal.loop-answer-smaller
loop-answer-smaller g c =
    let s = c.loop-answer.self in
    let d = description s.tables.now in
    let bits = g.S.Source.bits s.source in
    let before = walk_ahead d bits s.walk in
    let after = walk_ahead d bits c.step.new.self in
    let none = c.loop-answer.invariant.0 in
    let m = c.in_default-step.ensures.moved.moved _ alike_self in
    fewer_passed m.before (held s.fault before) (held s.fault after) (held_none s.fault before none ∙ m.same ∙ ap (λ (t : Run (Unit {0})). passed m.before (pass t)) (sym (held_none s.fault after none)))

pub returns-in-Some : goal.returns-in-Some
returns-in-Some g c =
    let s = c.args.self.now in
    let f = c.in-Some.fault in
    let e = held_some s.fault f (walk_ahead (description s.tables.now) (g.S.Source.bits s.source) s.walk) c.in-Some.is in
    called g.S.Source.bits s s (Err f) (Err f) refl (skipped_stop _ f 0 e, e) refl (kept g.S.Source.bits s)
