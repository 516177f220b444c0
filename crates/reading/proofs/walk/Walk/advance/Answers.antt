use Rattle.table.specs.Description.{description}
use Rattle.objects.proofs.Alikes.{alike_self}
use Rattle.objects.proofs.Passing.{fewer_passed}
use Rattle.reading.specs.Walks.{walk_ahead}
use Rattle.reading.proofs.Taking.{silent_none, silent_more, last_answer}
use Rattle.reading.proofs.walk.Walk.advance.Goals as goal

pub loop-answer-init : goal.loop-answer-init
loop-answer-init g c =
    silent_none (description c.args.tables.now) (g.S.Source.bits c.args.source.now) c.args.self.now c.requires.sound c.requires.enclosed

pub step-requires-clause-sound : goal.step-requires-clause-sound
step-requires-clause-sound g c = c.loop-answer.invariant.sound

pub returns-in-Some : goal.returns-in-Some
returns-in-Some g c =
    last_answer (description c.args.tables.now) (g.S.Source.bits c.args.source.now) c.args.self.now c.loop-answer.self c.step.new.self
    c.loop-answer.invariant c.in-Some.answer c.in-Some.ensures.moved c.in-Some.ensures.leaves

pub loop-answer-smaller : goal.loop-answer-smaller
loop-answer-smaller g c =
    let d = description c.args.tables.now in
    let bits = g.S.Source.bits c.args.source.now in
    let m = c.in_default.ensures.moved.moved bits alike_self in
    fewer_passed m.before (walk_ahead d bits c.loop-answer.self) (walk_ahead d bits c.step.new.self) m.same

pub loop-answer-preserved : goal.loop-answer-preserved
loop-answer-preserved g c =
    silent_more (description c.args.tables.now) (g.S.Source.bits c.args.source.now) c.args.self.now c.loop-answer.self c.step.new.self
    c.loop-answer.invariant c.in_default.ensures.moved c.in_default.ensures.leaves
