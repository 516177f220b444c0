use Rattle.std.proofs.Common.{◌≡◌, ℕ, ◌*◌, true, length, Some, None, Ok, Err, sym, refl, ap, ◌∙◌, subst, arith}
use Rattle.table.specs.Description.{description}
use Rattle.objects.proofs.Alikes.{alike_self}
use Rattle.reading.specs.Reads.{held}
use Rattle.reading.specs.Walks.{Answer, walk_ahead, Stepped}
use Rattle.reading.proofs.Enclosing.{stepped_sound}
use Rattle.objects.proofs.Passing.{fewer_passed}
use Rattle.reading.proofs.Nexts.{skipped_pass}
use Rattle.streaming.specs.Calls.{ahead, covers}
use Rattle.streaming.proofs.Pulls.{page_of, step_over, step_silent, told_after}
use Rattle.streaming.proofs.state.Streaming.pull.Goals as goal

pub invariant_of-self : goal.invariant_of-self
invariant_of-self c =
    let s = c.loop-self.self in
    record {
      readable = s.readable;
      sound = stepped_sound (description s.tables.now) (page_of c.args.page.now) s.walk c.step.result c.step.new.self c.step.ensures.moved;
      few = s.few;
    }

pub invariant_of-self-in-Err : goal.invariant_of-self-in-Err
invariant_of-self-in-Err c =
    let s = c.loop-self.self in
    record {
      readable = s.readable;
      sound = stepped_sound (description s.tables.now) (page_of c.args.page.now) s.walk c.step.result c.step.new.self c.step.ensures.moved;
      few = s.few;
    }

pub returns-in-Ok : goal.returns-in-Ok
returns-in-Ok c =
    let s = c.loop-self.self in
    let d = description s.tables.now in
    let p = c.args.page.now in
    let kept = c.loop-self.invariant.1 in
    let covered : covers s p.first (length p.bytes.now) ≡ true = sym (c.is_enough.ensures ∙ λ i. covers s (c.first.ensures i) (c.count.ensures i)) ∙ c.loop-self-test.true in
    let step = subst (λ (r : Answer). Stepped d (page_of p) s.walk (Some r) c.step.new.self) c.in-Ok.is c.in-Some.ensures.moved in
    record {
      comes = λ B has holds.
          told_after d B s.walk c.step.new.self s.fault s.fault c.loop-self.invariant.0 (ahead B c.args.self.now) (Ok c.in-Ok.item) c.loop-self.invariant.0
          (c.loop-self.invariant.2 B has holds)
          (step_over s p (Some (Ok c.in-Ok.item)) c.step.new.self (c.requires.same ∙ sym kept.total) covered step B (has ∙ ap (λ n. 8 * n) (sym kept.total)) holds);
      waits = λ e. let z : ◌≡◌ {A = ℕ} 0 1 = cc in absurd (omega arith);
      keeps = record { description = kept.description; total = kept.total };
    }

pub returns-in-Err : goal.returns-in-Err
returns-in-Err c =
    let s = c.loop-self.self in
    let d = description s.tables.now in
    let p = c.args.page.now in
    let kept = c.loop-self.invariant.1 in
    let covered : covers s p.first (length p.bytes.now) ≡ true = sym (c.is_enough.ensures ∙ λ i. covers s (c.first.ensures i) (c.count.ensures i)) ∙ c.loop-self-test.true in
    let step = subst (λ (r : Answer). Stepped d (page_of p) s.walk (Some r) c.step.new.self) c.in-Err.is c.in-Some.ensures.moved in
    record {
      comes = λ B has holds.
          told_after d B s.walk c.step.new.self s.fault (Some c.in-Err.fault) c.loop-self.invariant.0 (ahead B c.args.self.now) (Err c.in-Err.fault) refl
          (c.loop-self.invariant.2 B has holds)
          (step_over s p (Some (Err c.in-Err.fault)) c.step.new.self (c.requires.same ∙ sym kept.total) covered step B (has ∙ ap (λ n. 8 * n) (sym kept.total)) holds);
      waits = λ e. let z : ◌≡◌ {A = ℕ} 0 1 = cc in absurd (omega arith);
      keeps = record { description = kept.description; total = kept.total };
    }

pub loop-self-smaller : goal.loop-self-smaller
loop-self-smaller c =
    let s = c.loop-self.self in
    let d = description s.tables.now in
    let bits = page_of c.args.page.now in
    let none = c.loop-self.invariant.0 in
    let m = c.in_default.ensures.moved.moved bits alike_self in
    fewer_passed m.before (held s.fault (walk_ahead d bits s.walk)) (held s.fault (walk_ahead d bits c.step.new.self))
    (step_silent d bits s.walk c.step.new.self s.fault s.fault none none m)

pub loop-self-preserved : goal.loop-self-preserved
loop-self-preserved c =
    let s = c.loop-self.self in
    let d = description s.tables.now in
    let p = c.args.page.now in
    let none = c.loop-self.invariant.0 in
    let kept = c.loop-self.invariant.1 in
    let covered : covers s p.first (length p.bytes.now) ≡ true = sym (c.is_enough.ensures ∙ λ i. covers s (c.first.ensures i) (c.count.ensures i)) ∙ c.loop-self-test.true in (
      none,
      record { description = kept.description; total = kept.total },
      λ B has holds.
          let m = step_over s p None c.step.new.self (c.requires.same ∙ sym kept.total) covered c.in_default.ensures.moved B (has ∙ ap (λ n. 8 * n) (sym kept.total)) holds in
          c.loop-self.invariant.2 B has holds
          ∙ skipped_pass (held s.fault (walk_ahead d B s.walk)) (held s.fault (walk_ahead d B c.step.new.self)) m.before
          (step_silent d B s.walk c.step.new.self s.fault s.fault none none m),
    )
