use Rattle.std.proofs.Common.{Option, Ok, subst}
use Rattle.rules.specs.declared.items.Item.{Item}
use Rattle.reading.specs.Calls.{NextCalled}
use Rattle.reading.specs.Reads.{ahead}
use Rattle.embed.proofs.Counting.{taking_starts, taking_goes, taken_end, taken_fault}
use Rattle.embed.proofs.folds.read.Goals as goal

pub loop-items-init : goal.loop-items-init
loop-items-init g c = rw c.begin-fold.ensures (taking_starts g.F.Fold.step g.F.Fold.start (ahead g.S.Source.bits c.args.reading))

pub loop-items-preserved : goal.loop-items-preserved
loop-items-preserved g c =
    let bits = g.S.Source.bits in
    let f = g.F.Fold in
    let l = c.loop-items in
    let called = subst (λ (o : Option Item). NextCalled bits l.reading (Ok o) c.next.new.self) c.in-Ok-Some.field-0-is c.in-Ok-Some.ensures in
    taking_goes f.step f.start (ahead bits c.args.reading) l.items (f.so_far l.fold) (ahead bits l.reading) l.invariant c.in-Ok-Some.item (ahead bits c.next.new.self) (f.so_far c.with-fold.result) called.told c.with-fold.ensures

pub returns-in-Ok-None : goal.returns-in-Ok-None
returns-in-Ok-None g c small =
    let bits = g.S.Source.bits in
    let f = g.F.Fold in
    let l = c.loop-items in
    let called = subst (λ (o : Option Item). NextCalled bits l.reading (Ok o) c.next.new.self) c.in-Ok-None.field-0-is c.in-Ok-None.ensures in
    taken_end f.step f.start (ahead bits c.args.reading) l.items (f.so_far l.fold) (ahead bits l.reading) l.invariant called.told.0

pub returns-in-Err : goal.returns-in-Err
returns-in-Err g c small =
    let bits = g.S.Source.bits in
    let f = g.F.Fold in
    let l = c.loop-items in
    rw c.from.ensures (taken_fault f.step f.start (ahead bits c.args.reading) l.items (f.so_far l.fold) (ahead bits l.reading) l.invariant c.in-Err.fault c.in-Err.ensures.told.0)
