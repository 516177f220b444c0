use Rattle.std.proofs.Common.{◌≡◌, ◌<◌, ◌≤◌, length, Option, Ok, subst, arith}
use Rattle.std.proofs.lemmas.List.{set-get_or}
use Rattle.rules.specs.declared.items.Item.{Item}
use Rattle.reading.specs.Calls.{NextCalled}
use Rattle.reading.specs.Reads.{ahead}
use Rattle.embed.proofs.Storing.{storing_starts, storing_goes, stored_end, stored_fault, stored_full}
use Rattle.embed.proofs.read.fill.Goals as goal

pub loop-count-init : goal.loop-count-init
loop-count-init g c = storing_starts (ahead g.S.Source.bits c.args.reading) c.args.table.now

pub loop-count-preserved : goal.loop-count-preserved
loop-count-preserved g c =
    let bits = g.S.Source.bits in
    let inv = c.loop-count.invariant in
    let room : c.loop-count.count < length c.args.table.now = omega (arith, inv.long) in
    let called = subst (λ (o : Option Item). NextCalled bits c.loop-count.reading (Ok o) c.next.new.self) c.in-Ok-Some.field-0-is c.in-Ok-Some.ensures in
    rw c.from.ensures (storing_goes (ahead bits c.args.reading) c.args.table.now c.loop-count.count c.loop-count.table (ahead bits c.loop-count.reading) inv c.in-Ok-Some.item (ahead bits c.next.new.self) room called.told)

pub returns-in-Ok-None : goal.returns-in-Ok-None
returns-in-Ok-None g c =
    let bits = g.S.Source.bits in
    let inv = c.loop-count.invariant in
    let room : c.loop-count.count < length c.args.table.now = omega (arith, inv.long) in
    let called = subst (λ (o : Option Item). NextCalled bits c.loop-count.reading (Ok o) c.next.new.self) c.in-Ok-None.field-0-is c.in-Ok-None.ensures in
    rw (c.ended.ensures, set-get_or) (stored_end (ahead bits c.args.reading) c.args.table.now c.loop-count.count c.loop-count.table (ahead bits c.loop-count.reading) inv room called.told.0)

pub returns-in-Err : goal.returns-in-Err
returns-in-Err g c =
    let bits = g.S.Source.bits in
    let inv = c.loop-count.invariant in
    let room : c.loop-count.count < length c.args.table.now = omega (arith, inv.long) in
    rw (c.ended-in-Err.ensures, c.from-in-Err.ensures, set-get_or)
    (stored_fault (ahead bits c.args.reading) c.args.table.now c.loop-count.count c.loop-count.table (ahead bits c.loop-count.reading) inv c.in-Err.fault room c.in-Err.ensures.told.0)

pub returns : goal.returns
returns g c =
    let bits = g.S.Source.bits in
    let inv = c.loop-count.invariant in
    let full : length c.args.table.now ≤ c.loop-count.count = omega (arith, inv.long) in
    let e : length c.loop-count.table ≡ c.loop-count.count = omega (arith, inv.long, inv.few) in
    rw e (stored_full (ahead bits c.args.reading) c.args.table.now c.loop-count.count c.loop-count.table (ahead bits c.loop-count.reading) inv full)
