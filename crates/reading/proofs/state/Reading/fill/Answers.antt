use Rattle.std.proofs.Common.{◌≡◌, ◌+◌, ◌<◌, ◌≤◌, Bool, List, length, set, Ok, Option, sym, refl, ◌∙◌, subst, arith}
use Rattle.std.proofs.lemmas.List.{set-get_or}
use Rattle.rules.specs.declared.items.Item.{Item}
use Rattle.bits.specs.declared.source.Source.{Ghosts}
use Rattle.reading.specs.declared.state.Reading.{Reading}
use Rattle.reading.specs.Calls.{Keeps, NextCalled}
use Rattle.reading.specs.Reads.{ahead}
use Rattle.reading.proofs.Filling.{Filling, filling_starts, filling_goes, filled_full, filled_end, filled_refused, last_full, last_end, last_refused}
use Rattle.reading.proofs.state.Reading.fill.Goals as goal

both_keep : {S : Type 0} {g : Ghosts S} (bits : S → List Bool) (a b c : Reading S g) → Keeps bits a b → Keeps bits b c → Keeps bits a c
both_keep bits a b c x y = record { description = y.description ∙ x.description; source = y.source ∙ x.source }

pub loop-count-init : goal.loop-count-init
loop-count-init g c =
    (filling_starts (ahead g.S.Source.bits c.args.self.now) c.args.self.now.last c.args.table.now, record { description = refl; source = refl })

pub loop-count-preserved : goal.loop-count-preserved
loop-count-preserved g c =
    let bits = g.S.Source.bits in
    let a = ahead bits c.args.self.now in
    let b = ahead bits c.loop-count.self in
    let s = c.next.new.self in
    let inv = c.loop-count.invariant.0 in
    let room : c.loop-count.count < length c.args.table.now = omega (arith, inv.long) in
    let called = subst (λ (o : Option Item). NextCalled bits c.loop-count.self (Ok o) s) c.in-Ok-Some.field-0-is c.in-Ok-Some.ensures in
    let goes = filling_goes a c.args.self.now.last c.args.table.now c.loop-count.count c.loop-count.table b c.loop-count.self.last inv room c.in-Ok-Some.item (ahead bits s) called.told in (
      subst (λ (o : Option Item). Filling a c.args.self.now.last c.args.table.now (c.loop-count.count + 1) (set c.loop-count.table c.loop-count.count c.in-Ok-Some.item) (ahead bits s) o) (sym called.last) goes,
      both_keep bits c.args.self.now c.loop-count.self s c.loop-count.invariant.1 called.keeps,
    )

pub returns-in-Ok-None : goal.returns-in-Ok-None
returns-in-Ok-None g c =
    let bits = g.S.Source.bits in
    let a = ahead bits c.args.self.now in
    let b = ahead bits c.loop-count.self in
    let s = c.next.new.self in
    let l = c.loop-count.self.last in
    let inv = c.loop-count.invariant.0 in
    let room : c.loop-count.count < length c.args.table.now = omega (arith, inv.long) in
    let called = subst (λ (o : Option Item). NextCalled bits c.loop-count.self (Ok o) s) c.in-Ok-None.field-0-is c.in-Ok-None.ensures in
    rw set-get_or (record {
      fills = filled_end a c.args.self.now.last c.args.table.now c.loop-count.count c.loop-count.table b l inv room (ahead bits s) called.told.0 called.told.1;
      last = called.last ∙ last_end a c.args.self.now.last c.args.table.now c.loop-count.count c.loop-count.table b l inv room called.told.0;
      keeps = both_keep bits c.args.self.now c.loop-count.self s c.loop-count.invariant.1 called.keeps;
    })

pub returns-in-Err : goal.returns-in-Err
returns-in-Err g c =
    let bits = g.S.Source.bits in
    let a = ahead bits c.args.self.now in
    let b = ahead bits c.loop-count.self in
    let s = c.next.new.self in
    let l = c.loop-count.self.last in
    let inv = c.loop-count.invariant.0 in
    let room : c.loop-count.count < length c.args.table.now = omega (arith, inv.long) in
    let called = c.in-Err.ensures in
    rw set-get_or (record {
      fills = filled_refused a c.args.self.now.last c.args.table.now c.loop-count.count c.loop-count.table b l inv room c.in-Err.fault (ahead bits s) called.told.0 called.told.1;
      last = called.last ∙ last_refused a c.args.self.now.last c.args.table.now c.loop-count.count c.loop-count.table b l inv room c.in-Err.fault called.told.0;
      keeps = both_keep bits c.args.self.now c.loop-count.self s c.loop-count.invariant.1 called.keeps;
    })

pub returns : goal.returns
returns g c =
    let bits = g.S.Source.bits in
    let a = ahead bits c.args.self.now in
    let b = ahead bits c.loop-count.self in
    let l = c.loop-count.self.last in
    let inv = c.loop-count.invariant.0 in
    let full : length c.args.table.now ≤ c.loop-count.count = omega (arith, inv.long) in
    let e : length c.loop-count.table ≡ c.loop-count.count = omega (arith, inv.long) in
    rw e (record {
      fills = filled_full a c.args.self.now.last c.args.table.now c.loop-count.count c.loop-count.table b l inv full;
      last = last_full a c.args.self.now.last c.args.table.now c.loop-count.count c.loop-count.table b l inv full;
      keeps = c.loop-count.invariant.1;
    })
