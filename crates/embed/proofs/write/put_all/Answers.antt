use Rattle.embed.specs.Writing.{none}
use Rattle.embed.proofs.Written.{took_more, stopped_at}
use Rattle.embed.proofs.write.put_all.Goals as goal

pub loop-count-init : goal.loop-count-init
loop-count-init c = none

pub returns-in-Err : goal.returns-in-Err
returns-in-Err c =
    stopped_at c.args.writing.now c.args.buffer.now c.args.items.now c.loop-count.count c.loop-count.writing c.put.new.writing c.loop-count.buffer c.put.new.buffer _ c.in-Err.refusal
    c.loop-count-test.true c.loop-count.invariant c.in-Err.ensures

pub loop-count-preserved : goal.loop-count-preserved
loop-count-preserved c =
    took_more c.args.writing.now c.args.buffer.now c.args.items.now c.loop-count.count c.loop-count.writing c.put.new.writing c.loop-count.buffer c.put.new.buffer _
    c.loop-count-test.true c.loop-count.invariant c.in_default.ensures
