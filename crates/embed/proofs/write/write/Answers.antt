use Rattle.std.proofs.Common.{refl}
use Rattle.table.specs.Description.{description}
use Rattle.embed.specs.Writing.{unopened, refused, ended}
use Rattle.embed.proofs.ReadBack.{reads_back}
use Rattle.embed.proofs.write.write.Goals as goal

pub returns-in-Ok-put_all : goal.returns-in-Ok-put_all
returns-in-Ok-put_all c =
    let d = description c.args.checked.loaded in
    let called = c.in-Ok.ensures.called in
    let took = c.in-Ok-put_all.ensures in
    ended called.0 called.1 took c.finish.ensures
    (reads_back d c.args.length c.in-Ok.writing c.args.buffer.now called.1 (c.in-Ok.ensures.law d c.args.length) c.put_all.new.writing c.put_all.new.buffer c.args.items.now took
    c.in-Ok.duty c.finish.new.buffer c.finish.result c.finish.ensures)

pub returns-in-Err-put_all : goal.returns-in-Err-put_all
returns-in-Err-put_all c = refused c.in-Ok.ensures.called.0 c.in-Ok.ensures.called.1 c.in-Err-put_all.ensures c.refused.ensures

pub returns-in-Err : goal.returns-in-Err
returns-in-Err c = unopened c.in-Err.ensures.called.0 c.refused-in-Err.ensures refl
