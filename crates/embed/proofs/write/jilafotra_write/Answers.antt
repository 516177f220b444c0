use Rattle.std.proofs.Common.{refl, Ok, Err}
use Rattle.table.specs.Loading.{loaded}
use Rattle.embed.specs.Writing.{NotBegun, Written}
use Rattle.embed.proofs.Told.{file_told}
use Rattle.embed.proofs.write.jilafotra_write.Goals as goal

pub returns-in-Ok : goal.returns-in-Ok
returns-in-Ok c =
    file_told (NotBegun c.args.items.now c.args.length c.args.buffer.now c.write.result c.write.new.buffer)
    (Written c.args.items.now c.args.length c.args.buffer.now c.write.result c.write.new.buffer)
    (loaded c.args.description.now) (Ok c.in-Ok.checked) c.in-Ok.ensures c.write.ensures

pub returns-in-Err : goal.returns-in-Err
returns-in-Err c =
    rw c.from.ensures (file_told (NotBegun c.args.items.now c.args.length c.args.buffer.now _ c.args.buffer.now)
    (Written c.args.items.now c.args.length c.args.buffer.now _ c.args.buffer.now)
    (loaded c.args.description.now) (Err c.in-Err.fault) c.in-Err.ensures (refl, refl))
