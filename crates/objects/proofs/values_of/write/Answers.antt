use Rattle.std.proofs.Common.{arith, to_z-of_z}
use Rattle.objects.proofs.Names.{write-at}
use Rattle.objects.proofs.values_of.write.Goals as goal

pub returns-then-name-gt0 : goal.returns-then-name-gt0
returns-then-name-gt0 c =
    let f = c.ranges.value in
    simp to_z-of_z (write-at c.args.names.now c.args.name c.args.value (omega arith) (omega arith))
