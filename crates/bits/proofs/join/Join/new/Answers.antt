use Rattle.std.proofs.Common.{◌++◌, arith}
use Rattle.std.proofs.lemmas.List.{length-append}
use Rattle.bits.specs.Bits.{limited-whole}
use Rattle.bits.proofs.join.Join.new.Goals as goal

pub returns : goal.returns
returns g c =
    let both = g.S.Source.bits c.args.front ++ g.T.Source.bits c.args.back in
    let few = g.T.Source.short c.args.back in
    (limited-whole both (rw length-append (omega arith)), omega arith)
