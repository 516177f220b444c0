use Rattle.std.proofs.Common.{take}
use Rattle.embed.specs.Writing.{Took}
use Rattle.embed.proofs.write.put_all.Given as goal

abbrev pub invariant-loop-count : goal.invariant-loop-count
invariant-loop-count l = Took l.initial.writing l.initial.buffer l.writing l.buffer (take l.count l.items)
