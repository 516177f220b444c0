use Rattle.std.proofs.Common.{arith}
use Rattle.table.specs.Description.{description}
use Rattle.streaming.proofs.Pulls.{from_near}
use Rattle.streaming.proofs.state.Streaming.wanted.Goals as goal

pub overflow_add-place : goal.overflow_add-place
overflow_add-place c = let s = c.args.self.now in let n = from_near (description s.tables.now) s.walk s.sound in omega (arith, c.place-place.ensures)

pub overflow_add-place-2 : goal.overflow_add-place-2
overflow_add-place-2 c = let s = c.args.self.now in let n = from_near (description s.tables.now) s.walk s.sound in omega (arith, c.place-place.ensures)
