use Rattle.std.proofs.Common.{◌≡◌, ℕ, refl, arith}
use Rattle.table.specs.Description.{description}
use Rattle.reading.specs.Walks.{walk_ahead}
use Rattle.streaming.proofs.Pulls.{told_again}
use Rattle.streaming.proofs.state.Streaming.next.Goals as goal

pub returns-in-Some : goal.returns-in-Some
returns-in-Some c =
    let s = c.args.self.now in
    record {
      comes = λ B has holds. told_again s.fault c.in-Some.fault (walk_ahead (description s.tables.now) B s.walk) c.in-Some.is;
      waits = λ e. let z : ◌≡◌ {A = ℕ} 0 1 = cc in absurd (omega arith);
      keeps = record { description = refl; total = refl };
    }
