use Rattle.std.proofs.Common.{◌+◌, ◌*◌, vec_items, arith}
use Rattle.table.specs.Words.{words_at}
use Rattle.table.proofs.Rows.{pushed}
use Rattle.table.proofs.record.read_table.Goals as goal

pub loop-i-preserved : goal.loop-i-preserved
loop-i-preserved g c =
    let w = c.FIELDS-step.ensures in
    let r = simp w at c.read.ensures in (
      pushed (λ i. g.R.Record.decoded (words_at c.args.bytes.now (c.args.at + i * (2 * g.R.Record.FIELDS)) g.R.Record.FIELDS))
          c.loop-i.i (vec_items c.loop-i.table) (vec_items c.push.new.self) c.read.result c.loop-i.invariant.0 r c.in_ok-push.ensures.items,
      omega (arith, c.loop-i.invariant.1, c.in_ok-push.ensures.len),
    )
