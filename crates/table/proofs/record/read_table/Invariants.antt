use Rattle.std.proofs.Common.{◌≡◌, vec_items, vec_len}
use Rattle.table.specs.Words.{records_at}
use Rattle.table.proofs.record.read_table.Given as goal

abbrev pub invariant-loop-i : goal.invariant-loop-i
invariant-loop-i g l =
    (vec_items l.table ≡ records_at g.R.Record.decoded g.R.Record.FIELDS l.bytes l.at l.i)
    × (vec_len l.table ≡ l.i)
