use Rattle.std.proofs.Common.{sym, ◌∙◌}
use Rattle.table.proofs.Files.{faultless}
use Rattle.table.proofs.load.load.Goals as goal

pub read_tables-requires : goal.read_tables-requires
read_tables-requires c =
    rw c.counts_at.ensures (faultless c.args.bytes.now (sym c.file_fault.ensures ∙ c.in_default.is))
