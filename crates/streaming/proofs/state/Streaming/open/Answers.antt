use Rattle.std.proofs.Common.{◌≡◌, ◌≤◌, length, vec_items, vec_len, arith}
use Rattle.table.specs.Description.{description}
use Rattle.reading.proofs.Heights.{readable, names_few}
use Rattle.streaming.proofs.Handed.{hands_out}
use Rattle.streaming.proofs.state.Streaming.open.Goals as goal

pub returns-then-bytes-clause-law : goal.returns-then-bytes-clause-law
returns-then-bytes-clause-law c = hands_out

pub returns-clause-law : goal.returns-clause-law
returns-clause-law c = hands_out

pub begin-requires-clause-readable : goal.begin-requires-clause-readable
begin-requires-clause-readable c =
    let l = c.tables.result.now in
    let few = names_few (vec_len l.classes) (vec_len l.names) (vec_len l.extensions) (vec_len l.lines) (vec_len l.nodes) (vec_len l.maps) (vec_len l.rows) l.limited in
    let same : vec_len l.names ≡ length (vec_items l.names) = l.names.ok.0 in
    let bound : length (vec_items l.names) ≤ 128 = omega arith in
    readable (description l) c.tables.ensures.faultless bound
