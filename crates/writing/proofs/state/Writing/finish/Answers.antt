use Rattle.std.proofs.Common.{◌≡◌, true, length, ◌∙◌, arith}
use Rattle.bits.specs.Bits.{bits_all, limited}
use Rattle.pending.specs.Trial.{trial_bits}
use Rattle.writing.proofs.Ended.{may_end, zeros_long, zeros_put}
use Rattle.writing.proofs.Readies.{short_of}
use Rattle.writing.proofs.Tried.{can_be_stored, stored_long}
use Rattle.writing.proofs.state.Writing.finish.Goals as goal

pub returns : goal.returns
returns c =
    let w = c.args.self in
    let old = c.args.buffer.now in
    let short = short_of w in
    let room = c.in_default.ensures.0 in
    let can = c.in_default.ensures.1 in
    let src = limited (trial_bits w.total w.total 0 0) in
    let long : length src ≡ w.total = zeros_long w.total short in
    let stores : c.store_bits.result ≡ true = c.store_bits.ensures.answer ∙ can_be_stored (length src) (length old) w.written w.total can.0 (omega arith) room in
    let stored = rw stores at c.store_bits.ensures.stored in
    record {
      room = room;
      may = may_end w can;
      description = c.give_up.ensures;
      within = can.0;
      ended = can.1;
      long = stored_long c.store_bits.new.buffer old src w.written w.total can.0 (omega arith) room stored;
      bits = stored ∙ zeros_put (bits_all 8 old) w.total w.written short can.0;
    }
