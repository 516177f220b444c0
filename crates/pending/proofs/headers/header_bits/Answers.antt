use Rattle.std.proofs.Common.{◌≡◌, ◌^◌, ◌<◌, nat_abs, ◌∙◌, arith, to_z-of_z}
use Rattle.std.proofs.lemmas.Nat.{one_shl}
use Rattle.rules.specs.Steps.{id_width}
use Rattle.pending.proofs.Codes.{header_plain, header-sized}
use Rattle.pending.proofs.headers.header_bits.Goals as goal

pub returns-then-greatest-eq0 : goal.returns-then-greatest-eq0
returns-then-greatest-eq0 c =
    let f = c.ranges.value in
    let id : c.unsigned_abs-id.result ≡ nat_abs c.args.value = simp to_z-of_z at c.unsigned_abs-id.ensures.value in
    let w : c.from.result ≡ id_width c.args.declared = c.from.ensures ∙ c.id_width-width.ensures.value in
    let small : nat_abs c.args.value < 2 ^ id_width c.args.declared = rw (one_shl c.id_width-width.result 64 (omega arith), id, c.id_width-width.ensures.value) at c.if-id-width.false in
    rw (id, w) (record {
      bits = header_plain c.args.declared c.args.greatest (nat_abs c.args.value) c.args.size c.if-greatest-eq0.true;
      short = omega arith;
      small = small;
      sense = (small, c.if-size-ge-FOUR_BYTES.false);
    })

pub returns : goal.returns
returns c =
    let f = c.ranges.value in
    let id : c.unsigned_abs-id.result ≡ nat_abs c.args.value = simp to_z-of_z at c.unsigned_abs-id.ensures.value in
    let w : c.from.result ≡ id_width c.args.declared = c.from.ensures ∙ c.id_width-width.ensures.value in
    let small : nat_abs c.args.value < 2 ^ id_width c.args.declared = rw (one_shl c.id_width-width.result 64 (omega arith), id, c.id_width-width.ensures.value) at c.if-id-width.false in
    let both = rw (id, w, c.size_bits.ensures.bits) at c.joined.ensures.bits in
    record {
      bits = both ∙ header-sized c.args.declared c.args.greatest (nat_abs c.args.value) c.args.size (omega arith);
      short = omega arith;
      small = c.joined.ensures.small;
      sense = (small, c.if-size-ge-FOUR_BYTES.false);
    }
