use Rattle.std.proofs.Common.{◌+◌, sym, ap, ◌∙◌, arith}
use Rattle.reading.proofs.BitAt.{size_none, size_last, size_more}
use Rattle.reading.proofs.positions.+size_length.Goals as goal

pub returns-then-bytes-eq0 : goal.returns-then-bytes-eq0
returns-then-bytes-eq0 g t c = record { value = size_none (g.S.Source.bits c.args.source.now) c.args.bytes c.args.p (omega arith); bound = omega arith }

pub returns-then-not-bit_at : goal.returns-then-not-bit_at
returns-then-not-bit_at g t c =
    record { value = size_last (g.S.Source.bits c.args.source.now) c.args.bytes c.args.p (omega arith) (sym c.if-not-bit_at.ensures); bound = omega arith }

pub returns : goal.returns
returns g t c =
    record {
      value = ap (λ n. 8 + n) c.size_length.ensures.value ∙ size_more (g.S.Source.bits c.args.source.now) c.args.bytes c.args.p (omega arith) (sym c.if-not-bit_at.ensures);
      bound = omega (arith, c.size_length.ensures.bound);
    }
