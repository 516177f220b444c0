use Rattle.std.proofs.Common.{◌≡◌, ◌∙◌, arith}
use Rattle.pending.proofs.Codes.{size_one, size_two, size_three, size_four}
use Rattle.pending.proofs.headers.size_bits.Goals as goal

pub returns-then-size-lt-ONE_BYTE : goal.returns-then-size-lt-ONE_BYTE
returns-then-size-lt-ONE_BYTE c =
    rw c.byte-one.ensures (record { bits = size_one c.args.size c.if-size-lt-ONE_BYTE.true; width = omega arith; small = omega arith })

pub returns-then-size-lt-TWO_BYTES : goal.returns-then-size-lt-TWO_BYTES
returns-then-size-lt-TWO_BYTES c =
    let two = rw (c.byte.ensures, c.byte-one.ensures) at c.joined-two.ensures.bits in
    let w : c.joined-two.result.width ≡ 16 = rw (c.byte.ensures, c.byte-one.ensures) at c.joined-two.ensures.width in
    record { bits = two ∙ size_two c.args.size c.if-size-lt-ONE_BYTE.false c.if-size-lt-TWO_BYTES.true; width = omega arith; small = c.joined-two.ensures.small }

pub returns-then-size-lt-THREE_BYTES : goal.returns-then-size-lt-THREE_BYTES
returns-then-size-lt-THREE_BYTES c =
    let two = rw (c.byte.ensures, c.byte-one.ensures) at c.joined-two.ensures.bits in
    let w : c.joined-two.result.width ≡ 16 = rw (c.byte.ensures, c.byte-one.ensures) at c.joined-two.ensures.width in
    let three = rw (c.byte-2.ensures, two) at c.joined-three.ensures.bits in
    let x : c.joined-three.result.width ≡ 24 = rw (c.byte-2.ensures, w) at c.joined-three.ensures.width in
    record { bits = three ∙ size_three c.args.size c.if-size-lt-TWO_BYTES.false c.if-size-lt-THREE_BYTES.true; width = omega arith; small = c.joined-three.ensures.small }

pub returns : goal.returns
returns c =
    let two = rw (c.byte.ensures, c.byte-one.ensures) at c.joined-two.ensures.bits in
    let w : c.joined-two.result.width ≡ 16 = rw (c.byte.ensures, c.byte-one.ensures) at c.joined-two.ensures.width in
    let three = rw (c.byte-2.ensures, two) at c.joined-three.ensures.bits in
    let x : c.joined-three.result.width ≡ 24 = rw (c.byte-2.ensures, w) at c.joined-three.ensures.width in
    let four = rw (c.byte-3.ensures, three) at c.joined.ensures.bits in
    let y : c.joined.result.width ≡ 32 = rw (c.byte-3.ensures, x) at c.joined.ensures.width in
    record { bits = four ∙ size_four c.args.size c.if-size-lt-THREE_BYTES.false; width = omega arith; small = c.joined.ensures.small }
