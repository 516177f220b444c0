use Rattle.std.proofs.Common.{◌≡◌, ◌-◌, ◌/◌, ◌%◌, ◌≤◌, length, take, drop, ap, ◌∙◌, arith}
use Rattle.std.proofs.lemmas.List.{take-take, length-take, length-drop}
use Rattle.bits.specs.Bits.{number, part}
use Rattle.bits.specs.Units.{units_bits}
use Rattle.bits.proofs.UnitBits.{placed_in, first_in, first_within, rest_within, near_within, got_units}
use Rattle.bits.proofs.units.UnitsSource.get.Goals as goal

pub offset_bounds-self-p : goal.offset_bounds-self-p
offset_bounds-self-p g c =
    first_in g.U.Unit.BITS g.U.Unit.value c.args.self.now.units.now c.from.result c.args.p c.args.n c.in_ok-check_place.field-0 c.BITS.result c.BITS.ensures (c.from.ensures ∙ c.length.ensures) c.in_ok-check_place.ensures

pub slice_bounds-rest-count : goal.slice_bounds-rest-count
slice_bounds-rest-count g c =
    first_in g.U.Unit.BITS g.U.Unit.value c.args.self.now.units.now c.from.result c.args.p c.args.n c.in_ok-check_place.field-0 c.BITS.result c.BITS.ensures (c.from.ensures ∙ c.length.ensures) c.in_ok-check_place.ensures

pub slice_bounds-rest-start : goal.slice_bounds-rest-start
slice_bounds-rest-start g c =
    first_in g.U.Unit.BITS g.U.Unit.value c.args.self.now.units.now c.from.result c.args.p c.args.n c.in_ok-check_place.field-0 c.BITS.result c.BITS.ensures (c.from.ensures ∙ c.length.ensures) c.in_ok-check_place.ensures

pub returns-then-rest-reach : goal.returns-then-rest-reach
returns-then-rest-reach g c =
    let xs = c.args.self.now.units.now in
    let w = g.U.Unit.BITS in
    let value = g.U.Unit.value in
    let p = c.args.p in
    let n = c.args.n in
    let at = placed_in w g.U.Unit.value xs c.from.result c.args.p c.args.n c.in_ok-check_place.field-0 (c.from.ensures ∙ c.length.ensures) c.in_ok-check_place.ensures in
    let first = p / w in
    let within = near_within w p n g.met.U.Unit.width at.0 in
    let enough : 64 / w ≤ length (take (length xs - first) (drop first xs)) = rw (c.BITS.ensures, c.BITS-2.ensures) at c.if-rest-reach.true in
    let count : length (take (length xs - first) (drop first xs)) ≡ length xs - first = rw (length-take, length-drop) (omega arith) in
    let few : 64 / w ≤ length xs - first = rw count at enough in
    let read : c.read.result ≡ number (part (units_bits w value (take (64 / w) (take (length xs - first) (drop first xs)))) (p % w) n) =
    rw (c.BITS.ensures, c.BITS-2.ensures, c.BITS-then-rest-reach.ensures) at c.read.ensures in
    got_units w value xs p n (64 / w) c.read.result at.0 at.1 within (read ∙ ap (λ t. number (part (units_bits w value t) (p % w) n)) (take-take (64 / w) (length xs - first) (drop first xs) (omega arith)))

pub read_last-requires-clause-inside : goal.read_last-requires-clause-inside
read_last-requires-clause-inside g c =
    let xs = c.args.self.now.units.now in
    let w = g.U.Unit.BITS in
    let value = g.U.Unit.value in
    let p = c.args.p in
    let n = c.args.n in
    let at = placed_in w g.U.Unit.value xs c.from.result c.args.p c.args.n c.in_ok-check_place.field-0 (c.from.ensures ∙ c.length.ensures) c.in_ok-check_place.ensures in
    let first = first_within w p n (length xs) at.1 in
    let count : length (take (length xs - p / w) (drop (p / w) xs)) ≡ length xs - p / w = rw (length-take, length-drop) (omega arith) in
    rw (c.BITS.ensures, c.BITS-3.ensures, count) (rest_within w p n (length xs) first at.1)

pub returns : goal.returns
returns g c =
    let xs = c.args.self.now.units.now in
    let w = g.U.Unit.BITS in
    let value = g.U.Unit.value in
    let p = c.args.p in
    let n = c.args.n in
    let at = placed_in w g.U.Unit.value xs c.from.result c.args.p c.args.n c.in_ok-check_place.field-0 (c.from.ensures ∙ c.length.ensures) c.in_ok-check_place.ensures in
    let first = first_within w p n (length xs) at.1 in
    got_units w value xs p n (length xs - p / w) c.read_last.result at.0 at.1 (rest_within w p n (length xs) first at.1) (rw (c.BITS.ensures, c.BITS-3.ensures) at c.read_last.ensures)
