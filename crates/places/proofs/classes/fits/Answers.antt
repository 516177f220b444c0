use Rattle.std.proofs.Common.{◌^◌, ◌≤◌, sym, ◌∙◌, arith, pow_mono, lt-ltb, le-leb}
use Rattle.std.proofs.lemmas.Nat.{one_shl}
use Rattle.places.specs.Classes.{fits}
use Rattle.places.proofs.classes.fits.Goals as goal

pub returns-then-width-ge16 : goal.returns-then-width-ge16
unfolding fits
returns-then-width-ge16 c =
    let m : 2 ^ 16 ≤ 2 ^ c.args.width = pow_mono c.if-width-ge16.true in
    le-leb 16 c.args.width c.if-width-ge16.true ∙ sym (lt-ltb c.args.v (2 ^ c.args.width) (omega arith))

pub returns-else-width-ge16 : goal.returns-else-width-ge16
unfolding fits
returns-else-width-ge16 c =
    rw (one_shl c.args.width 32 (omega arith), c.from.ensures)
