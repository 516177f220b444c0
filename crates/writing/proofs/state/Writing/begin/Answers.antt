use Rattle.std.proofs.Common.{◌≡◌, ◌≤◌, Bool, cond, length, vec_items, vec_len, sym, refl, ap, subst, arith}
use Rattle.table.specs.Description.{description}
use Rattle.checked.specs.Check.{first_fault}
use Rattle.reading.specs.Walks.{EnclosedOnce, objects_of}
use Rattle.reading.proofs.Heights.{readable, names_few}
use Rattle.writing.specs.Ready.{Ready}
use Rattle.writing.proofs.Aheads.{straight, no_fault}
use Rattle.writing.proofs.state.Writing.begin.Goals as goal

pub invariant_of-result : goal.invariant_of-result
invariant_of-result c =
    let l = c.args.checked.loaded in
    let w = c.new.result in
    let few = names_few (vec_len l.classes) (vec_len l.names) (vec_len l.extensions) (vec_len l.lines) (vec_len l.nodes) (vec_len l.maps) (vec_len l.rows) l.limited in
    let same : vec_len l.names ≡ length (vec_items l.names) = l.names.ok.0 in
    let bound : length (vec_items l.names) ≤ 128 = omega arith in
    let ready : Ready (description l) c.args.total 0 w = record {
      short = c.requires.short;
      straight = straight (description l) c.requires.straight;
      readable = readable (description l) (no_fault (first_fault (description l)) c.args.checked.faultless) bound;
      sound = c.new.ensures.1 (description l);
      enclosed = subst (λ (b : Bool). EnclosedOnce b c.args.total (objects_of w) w.place) (sym c.new.ensures.2) tt;
      place = ap (λ (b : Bool). cond b w.place 0) c.new.ensures.2;
    } in
    record { ready = ∣ ready ∣₁ }

pub returns : goal.returns
returns c =
    let d = description c.args.checked.loaded in
    record { description = refl; total = refl; written = refl; ahead = λ B. c.new.ensures.0 d B }
