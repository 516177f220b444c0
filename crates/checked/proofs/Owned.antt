-- The class of a line, and the names that it takes.
use Rattle.std.proofs.Common.{◌≡◌, ℕ, ◌<◌, Bool, true, false, not, ◌&&◌, eqb, length, arith, ne_eqb}
use Rattle.records.specs.Statements.{written}
use Rattle.std.proofs.lemmas.Bool.{not-false, or_parts}
use Rattle.table.specs.Description.{statement_at, node_at}
use Rattle.owners.specs.Lines.{class_of_line}
use Rattle.owners.specs.Names.{owned_by, takes_wrong}
use Rattle.checked.specs.Faultless.{OwnsLaw}
use Rattle.table.proofs.Scans.{no_some}
use Rattle.checked.proofs.Held.{faultless, and_rest, of_class, of_extension, in_one-holds}

writes_owned : (name : ℕ) (owned : Bool) → (not (eqb name 0) && not owned) ≡ false → 0 < name → owned ≡ true
writes_owned name owned e h =
    let z = ne_eqb name 0 (λ q. omega arith) in
    not-false owned (and_rest (not (eqb name 0)) (not owned) e (rw z))

pub owns : OwnsLaw
owns d e =
    let ok = faultless d e in
    record {
      of_class = λ n c low high cl ch h. of_class d n (in_one-holds d ok n low high) c cl ch h;
      of_extension = λ n x low high xl xh h. of_extension d n (in_one-holds d ok n low high) x xl xh h;
      writes = λ n low high h.
          writes_owned (written (statement_at d n)) (owned_by d (class_of_line d n) (written (statement_at d n)))
          (or_parts _ _ (ok.line_owners n low high)).0 h;
      takes = λ n x low high xl xh named has.
          let s = and_rest _ _ (ok.node_owners x xl xh) named in
          let t = no_some (takes_wrong d x) (length d.lines) s n low high in
          not-false (owned_by d (class_of_line d n) (node_at d x).a) (and_rest _ _ t has);
    }
