use Rattle.std.proofs.Common.{◌≡◌, Bool, List, Ok, Option, sym, refl, subst}
use Rattle.rules.specs.declared.items.Item.{Item}
use Rattle.bits.specs.declared.source.Source.{Ghosts}
use Rattle.reading.specs.declared.state.Reading.{Reading}
use Rattle.reading.specs.Calls.{NextCalled}
use Rattle.comparison.specs.Beside.{struck, both, rest}
use Rattle.comparison.proofs.comparison.Comparison.next.Goals as goal

called_as : {S : Type 0} {g : Ghosts S} (bits : S → List Bool) (r s : Reading S g) {o p : Option Item} → o ≡ p → NextCalled bits r (Ok o) s → NextCalled bits r (Ok p) s
called_as bits r s e c = subst (λ (x : Option Item). NextCalled bits r (Ok x) s) e c

pub returns-in-Some-clause-compared : goal.returns-in-Some-clause-compared
returns-in-Some-clause-compared g c =
    both (record {
      newer = called_as g.N.Source.bits c.args.self.now.newer c.next.new.self c.in-Ok-Some.field-0-is c.in-Ok-Some.ensures;
      is_left = sym c.in-Some.ensures.left;
      depth = c.in-Some.ensures.depth;
    }) c.next-in-Some.ensures

pub returns-in-None-clause-compared : goal.returns-in-None-clause-compared
returns-in-None-clause-compared g c =
    struck (record {
      newer = called_as g.N.Source.bits c.args.self.now.newer c.next.new.self c.in-Ok-Some.field-0-is c.in-Ok-Some.ensures;
      is_left = sym c.in-None.ensures.left;
      depth = c.in-None.ensures.depth;
    }) refl

pub returns-in-Ok-None-clause-compared : goal.returns-in-Ok-None-clause-compared
returns-in-Ok-None-clause-compared g c =
    rest refl (called_as g.N.Source.bits c.args.self.now.newer c.next.new.self c.in-Ok-None.field-0-is c.in-Ok-None.ensures) refl c.next-in-Ok-None.ensures

pub returns-in-Err-clause-compared : goal.returns-in-Err-clause-compared
returns-in-Err-clause-compared g c = rest refl c.in-Err.ensures refl c.next-in-Err.ensures
