use Rattle.std.proofs.Common.{Option, sym, subst}
use Rattle.records.specs.declared.faults.Fault.{Fault}
use Rattle.table.specs.Description.{description}
use Rattle.checked.specs.Law.{rules, Says}
use Rattle.checked.proofs.Firsts.{first_fault_law}
use Rattle.checked.proofs.first.first_fault.Goals as goal

pub returns : goal.returns
returns c =
    record {
      value = c.by_rules.ensures;
      law =
          subst (λ (o : Option Fault). Says (rules (description c.args.loaded.now)) o) (sym c.by_rules.ensures)
          (first_fault_law (description c.args.loaded.now));
    }
