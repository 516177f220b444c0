-- Lines that read no value have none.
use Rattle.std.proofs.Common.{◌≡◌, ℕ, ℤ, refl, Some}
use Rattle.records.specs.declared.statements.ReadLine.{ReadLine}
use Rattle.records.specs.declared.statements.Statement.{Statement}
use Rattle.records.specs.declared.statements.Statement.TheVariants.{Read, Assign, MapRead, Use, If, While}
use Rattle.table.specs.Description.{Description}
use Rattle.roundtrip.specs.Own.{SensibleValue}

pub no_value : (d : Description) (s : Statement) (v : ℤ) (n : ℕ) →
    ((l : ReadLine) → s ≡ Read l → ⊥) →
    ((map name : ℕ) → s ≡ MapRead map name → ⊥) → SensibleValue d (Some s) v n → ⊥
unfolding SensibleValue
no_value d (Read fields) v n f g h = f fields refl
no_value d (Assign name node) v n f g h = h
no_value d (MapRead map name) v n f g h = g map name refl
no_value d (Use fields) v n f g h = h
no_value d (If node first second) v n f g h = h
no_value d (While node lines rounds) v n f g h = h
