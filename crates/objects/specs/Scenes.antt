-- What a step inside an open object is taken in: what its scene says.
use Rattle.std.specs.Prelude.{ℕ, Bool, List, ℤ}
use Rattle.bits.specs.declared.source.Source.{Ghosts}
use Rattle.table.specs.Description.{Description, description}
use Rattle.rules.specs.Checks.{Check}
use Rattle.rules.specs.Values.{value}
use Rattle.values.specs.Names.{named_by}
use Rattle.objects.specs.declared.inside.Inside.{Inside}
use Rattle.objects.specs.declared.scene.Scene.{Scene}

module _ {S : Type 0} {g : Ghosts S} where
  -- the description
  abbrev pub described : Scene S g → Description
  described s = description s.tables.now

  -- the source's bits
  abbrev pub source_bits : Scene S g → List Bool
  source_bits s = g.bits s.source.now

  -- the value of a node in the object
  abbrev pub node_value : Scene S g → Inside → ℕ → Check ℤ
  node_value s i node = value (described s).nodes s.about.size (named_by i.names) node
