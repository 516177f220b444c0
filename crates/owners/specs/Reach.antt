-- The nodes that a line reaches: those in its fields, and those that they are worked out from.
use Rattle.std.specs.Prelude.{ℕ, zero, suc, Bool, false, ◌&&◌, ◌||◌, ◌==◌, nat_lt, Option, Some, None}
use Rattle.records.specs.declared.statements.Statement.{Statement}
use Rattle.records.specs.declared.statements.Statement.TheVariants.{Read, Assign, MapRead, Use, If, While}
use Rattle.fields.specs.Nodes.{is_operator}
use Rattle.table.specs.Description.{Description, node_at}

-- node r is node x, or an operator on an earlier node that passes
abbrev pub reaches_by : (passes : ℕ → Bool) → Description → (x r : ℕ) → Bool
reaches_by passes d x r =
    (r == x)
    || is_operator (node_at d r)
    && (nat_lt (node_at d r).a r && passes (node_at d r).a || nat_lt (node_at d r).b r && passes (node_at d r).b)

-- over fewer than so many levels
unfoldable pub reaches_within : Description → (x levels r : ℕ) → Bool
reaches_within d x zero r = false
reaches_within d x (suc k) r = reaches_by (reaches_within d x k) d x r

-- node r is, or is worked out from, node x; node numbers fall, so r levels suffice
unfoldable pub reaches : Description → (x r : ℕ) → Bool
reaches d x r = reaches_within d x (suc r) r

-- a line has a node that passes in one of its fields
abbrev pub line_has : (passes : ℕ → Bool) → Option Statement → Bool
line_has passes (Some (Read fields)) =
    passes fields.width || passes fields.count || passes fields.lowest || passes fields.highest
line_has passes (Some (Assign name node)) = passes node
line_has passes (Some (MapRead map name)) = false
line_has passes (Some (Use fields)) = passes fields.count
line_has passes (Some (If node first second)) = passes node
line_has passes (Some (While node lines rounds)) = passes node
line_has passes None = false
