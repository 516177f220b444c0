-- Blocks directly follow their if or while line. A block is sound when each of its lines is, and a line when each of
-- its blocks is.
use Rattle.std.specs.Prelude.{ℕ, zero, suc, ◌+◌, ◌-◌, Bool, true, false, cond, not, ◌&&◌, ◌||◌, ◌==◌, nat_le, nat_lt, Option, Some, None}
use Rattle.records.specs.declared.statements.Statement.{Statement}
use Rattle.records.specs.declared.statements.Statement.TheVariants.{Read, Assign, MapRead, Use, If, While}
use Rattle.fields.specs.Nodes.{is_operator}
use Rattle.table.specs.Description.{Description, statement_at, node_at}

-- an if or while line has blocks
abbrev pub has_blocks : Option Statement → Bool
has_blocks (Some (Read fields)) = false
has_blocks (Some (Assign name node)) = false
has_blocks (Some (MapRead map name)) = false
has_blocks (Some (Use fields)) = false
has_blocks (Some (If node first second)) = true
has_blocks (Some (While node lines rounds)) = true
has_blocks None = false

-- the lines in a line's first block, and in its second
abbrev pub in_first : Option Statement → ℕ
in_first (Some (Read fields)) = 0
in_first (Some (Assign name node)) = 0
in_first (Some (MapRead map name)) = 0
in_first (Some (Use fields)) = 0
in_first (Some (If node first second)) = first
in_first (Some (While node lines rounds)) = lines
in_first None = 0

abbrev pub in_second : Option Statement → ℕ
in_second (Some (Read fields)) = 0
in_second (Some (Assign name node)) = 0
in_second (Some (MapRead map name)) = 0
in_second (Some (Use fields)) = 0
in_second (Some (If node first second)) = second
in_second (Some (While node lines rounds)) = 0
in_second None = 0

-- a line with its blocks
abbrev pub taken : Option Statement → ℕ
taken s = 1 + in_first s + in_second s

-- Line i, with `room` lines left in what holds it, inside `depth` blocks, is sound: its blocks lie in that room, it
-- has none inside eight blocks, and each is sound. `inner` says whether a block is.
abbrev pub line_sound_by : (inner : ℕ → ℕ → ℕ → Bool) → Option Statement → (i room depth : ℕ) → Bool
line_sound_by inner s i room depth =
    not (nat_lt room (taken s)) && not (has_blocks s && nat_le 8 depth)
    && inner (i + 1) (in_first s) (depth + 1) && inner (i + 1 + in_first s) (in_second s) (depth + 1)

-- the n lines from i on are a sound block, by the soundness of shorter ones
abbrev pub block_sound_by : (inner : ℕ → ℕ → ℕ → Bool) → Description → (i n depth : ℕ) → Bool
block_sound_by inner d i n depth =
    cond (n == 0) true
    (line_sound_by inner (statement_at d i) i n depth && inner (i + taken (statement_at d i)) (n - taken (statement_at d i)) depth)

-- only blocks of fewer than n lines are asked
abbrev pub shorter : ℕ → (ℕ → ℕ → ℕ → Bool) → ℕ → ℕ → ℕ → Bool
shorter n inner i m depth = cond (nat_lt m n) (inner i m depth) true

unfoldable pub sound_within : Description → (bound i n depth : ℕ) → Bool
sound_within d zero i n depth = true
sound_within d (suc f) i n depth = block_sound_by (shorter n (sound_within d f)) d i n depth

unfoldable pub block_sound : Description → (i n depth : ℕ) → Bool
block_sound d i n depth = sound_within d (suc n) i n depth

abbrev pub line_sound : Description → (i room depth : ℕ) → Bool
line_sound d i room depth = line_sound_by (block_sound d) (statement_at d i) i room depth

-- A node is more than k deep: an operator one of whose nodes is more than k - 1 deep. What is no operator is 1 deep.
unfoldable pub deeper : ℕ → Description → ℕ → Bool
deeper zero d n = true
deeper (suc k) d n = is_operator (node_at d n) && (deeper k d (node_at d n).a || deeper k d (node_at d n).b)
