-- The lines of a block as a tree: each statement has its line's number, its fields and what follows it.
use Rattle.std.specs.Prelude.{◌≡◌, ℕ, zero, suc, ◌+◌, ◌-◌, min, List, Option, Some, None}
use Rattle.records.specs.declared.records.Line.{Line}
use Rattle.records.specs.declared.statements.Statement.{Statement}
use Rattle.records.specs.declared.statements.Statement.TheVariants.{Read, Assign, MapRead, Use, If, While}
use Rattle.records.specs.Statements.{statement}
use Rattle.records.specs.declared.statements.ReadLine.{ReadLine}
use Rattle.records.specs.declared.statements.UseLine.{UseLine}
use Rattle.table.specs.Description.{entry, no_line}

pub data Code : Type 0 where
  -- the block's end
  finish : Code
  -- reads values
  read : (line : ℕ) → ReadLine → Code → Code
  -- gives a name the value of a node
  assign : (line name node : ℕ) → Code → Code
  -- reads an index, and gives a map's output
  map_read : (line map name : ℕ) → Code → Code
  -- reads objects
  use_of : (line : ℕ) → UseLine → Code → Code
  -- the first block where the node is true, else the second; then the rest
  branch : (line node : ℕ) → (first second rest : Code) → Code
  -- the block as long as the node is true, at most so many rounds; then the rest
  while : (line node rounds : ℕ) → (block rest : Code) → Code

-- the code of a statement, which is line `at`, with k more lines in its block; `block` is the code of so many lines
-- from a line on. Blocks follow their line directly, and end where what holds them ends.
unfoldable pub coded : Option Statement → (at k : ℕ) (block : ℕ → ℕ → Code) → Code
coded (Some (Read fields)) at k block = read at fields (block (suc at) k)
coded (Some (Assign name node)) at k block = assign at name node (block (suc at) k)
coded (Some (MapRead map name)) at k block = map_read at map name (block (suc at) k)
coded (Some (Use fields)) at k block = use_of at fields (block (suc at) k)
coded (Some (If node first second)) at k block =
    let m = min first k in
    let n = min second (k - m) in
    branch at node (block (suc at) m) (block (suc at + m) n) (block (suc at + m + n) (k - m - n))
coded (Some (While node lines rounds)) at k block =
    let m = min lines k in
    while at node rounds (block (suc at) m) (block (suc at + m) (k - m))
coded None at k block = block (suc at) k

-- the same, where so many lines may follow one another
unfoldable pub code_within : (fuel : ℕ) (lines : List Line) (at count : ℕ) → Code
code_within zero lines at count = finish
code_within (suc f) lines at zero = finish
code_within (suc f) lines at (suc k) = coded (statement (entry lines at no_line)) at k (code_within f lines)

-- the code of `count` lines from the line `at`
unfoldable pub code : (lines : List Line) (at count : ℕ) → Code
code lines at count = code_within count lines at count

-- the same with no bound in it: the code of some lines is that of the first, with the code of those that follow it
pub record CodeLaw : Type 0 where
  pub none : (lines : List Line) (at : ℕ) → code lines at 0 ≡ finish
  pub some : (lines : List Line) (at k : ℕ) → code lines at (suc k) ≡ coded (statement (entry lines at no_line)) at k (code lines)
