-- The code of a line's blocks, and of the lines after it.
use Rattle.std.proofs.Common.{ℕ, suc, ◌+◌, ◌-◌, min}
use Rattle.table.specs.Description.{Description}
use Rattle.rules.specs.Code.{Code, branch, while, code}

-- the code of the lines after a line in its block
abbrev pub following : Description → (line after : ℕ) → Code
following d line after = code d.lines (suc line) after

-- the code of an if line, and of a while line: blocks end where what holds them ends
abbrev pub if_code : Description → (line after node first second : ℕ) → Code
if_code d line after node first second =
    let m = min first after in
    let n = min second (after - m) in
    branch line node (following d line m) (code d.lines (suc line + m) n) (code d.lines (suc line + m + n) (after - m - n))

abbrev pub while_code : Description → (line after node lines rounds : ℕ) → Code
while_code d line after node lines rounds =
    let m = min lines after in
    while line node rounds (following d line m) (code d.lines (suc line + m) (after - m))
