-- How many records each table may have.
use Rattle.std.specs.Prelude.{ℕ, Bool, ◌&&◌, nat_le}

-- at least one class, and no table above its largest count
abbrev pub within_limits : (classes names extensions lines nodes maps rows : ℕ) → Bool
within_limits classes names extensions lines nodes maps rows =
    nat_le 1 classes && nat_le classes 32 && nat_le names 128 && nat_le extensions 32 && nat_le lines 512 && nat_le nodes 256 && nat_le maps 16 && nat_le rows 256
