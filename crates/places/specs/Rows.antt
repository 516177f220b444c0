-- The indices of a map: each fits the map's width, and none is repeated.
use Rattle.std.specs.Prelude.{ℕ, Bool, not, ◌&&◌, ◌||◌, length, ◌==◌, nat_lt}
use Rattle.table.specs.Description.{Description, map_at, row_at}
use Rattle.table.specs.First.{some_upto}
use Rattle.records.specs.Stretches.{in_stretch}
use Rattle.places.specs.Classes.{fits}

-- map m has row n
abbrev pub in_map : Description → (m n : ℕ) → Bool
in_map d m n = in_stretch (map_at d m).first (map_at d m).number n

-- row j is an earlier row of map m with row n's index
abbrev pub repeats : Description → (n m j : ℕ) → Bool
repeats d n m j = nat_lt j n && (row_at d j).index == (row_at d n).index && in_map d m j

-- row n is one of map m, and its index is too wide, or repeated
abbrev pub index_wrong : Description → (n m : ℕ) → Bool
index_wrong d n m =
    in_map d m n && (not (fits (row_at d n).index (map_at d m).width) || some_upto (repeats d n m) (length d.rows))

abbrev pub row_place : Description → ℕ → Bool
row_place d n = some_upto (index_wrong d n) (length d.maps)
