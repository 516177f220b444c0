-- Where the bits of an item end, by the description and the bits that were read.
use Rattle.std.specs.Prelude.{ℕ, zero, suc, ◌+◌, Bool, false, cond, List, [], ◌∷◌, Some, None, Option, slice_index_or}
use Rattle.table.specs.Description.{Description, class_at}
use Rattle.rules.specs.declared.items.Item.{Item}
use Rattle.rules.specs.declared.items.Kind.{Kind}
use Rattle.rules.specs.declared.items.Kind.TheVariants.{Value, Open, Close}
use Rattle.rules.specs.Lookups.{greatest}
use Rattle.rules.specs.Order.{declared_at}
use Rattle.rules.specs.Steps.{id_width}

-- the bits of a size at a place: a byte, and after each continuation bit another, of at most so many bytes
unfoldable pub size_length : List Bool → (bytes p : ℕ) → ℕ
size_length bits zero p = 0
size_length bits (suc n) p = 8 + cond (slice_index_or bits p false) (size_length bits n (p + 8)) 0

-- the bits of the size at a place, by the greatest size: an object that is not expandable has none
abbrev pub size_length_at : List Bool → (greatest p : ℕ) → ℕ
size_length_at bits zero p = 0
size_length_at bits (suc g) p = size_length bits 4 p

-- the end of the id and the size of an object of a declared class
abbrev pub header_end : Description → List Bool → (declared p : ℕ) → ℕ
header_end d bits declared p =
    let q = p + id_width (class_at d declared) in
    q + size_length_at bits (greatest d declared) q

abbrev pub end_by : Description → List Bool → Kind → (line place length : ℕ) → ℕ
end_by d bits Value line place length = place + length
end_by d bits Open line place length = header_end d bits (declared_at d line) place
end_by d bits Close line place length = place

-- where the bits of an item end; an open's are its id and its size
abbrev pub item_end : Description → List Bool → Item → ℕ
item_end d bits i = end_by d bits i.kind i.line i.place i.length

-- where the bits of the last item end, 0 before any
abbrev pub position_after : Description → List Bool → Option Item → ℕ
position_after d bits None = 0
position_after d bits (Some i) = item_end d bits i

-- the last item, after some more
abbrev pub latest : Option Item → List Item → Option Item
latest last [] = last
latest last (i ∷ is) = latest (Some i) is
