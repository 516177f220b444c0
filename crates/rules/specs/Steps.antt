-- The steps of reads and of an object's beginning, over the source's bits.
use Rattle.std.specs.Prelude.{ℕ, zero, suc, ◌+◌, ◌-◌, ◌*◌, ◌/◌, ◌%◌, ◌^◌, Bool, cond, ◌&&◌, List, length, drop, ℤ, pos, ◌-ℤ◌, Ok, ◌==◌, int_le, nat_le, nat_lt, unsigned_abs}
use Rattle.records.specs.declared.records.Class.{Class}
use Rattle.records.specs.Classes.{is_base}
use Rattle.bits.specs.Bits.{number, part}
use Rattle.rules.specs.declared.faults.ReadingCause.TheVariants.{SourceEnds, ObjectEnds, SkippedBits, OutsideBounds, Size, PastWindow, BitsLeft, WidthOrCount}
use Rattle.rules.specs.declared.faults.Failure.{Failure}
use Rattle.rules.specs.declared.steps.Window.{Window}
use Rattle.rules.specs.declared.steps.Got.{Got}
use Rattle.rules.specs.declared.steps.Header.{Header}
use Rattle.rules.specs.Checks.{Check, then, fails, ensure, pick}
use Rattle.records.specs.declared.statements.ReadLine.{ReadLine}

-- the window must have n bits from a place on
abbrev pub enough : Window → (p n : ℕ) → Check (Unit {0})
enough w p n = ensure (nat_le (p + n) w.end) (cond w.object ObjectEnds SourceEnds)

-- how a step fails where they are not there
abbrev pub ends : Window → Failure
ends w = record { cause = cond w.object ObjectEnds SourceEnds; node = 0 }

-- the first multiple at or after a place, counted from the source's start
abbrev pub next_multiple : (of p : ℕ) → ℕ
next_multiple of p = cond (of == 0) p ((p + (of - 1)) / of * of)

-- the place after alignment; the skipped bits must be 0
unfoldable pub aligned : List Bool → Window → (to p : ℕ) → Check ℕ
aligned bits w to p =
    let q = next_multiple to p in
    then (enough w p (q - p)) λ _.
    then (ensure (number (part bits p (q - p)) == 0) SkippedBits) λ _.
    Ok q

-- the number of the next n bits
unfoldable pub taken : List Bool → Window → (n p : ℕ) → Check ℕ
taken bits w n p = then (enough w p n) λ _. Ok (number (part bits p n))

-- a width or a count must lie from 0 to the most
unfoldable pub natural : (most : ℕ) → Check ℤ → Check ℕ
natural most v = then v λ z. then (ensure (int_le (pos 0) z && int_le z (pos most)) WidthOrCount) λ _. Ok (unsigned_abs z)

-- n bits as a signed number, in two's complement
abbrev pub signed : (n raw : ℕ) → ℤ
signed n raw = cond (nat_lt 0 n && nat_le (2 ^ (n - 1)) raw) (pos raw -ℤ pos (2 ^ n)) (pos raw)

-- a value must keep to a bound, which is worked out here; node 0 sets none
abbrev pub bounded : (bound_node : ℕ) → Check ℤ → (ℤ → Bool) → Check (Unit {0})
bounded zero bound kept = Ok tt
bounded (suc n) bound kept = then bound λ b. ensure (kept b) OutsideBounds

-- a value must not lie below its lowest
abbrev pub at_least : (bound_node : ℕ) → Check ℤ → ℤ → Check (Unit {0})
at_least node bound v = bounded node bound (λ low. int_le low v)

-- nor above its highest
abbrev pub at_most : (bound_node : ℕ) → Check ℤ → ℤ → Check (Unit {0})
at_most node bound v = bounded node bound (λ high. int_le v high)

-- one element of a read: alignment, width, bits, lowest, highest; with look-ahead only the alignment is consumed
unfoldable pub element : List Bool → Window → ReadLine → (width low high : Check ℤ) → (p : ℕ) → Check Got
element bits w l width low high p =
    then (aligned bits w l.alignment p) λ q.
    then (natural 32 width) λ n.
    then (taken bits w n q) λ raw.
    let v = cond l.signed (signed n raw) (pos raw) in
    then (at_least l.lowest low v) λ _.
    then (at_most l.highest high v) λ _.
    Ok (record { value = v; place = q; length = n; after = cond (l.ahead == 0) (q + n) q })

-- a map read: the index, and its row's output
unfoldable pub mapped : List Bool → Window → (width : ℕ) → (outputs : ℕ → Check ℤ) → (p : ℕ) → Check Got
mapped bits w width outputs p =
    then (taken bits w width p) λ index.
    then (outputs index) λ v.
    Ok (record { value = v; place = p; length = width; after = p + width })

-- a size of at most so many bytes, each a continuation bit and seven bits of the size, after those that give `high`,
-- and the place after it
unfoldable pub size_bytes : List Bool → Window → ℕ → (high p : ℕ) → Check (ℕ × ℕ)
size_bytes bits w zero high p = fails Size
size_bytes bits w (suc n) high p =
    then (taken bits w 8 p) λ byte.
    pick (nat_lt byte 128) (λ _. Ok (high * 128 + byte, p + 8)) (λ _. size_bytes bits w n (high * 128 + byte % 128) (p + 8))

-- the size of an object whose greatest size is given, and the place after it: at most four bytes, not above the
-- greatest, and the object within the window
unfoldable pub sized : List Bool → Window → (greatest p : ℕ) → Check (ℕ × ℕ)
sized bits w zero p = Ok (0, p)
sized bits w (suc g) p =
    then (size_bytes bits w 4 0 p) λ s.
    then (ensure (nat_le s.0 (suc g)) Size) λ _.
    then (ensure (nat_le (s.1 + 8 * s.0) w.end) PastWindow) λ _.
    Ok s

-- the width of the id of a declared class, 0 where it is no family
abbrev pub id_width : Class → ℕ
id_width c = cond (is_base c) c.width 0

-- the beginning of an object of a declared class: aligned to 8 if expandable, the id in a family, the size if
-- expandable
unfoldable pub header : List Bool → Window → (declared : Class) → (greatest p : ℕ) → Check Header
header bits w c greatest p =
    then (aligned bits w (cond (greatest == 0) 0 8) p) λ q.
    then (taken bits w (id_width c) q) λ id.
    then (sized bits w greatest (q + id_width c)) λ s.
    Ok (record { id = id; size = s.0; place = q; after = s.1 })

-- after the top object's close fewer than eight bits, all 0, may be left
unfoldable pub at_end : List Bool → ℕ → Check (Unit {0})
at_end bits p = ensure (nat_lt (length bits - p) 8 && number (drop p bits) == 0) BitsLeft
