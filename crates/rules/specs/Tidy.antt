-- A tidy reading: it goes on like a reading as long as the bits are such as a writing makes, which knows every id and
-- leaves at most seven bits, all 0, before the end of an expandable object; else it stops. It serves the laws of
-- writing only.
use Rattle.std.specs.Prelude.{◌≡◌, ℕ, zero, suc, ◌-◌, Bool, true, false, not, ◌&&◌, ◌||◌, List, Ok, ◌==◌}
use Rattle.table.specs.Description.{Description, class_at}
use Rattle.bits.specs.Bits.{number, part}
use Rattle.rules.specs.declared.faults.ReadingCause.TheVariants.{Unchecked, UnknownId, BitsLeft}
use Rattle.rules.specs.Trace.{Run, out, stop, done, bind, items, outcome, ended}
use Rattle.rules.specs.Checks.{Check, ensure, attempt, fault}
use Rattle.rules.specs.Lookups.{greatest, object_class}
use Rattle.rules.specs.declared.steps.Header.{Header}
use Rattle.rules.specs.declared.steps.Window.{Window}
use Rattle.rules.specs.Steps.{header, at_end, next_multiple}
use Rattle.rules.specs.Reading.{State, Object, Objects, all_zero, open_item, close_item, content, inner, closed, whole, reading}

module _ (d : Description) (bits : List Bool) where
  -- in a tidy reading the next byte boundary is the object's end, and the bits up to it are 0
  abbrev pub closable : (tidy : Bool) (greatest : ℕ) → Window → (p : ℕ) → Check (Unit {0})
  closable false g w p = Ok tt
  closable true zero w p = Ok tt
  closable true (suc g) w p = ensure (next_multiple 8 p == w.end && number (part bits p (w.end - p)) == 0) BitsLeft

  unfoldable pub opened_by : (tidy : Bool) → Objects → (class greatest line index : ℕ) → Header → Window → Run State
  opened_by tidy obj c g line index h w =
      let o : Object = record { class = c; size = h.size; window = inner d bits g h w } in
      out (open_item c line index h)
      (bind (content d bits obj o c (record { place = h.after; names = all_zero })) λ s.
      attempt line s.place (closable tidy g o.window s.place) λ _.
      let t = closed d bits g o.window s in
      out (close_item c line index t.place) (done t))

  -- in a tidy reading any unknown id is refused
  unfoldable pub object_by : (tidy : Bool) → ℕ → Objects
  object_by tidy zero line declared index w p = stop (fault Unchecked line 0 p)
  object_by tidy (suc n) line declared index w p =
      let g = greatest d declared in
      attempt line p (header bits w (class_at d declared) g p) λ h.
      let c = object_class d declared h.id in
      attempt line p (ensure (not (c == 0) || (not tidy && not (g == 0))) UnknownId) λ _.
      opened_by tidy (object_by tidy n) c g line index h w

  unfoldable pub reading_by : (tidy : Bool) → Run (Unit {0})
  reading_by tidy =
      bind (object_by tidy 16 0 d.top 0 (whole d bits) 0) λ t.
      attempt 0 t.place (at_end bits t.place) done

  abbrev pub tidy_reading : Run (Unit {0})
  tidy_reading = reading_by true

-- a reading that need not be tidy is the reading, and a tidy reading that ends has handed out what the reading hands
-- out
pub record TidyLaw : Type 0 where
  pub plain : (d : Description) (bits : List Bool) → reading_by d bits false ≡ reading d bits
  pub same :
      (d : Description) (bits : List Bool) → outcome (tidy_reading d bits) ≡ ended →
      (items (reading d bits) ≡ items (tidy_reading d bits)) × (outcome (reading d bits) ≡ ended)
