-- What lies ahead of a reading, and what it hands out next.
use Rattle.std.specs.Prelude.{◌≡◌, Bool, List, Some, None, Ok, Err, Option}
use Rattle.table.specs.Description.{Description, description}
use Rattle.rules.specs.declared.items.Item.{Item}
use Rattle.rules.specs.declared.faults.ReadingFault.{ReadingFault}
use Rattle.rules.specs.Trace.{Run, out, pass, stop, done}
use Rattle.bits.specs.declared.source.Source.{Ghosts}
use Rattle.reading.specs.declared.state.Reading.{Reading}
use Rattle.reading.specs.Walks.{Answer, walk_ahead}

-- a reading that was refused stays so
abbrev pub held : Option ReadingFault → Run (Unit {0}) → Run (Unit {0})
held None t = t
held (Some f) t = stop f

abbrev pub ahead : {S : Type 0} {g : Ghosts S} → (S → List Bool) → Reading S g → Run (Unit {0})
ahead bits r = held r.fault (walk_ahead (description r.tables.now) (bits r.source) r.walk)

-- by what lay ahead: silent steps are passed over
abbrev pub Next : Run (Unit {0}) → Answer → Run (Unit {0}) → Type 0
Next (out i t) r after = (r ≡ Ok (Some i)) × (after ≡ t)
Next (pass t) r after = Next t r after
Next (stop f) r after = (r ≡ Err f) × (after ≡ stop f)
Next (done u) r after = (r ≡ Ok None) × (after ≡ done tt)

-- what lies ahead without the silent steps before it
unfoldable pub skipped : {A : Type 0} → Run A → Run A
skipped (out i t) = out i t
skipped (pass t) = skipped t
skipped (stop f) = stop f
skipped (done a) = done a

-- by what was handed out
abbrev pub Told : Run (Unit {0}) → Answer → Run (Unit {0}) → Type 0
Told before (Ok (Some i)) after = skipped before ≡ out i after
Told before (Ok None) after = (skipped before ≡ done tt) × (after ≡ done tt)
Told before (Err f) after = (skipped before ≡ stop f) × (after ≡ stop f)

-- the last item that it handed out
abbrev pub last_of : {S : Type 0} {g : Ghosts S} → Reading S g → Option Item
last_of r = r.last

-- the description and the bits that it reads
abbrev pub description_of : {S : Type 0} {g : Ghosts S} → Reading S g → Description
description_of r = description r.tables.now

abbrev pub bits_of_source : {S : Type 0} {g : Ghosts S} → (S → List Bool) → Reading S g → List Bool
bits_of_source bits r = bits r.source
