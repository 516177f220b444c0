-- The fields of classes, names, extensions and maps, and the top class: each has one of its values, and names records
-- that are there.
use Rattle.std.specs.Prelude.{Bool, cond, not, ◌&&◌, ℕ, eqb, leb}
use Rattle.records.specs.Classes.{is_base, is_member}
use Rattle.records.specs.declared.counts.Counts.{Counts}
use Rattle.records.specs.declared.records.Class.{Class}
use Rattle.records.specs.declared.records.Name.{Name}
use Rattle.records.specs.declared.records.Extension.{Extension}
use Rattle.records.specs.declared.records.Map.{Map}
use Rattle.fields.specs.Values.{names_one, names_one_or_none, is_stretch, one_to_sixteen}

-- only a member has a base; whether it names a base is another rule's
abbrev pub base_fine : Counts → Class → Bool
base_fine counts c = cond (is_member c) (names_one_or_none c.base counts.classes) (eqb c.base 0)

-- only a base can be abstract
abbrev pub abstract_fine : Class → Bool
abstract_fine c = cond (is_base c) (leb c.abstracted 1) (eqb c.abstracted 0)

abbrev pub class_fine : Counts → Class → Bool
class_fine counts c =
    leb c.kind 2 && base_fine counts c && abstract_fine c && leb c.width 16 && one_to_sixteen c.rank
    && is_stretch c.first c.number counts.lines

abbrev pub name_fine : Counts → Name → Bool
name_fine counts n = names_one n.owner counts.classes

-- an extension has at least one line
abbrev pub extension_fine : Counts → Extension → Bool
extension_fine counts e =
    names_one e.class counts.classes && not (eqb e.number 0) && is_stretch e.first e.number counts.lines

abbrev pub map_fine : Counts → Map → Bool
map_fine counts m = one_to_sixteen m.width && is_stretch m.first m.number counts.rows

-- the top class is there
abbrev pub top_fine : Counts → ℕ → Bool
top_fine counts top = names_one top counts.classes
