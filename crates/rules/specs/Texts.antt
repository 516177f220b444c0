-- What is printed of an item and of a reading's fault.
use Rattle.std.specs.Prelude.{ℕ, List, decimal}
use Rattle.std.specs.Fmt.{signed_decimal}
use Rattle.records.specs.Texts.{spaced}
use Rattle.rules.specs.declared.items.Item.{Item}
use Rattle.rules.specs.declared.faults.ReadingFault.{ReadingFault}
use Rattle.rules.specs.Numbers.{kind_number, reading_cause_number}

-- seven numbers: kind, line, class, index, value, place, length
abbrev pub item_text : Item → List ℕ
item_text i = spaced (decimal (kind_number i.kind)) (spaced (decimal i.line) (spaced (decimal i.class) (spaced (decimal i.index) (spaced (signed_decimal i.value) (spaced (decimal i.place) (decimal i.length))))))

-- four numbers: cause, line, node, place
abbrev pub reading_fault_text : ReadingFault → List ℕ
reading_fault_text f = spaced (decimal (reading_cause_number f.cause)) (spaced (decimal f.line) (spaced (decimal f.node) (decimal f.place)))
