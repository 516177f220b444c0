-- The numbers that cross for a fault and for an item.
use Rattle.std.specs.Prelude.{Some, None, Option}
use Rattle.records.specs.declared.faults.Fault.{Fault}
use Rattle.records.specs.Causes.{cause_number, table_number}
use Rattle.rules.specs.declared.faults.ReadingFault.{ReadingFault}
use Rattle.rules.specs.declared.items.Item.{Item}
use Rattle.rules.specs.declared.items.Kind.{Kind}
use Rattle.rules.specs.Numbers.{kind_number, kind_with, reading_cause_number}
use Rattle.embed.specs.declared.answers.CheckAnswer.{CheckAnswer}
use Rattle.embed.specs.declared.answers.FaultAnswer.{FaultAnswer}
use Rattle.embed.specs.declared.answers.FlatItem.{FlatItem}

abbrev pub check_of : Fault → CheckAnswer
check_of f = record { «record» = f.«record»; cause = cause_number f.cause; table = table_number f.table }

abbrev pub fault_of : ReadingFault → FaultAnswer
fault_of f = record { cause = reading_cause_number f.cause; line = f.line; node = f.node; place = f.place }

abbrev pub flat : Item → FlatItem
flat i =
    record {
      kind = kind_number i.kind;
      line = i.line;
      class = i.class;
      index = i.index;
      value = i.value;
      place = i.place;
      length = i.length;
    }

-- the item of a kind with the other numbers
abbrev pub item_of_kind : FlatItem → Option Kind → Option Item
item_of_kind n (Some k) =
    Some (record {
      kind = k;
      line = n.line;
      class = n.class;
      index = n.index;
      value = n.value;
      place = n.place;
      length = n.length;
    })
item_of_kind n None = None

-- the item that has these numbers, if any
abbrev pub item_with : FlatItem → Option Item
item_with n = item_of_kind n (kind_with n.kind)
