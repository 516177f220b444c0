-- What is left of an item, as a list.
use Rattle.std.specs.Prelude.{List, [], ◌∷◌, Some, None, Option}
use Rattle.rules.specs.declared.items.Item.{Item}

abbrev pub listed : Option Item → List Item
listed None = []
listed (Some i) = i ∷ []
