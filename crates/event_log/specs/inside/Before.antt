-- Lines that no fault stands in, and the items that they gave.
use Rattle.std.specs.Prelude.{◌≡◌, List, [], ◌∷◌, ◌++◌, None}
use Rattle.event_log.specs.declared.item.Item.{Item}
use Rattle.event_log.specs.Before.{Line, told}

abbrev pub Lines : Type 0
Lines = List Line

unfoldable pub AreFine : List Line → Type 0
AreFine [] = Unit {0}
AreFine (line ∷ older) = ((told older line).fault ≡ None) × AreFine older

-- what they give, in their order
unfoldable pub items_of : List Line → List Item
items_of [] = []
items_of (line ∷ older) = items_of older ++ (told older line).items
