-- How many shapes a file defines.
use Rattle.std.specs.Prelude.{ℕ, ◌+◌, List, [], ◌∷◌, length}
use Rattle.cstar_tree.specs.declared.syntax.Item.{Item}
use Rattle.cstar_tree.specs.declared.syntax.Item.TheVariants as I

-- those of an item, and of all items
abbrev pub shapes_of : Item → ℕ
shapes_of (I.Shapes p shapes) = length shapes.items
shapes_of (I.Variables d) = 0
shapes_of (I.Function f) = 0

unfoldable pub shapes_in : List Item → ℕ
shapes_in [] = 0
shapes_in (item ∷ items) = shapes_of item + shapes_in items
