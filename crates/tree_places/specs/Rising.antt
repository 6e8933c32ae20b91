-- Trees whose places rise with the text.
use Rattle.std.specs.Prelude.{List, [], ◌∷◌}
use Rattle.cstar_base.specs.declared.operators.Place.{Place}
use Rattle.cstar_tree.specs.declared.syntax.Item.{Item}
use Rattle.cstar_tree.specs.declared.syntax.Item.TheVariants as I
use Rattle.cstar_tree.specs.declared.syntax.Tree.{Tree}
use Rattle.tree_places.specs.Order.{NotBehind}
use Rattle.tree_places.specs.Statements.{ItemWithin}
use Rattle.tree_places.specs.Within.{Each}

-- an item's own place, that of its first token
abbrev pub begin_of : Item → Place
begin_of (I.Shapes p shapes) = p
begin_of (I.Variables d) = d.type_name.place
begin_of (I.Function f) = f.place

-- no place in an item stands before the item's own, or behind a place in a later item
unfoldable pub AreInOrder : List Item → Type 0
AreInOrder [] = Unit {0}
AreInOrder (item ∷ rest) = ItemWithin (NotBehind (begin_of item)) item × ItemWithin (λ (p : Place). Each (ItemWithin (NotBehind p)) rest) item × AreInOrder rest

-- the places of a tree rise with the text, and none is behind its end
pub record InOrder (tree : Tree) : Type 0 where
  pub items : AreInOrder tree.items.items
  pub ends : Each (ItemWithin (λ (p : Place). NotBehind p tree.end)) tree.items.items
