-- The items of a tree whose tokens rise stand in order.
use Rattle.std.proofs.Common.{◌≡◌, ℕ, ◌≤◌, List, [], ◌∷◌, ◌++◌, Some, length, arith, subst, sym}
use Rattle.cstar_base.specs.declared.operators.Place.{Place}
use Rattle.cstar_tree.specs.declared.token.Token.{Token}
use Rattle.cstar_tree.specs.declared.token.Tokens.{Tokens}
use Rattle.cstar_tree.specs.declared.syntax.Item.{Item}
use Rattle.cstar_tree.specs.declared.syntax.Item.TheVariants as I
use Rattle.cstar_tree.specs.declared.syntax.Tree.{Tree}
use Rattle.cstar_tree.specs.declared.syntax.TypeName.{TypeName}
use Rattle.cstar_tree.specs.Declarations as D
use Rattle.cstar_tree.specs.Items.{IsItem, AreItems, IsTree}
use Rattle.cstar_tree.specs.Items as Z
use Rattle.cstar_tree.specs.Positions.{token_place}
use Rattle.cstar_tree.specs.Types.{IsType}
use Rattle.cstar_tree.specs.Types as T
use Rattle.tree_places.specs.Order.{NotBehind, Rise}
use Rattle.tree_places.specs.Rising.{AreInOrder, InOrder, begin_of}
use Rattle.tree_places.specs.Statements.{FunctionWithin, ItemWithin}
use Rattle.tree_places.specs.Within.{DeclarationWithin, Each, TypeWithin}
use Rattle.tree_places.proofs.Ending.{item_ends}
use Rattle.tree_places.proofs.ExpressionPlaces.{HoldsOfTokens}
use Rattle.tree_places.proofs.StatementPlaces as places

-- items with their first one in front
data Row (tokens : List Token) : ℕ → List Item → ℕ → Type 0 where
  no_item : {from : ℕ} → Row tokens from [] from
  first : {from mid to : ℕ} {rest : List Item} (item : Item) → IsItem tokens from item mid → Row tokens mid rest to → Row tokens from (item ∷ rest) to

row_more : {tokens : List Token} {from mid to : ℕ} {list : List Item} (item : Item) → Row tokens from list mid → IsItem tokens mid item to → Row tokens from (list ++ item ∷ []) to
row_more item no_item x = first item x no_item
row_more item (first other y r) x = first other y (row_more item r x)

row_of : {tokens : List Token} {from to : ℕ} {list : List Item} → AreItems tokens from list to → Row tokens from list to
row_of Z.no_item = no_item
row_of (Z.one_more {item = item} r x) = row_more item (row_of r) x

row_ends : {tokens : List Token} {from to : ℕ} {list : List Item} → Row tokens from list to → from ≤ to
row_ends no_item = omega arith
row_ends (first item x r) = let fx = item_ends x in let fr = row_ends r in omega arith

-- an item stands at its first token
type_begins : {tokens : List Token} {from to : ℕ} {t : TypeName} → IsType tokens from t to → token_place tokens from ≡ Some t.place
type_begins (T.scalar a b) = a
type_begins (T.parallel a b c d) = a

begins : {tokens : List Token} {from to : ℕ} {item : Item} → IsItem tokens from item to → token_place tokens from ≡ Some (begin_of item)
begins (Z.shapes a b c) = a.place_is
begins (Z.variables (D.declaration a b c)) = type_begins a
begins (Z.function_is (Z.function f a b c d e g h)) = a

module _ (tokens : List Token) (rising : (i j : ℕ) (p q : Place) → i ≤ j → token_place tokens i ≡ Some p → token_place tokens j ≡ Some q → NotBehind p q) where
  items_within : (P : Place → Type 0) (start stop : ℕ) → HoldsOfTokens P tokens start stop → {from to : ℕ} {list : List Item} → start ≤ from → to ≤ stop → Row tokens from list to → Each (ItemWithin P) list
  unfolding Each
  items_within P start stop holds l h no_item = tt
  items_within P start stop holds l h (first item x r) =
      let fx = item_ends x in
      let fr = row_ends r in
      (places.item P tokens start stop holds l (omega arith) x, items_within P start stop holds (omega arith) h r)

  in_order : {from to : ℕ} {list : List Item} → Row tokens from list to → AreInOrder list
  unfolding AreInOrder
  in_order no_item = tt
  in_order (first {from = from} {mid = mid} {to = to} {rest = rest} item x r) = (
    places.item (NotBehind (begin_of item)) tokens from mid (λ i p low high s. rising from i (begin_of item) p low (begins x) s) (omega arith) (omega arith) x,
    places.item (λ (p : Place). Each (ItemWithin (NotBehind p)) rest) tokens from mid
        (λ i p low high s. items_within (NotBehind p) mid to (λ j q from_mid below s'. rising i j p q (omega arith) s s') (omega arith) (omega arith) r)
        (omega arith) (omega arith) x,
    in_order r,
  )

pub tree_in_order : (tokens : Tokens) (tree : Tree) → Rise tokens → IsTree tokens tree → InOrder tree
tree_in_order tokens tree rise is = record {
  items = in_order tokens.list.items rise.rising (row_of is.items);
  ends =
      items_within tokens.list.items rise.rising (λ (p : Place). NotBehind p tree.end) 0 (length tokens.list.items)
      (λ i p low high s. subst (NotBehind p) (sym is.end_is) (rise.ends i p s))
      (omega arith) (omega arith) (row_of is.items);
}

-- an item's own place is one of its places
own_place : (P : Place → Type 0) (item : Item) → ItemWithin P item → P (begin_of item)
unfolding ItemWithin FunctionWithin DeclarationWithin TypeWithin
own_place P (I.Shapes p shapes) w = w.0
own_place P (I.Variables d) w = w.0.0
own_place P (I.Function f) w = w.0

follows : (before rest : List Item) (item : Item) → AreInOrder (before ++ item ∷ rest) → Each (ItemWithin (NotBehind (begin_of item))) (item ∷ rest)
unfolding AreInOrder Each
follows [] rest item o = (o.0, own_place (λ (p : Place). Each (ItemWithin (NotBehind p)) rest) item o.1)
follows (other ∷ before) rest item o = follows before rest item o.2

pub what_follows : (tree : Tree) (before rest : List Item) (item : Item) → InOrder tree → tree.items.items ≡ before ++ item ∷ rest → Each (ItemWithin (NotBehind (begin_of item))) (item ∷ rest)
what_follows tree before rest item o is = follows before rest item (subst AreInOrder is o.items)
