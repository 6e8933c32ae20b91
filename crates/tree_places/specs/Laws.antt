-- The laws of places: their order, and how they rise with the text.
use Rattle.std.specs.Prelude.{◌≡◌, ◌⊎◌, true, ℕ, List, ◌∷◌, ◌++◌, length}
use Rattle.cstar_base.specs.declared.faults.Fault.{Fault}
use Rattle.cstar_base.specs.declared.operators.Place.{Place}
use Rattle.cstar_lexer.specs.Places.{place_at}
use Rattle.cstar_lexer.specs.Reading.{IsText}
use Rattle.cstar_tree.specs.declared.syntax.Item.{Item}
use Rattle.cstar_tree.specs.declared.syntax.Tree.{Tree}
use Rattle.cstar_tree.specs.declared.token.Tokens.{Tokens}
use Rattle.cstar_tree.specs.FaultOrder.{comes_before}
use Rattle.cstar_tree.specs.Items.{IsTree}
use Rattle.tree_places.specs.Order.{NotBehind, Rise}
use Rattle.tree_places.specs.Rising.{InOrder, begin_of}
use Rattle.tree_places.specs.Statements.{ItemWithin}
use Rattle.tree_places.specs.Within.{Each}

pub record PlacesStandInOneOrder : Type 0 where
  pub same : (p : Place) → NotBehind p p
  pub through : (p q r : Place) → NotBehind p q → NotBehind q r → NotBehind p r
  pub both : (p q : Place) → NotBehind p q → NotBehind q p → p ≡ q
  pub any : (p q : Place) → NotBehind p q ⊎ NotBehind q p

-- a fault at one place, and another at another
pub record FaultsFollowPlaces : Type 0 where
  pub told : (fault other : Fault) (p q : Place) → comes_before fault p other q ≡ true → NotBehind p q
  pub earlier : (fault other : Fault) (p q : Place) → (NotBehind q p → ⊥) → comes_before fault p other q ≡ true

-- the tokens of a text, with the place behind all its bytes as their end
abbrev pub TextsRise : Type 0
TextsRise = (bytes : List ℕ) (tokens : Tokens) → IsText bytes tokens.list.items → tokens.end ≡ place_at bytes (length bytes) → Rise tokens

abbrev pub TreesOfRisingTokensAreInOrder : Type 0
TreesOfRisingTokensAreInOrder = (tokens : Tokens) (tree : Tree) → Rise tokens → IsTree tokens tree → InOrder tree

-- what `lex` and `parse` ensure of a text's tokens and their tree
abbrev pub TreesOfTextsAreInOrder : Type 0
TreesOfTextsAreInOrder =
    (bytes : List ℕ) (tokens : Tokens) (tree : Tree) → IsText bytes tokens.list.items → tokens.end ≡ place_at bytes (length bytes) → IsTree tokens tree → InOrder tree

-- an item of a tree, and those behind it
abbrev pub ItemsStandBeforeWhatFollows : Type 0
ItemsStandBeforeWhatFollows =
    (tree : Tree) (before rest : List Item) (item : Item) → InOrder tree → tree.items.items ≡ before ++ item ∷ rest → Each (ItemWithin (NotBehind (begin_of item))) (item ∷ rest)
