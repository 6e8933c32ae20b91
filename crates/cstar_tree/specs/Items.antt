-- The grammar of files: shapes, variables and functions.
use Rattle.std.specs.Prelude.{◌≡◌, ℕ, List, [], ◌∷◌, ◌++◌, Some, Vec, length}
use Rattle.std.specs.declared.alloc.Global.{Global}
use Rattle.cstar_base.specs.declared.operators.Place.{Place}
use Rattle.cstar_tree.specs.declared.token.Token.{Token}
use Rattle.cstar_tree.specs.declared.token.Tokens.{Tokens}
use Rattle.cstar_tree.specs.declared.token.Kind.TheVariants as K
use Rattle.cstar_tree.specs.declared.token.Mark.TheVariants as M
use Rattle.cstar_tree.specs.declared.syntax.Declaration.{Declaration}
use Rattle.cstar_tree.specs.declared.syntax.Expr.{Expr}
use Rattle.cstar_tree.specs.declared.syntax.Function.{Function}
use Rattle.cstar_tree.specs.declared.syntax.Item.{Item}
use Rattle.cstar_tree.specs.declared.syntax.Item.TheVariants as I
use Rattle.cstar_tree.specs.declared.syntax.Name.{Name}
use Rattle.cstar_tree.specs.declared.syntax.Parameter.{Parameter}
use Rattle.cstar_tree.specs.declared.syntax.ResultType.{ResultType}
use Rattle.cstar_tree.specs.declared.syntax.ResultType.TheVariants as R
use Rattle.cstar_tree.specs.declared.syntax.ShapeDefinition.{ShapeDefinition}
use Rattle.cstar_tree.specs.declared.syntax.Tree.{Tree}
use Rattle.cstar_tree.specs.declared.syntax.TypeName.{TypeName}
use Rattle.cstar_tree.specs.Positions.{Stands, StandsMark, token_place}
use Rattle.cstar_tree.specs.Types.{IsType}
use Rattle.cstar_tree.specs.Expressions.{AreIndexes}
use Rattle.cstar_tree.specs.Declarations.{IsDeclaration}
use Rattle.cstar_tree.specs.Statements.{IsBlock}

-- bracketed extents and the name of a shape
pub data IsShapeDefinition (tokens : List Token) : ℕ → ShapeDefinition → ℕ → Type 0 where
  shape_definition : {from mid to : ℕ} {p : Place} {n : Name} {extents : Vec Expr Global} → AreIndexes tokens from p extents.items mid → Stands tokens mid (K.Name n.word) n.place to → IsShapeDefinition tokens from (record { extents = extents; name = n }) to

-- shapes with commas between them
pub data AreShapeDefinitions (tokens : List Token) : ℕ → List ShapeDefinition → ℕ → Type 0 where
  first_shape : {from to : ℕ} {s : ShapeDefinition} → IsShapeDefinition tokens from s to → AreShapeDefinitions tokens from (s ∷ []) to
  next_shape : {from mid next to : ℕ} {comma : Place} {list : List ShapeDefinition} {s : ShapeDefinition} → AreShapeDefinitions tokens from list mid → StandsMark tokens mid M.Comma comma next → IsShapeDefinition tokens next s to → AreShapeDefinitions tokens from (list ++ s ∷ []) to

-- a type and a name
pub data IsParameter (tokens : List Token) : ℕ → Parameter → ℕ → Type 0 where
  parameter : {from mid to : ℕ} {t : TypeName} {n : Name} → IsType tokens from t mid → Stands tokens mid (K.Name n.word) n.place to → IsParameter tokens from (record { type_name = t; name = n }) to

-- parameters with commas between them
pub data AreNamed (tokens : List Token) : ℕ → List Parameter → ℕ → Type 0 where
  first_parameter : {from to : ℕ} {p : Parameter} → IsParameter tokens from p to → AreNamed tokens from (p ∷ []) to
  next_parameter : {from mid next to : ℕ} {comma : Place} {list : List Parameter} {p : Parameter} → AreNamed tokens from list mid → StandsMark tokens mid M.Comma comma next → IsParameter tokens next p to → AreNamed tokens from (list ++ p ∷ []) to

-- nothing, `void`, or named parameters
pub data AreParameters (tokens : List Token) : ℕ → List Parameter → ℕ → Type 0 where
  nothing : {from : ℕ} → AreParameters tokens from [] from
  void : {from to : ℕ} {p : Place} → StandsMark tokens from M.Void p to → AreParameters tokens from [] to
  named : {from to : ℕ} {list : List Parameter} → AreNamed tokens from list to → AreParameters tokens from list to

-- nothing, `void` or a type
pub data IsResult (tokens : List Token) : ℕ → ResultType → ℕ → Type 0 where
  unwritten : {from : ℕ} → IsResult tokens from R.Unwritten from
  void : {from to : ℕ} {p : Place} → StandsMark tokens from M.Void p to → IsResult tokens from R.Void to
  written : {from to : ℕ} {t : TypeName} → IsType tokens from t to → IsResult tokens from (R.Written t) to

-- a function, which stands at its first token
pub data IsFunction (tokens : List Token) : ℕ → Function → ℕ → Type 0 where
  function : {from a b c d e to : ℕ} {begin end : Place} (f : Function) → token_place tokens from ≡ Some f.place → IsResult tokens from f.result a → Stands tokens a (K.Name f.name.word) f.name.place b → StandsMark tokens b M.LeftParen begin c → AreParameters tokens c f.parameters.items d → StandsMark tokens d M.RightParen end e → IsBlock tokens e f.body to → IsFunction tokens from f to

-- an item of a file
pub data IsItem (tokens : List Token) : ℕ → Item → ℕ → Type 0 where
  shapes : {from a b to : ℕ} {p end : Place} {shapes : Vec ShapeDefinition Global} → StandsMark tokens from M.Shape p a → AreShapeDefinitions tokens a shapes.items b → StandsMark tokens b M.Semicolon end to → IsItem tokens from (I.Shapes p shapes) to
  variables : {from to : ℕ} {d : Declaration} → IsDeclaration tokens from d to → IsItem tokens from (I.Variables d) to
  function_is : {from to : ℕ} {f : Function} → IsFunction tokens from f to → IsItem tokens from (I.Function f) to

-- items, one behind the other
pub data AreItems (tokens : List Token) : ℕ → List Item → ℕ → Type 0 where
  no_item : {from : ℕ} → AreItems tokens from [] from
  one_more : {from mid to : ℕ} {list : List Item} {item : Item} → AreItems tokens from list mid → IsItem tokens mid item to → AreItems tokens from (list ++ item ∷ []) to

-- all the tokens of a text are the items of a tree, and both end at one place
pub record IsTree (tokens : Tokens) (tree : Tree) : Type 0 where
  pub items : AreItems tokens.list.items 0 tree.items.items (length tokens.list.items)
  pub end_is : tree.end ≡ tokens.end
