-- The grammar of variable declarations.
use Rattle.std.specs.Prelude.{ℕ, List, [], ◌∷◌, ◌++◌, Some, None, Option, Vec}
use Rattle.std.specs.declared.alloc.Global.{Global}
use Rattle.cstar_base.specs.declared.operators.Place.{Place}
use Rattle.cstar_tree.specs.declared.token.Token.{Token}
use Rattle.cstar_tree.specs.declared.token.Kind.TheVariants as K
use Rattle.cstar_tree.specs.declared.token.Mark.TheVariants as M
use Rattle.cstar_tree.specs.declared.syntax.Expr.{Expr}
use Rattle.cstar_tree.specs.declared.syntax.Declaration.{Declaration}
use Rattle.cstar_tree.specs.declared.syntax.Declarator.{Declarator}
use Rattle.cstar_tree.specs.declared.syntax.Initializer.{Initializer}
use Rattle.cstar_tree.specs.declared.syntax.Name.{Name}
use Rattle.cstar_tree.specs.declared.syntax.TypeName.{TypeName}
use Rattle.cstar_tree.specs.Positions.{Stands, StandsMark}
use Rattle.cstar_tree.specs.Types.{IsType}
use Rattle.cstar_tree.specs.Expressions.{IsExpr}

-- the length of an array in square brackets, or nothing
pub data IsLength (tokens : List Token) : ℕ → Option Expr → ℕ → Type 0 where
  no_length : {from : ℕ} → IsLength tokens from None from
  length_is : {from a b to : ℕ} {begin end : Place} {e : Expr} → StandsMark tokens from M.LeftBracket begin a → IsExpr tokens a e b → StandsMark tokens b M.RightBracket end to → IsLength tokens from (Some e) to

-- `=` and a value, or nothing
pub data IsInitial (tokens : List Token) : ℕ → Option Initializer → ℕ → Type 0 where
  no_initial : {from : ℕ} → IsInitial tokens from None from
  initial_is : {from mid to : ℕ} {p : Place} {e : Expr} → StandsMark tokens from M.Equal p mid → IsExpr tokens mid e to → IsInitial tokens from (Some (record { place = p; value = e })) to

-- a declared name with its length and its initialiser
pub data IsDeclarator (tokens : List Token) : ℕ → Declarator → ℕ → Type 0 where
  declarator : {from a b to : ℕ} {n : Name} {length : Option Expr} {initial : Option Initializer} → Stands tokens from (K.Name n.word) n.place a → IsLength tokens a length b → IsInitial tokens b initial to → IsDeclarator tokens from (record { name = n; length = length; initial = initial }) to

-- declared names with commas between them
pub data AreDeclarators (tokens : List Token) : ℕ → List Declarator → ℕ → Type 0 where
  first_name : {from to : ℕ} {d : Declarator} → IsDeclarator tokens from d to → AreDeclarators tokens from (d ∷ []) to
  next_name : {from mid next to : ℕ} {comma : Place} {list : List Declarator} {d : Declarator} → AreDeclarators tokens from list mid → StandsMark tokens mid M.Comma comma next → IsDeclarator tokens next d to → AreDeclarators tokens from (list ++ d ∷ []) to

-- a type, the declared names and a semicolon
pub data IsDeclaration (tokens : List Token) : ℕ → Declaration → ℕ → Type 0 where
  declaration : {from a b to : ℕ} {t : TypeName} {end : Place} {variables : Vec Declarator Global} → IsType tokens from t a → AreDeclarators tokens a variables.items b → StandsMark tokens b M.Semicolon end to → IsDeclaration tokens from (record { type_name = t; variables = variables }) to

-- declarations, one behind the other
pub data AreDeclarations (tokens : List Token) : ℕ → List Declaration → ℕ → Type 0 where
  no_declaration : {from : ℕ} → AreDeclarations tokens from [] from
  one_more : {from mid to : ℕ} {list : List Declaration} {d : Declaration} → AreDeclarations tokens from list mid → IsDeclaration tokens mid d to → AreDeclarations tokens from (list ++ d ∷ []) to
