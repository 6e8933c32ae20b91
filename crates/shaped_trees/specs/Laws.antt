-- The laws: what the rules of typing give is shaped and lowerable, and names the variables that there are.
use Rattle.std.specs.Prelude.{◌≡◌, ℕ, Bool, true, false, List, Option, Some, is_none}
use Rattle.std.specs.List.{All}
use Rattle.cstar_tree.specs.declared.syntax.Declaration.{Declaration}
use Rattle.cstar_tree.specs.declared.syntax.Expr.{Expr}
use Rattle.cstar_tree.specs.declared.syntax.Stmt.{Stmt}
use Rattle.cstar_tree.specs.declared.syntax.Tree.{Tree}
use Rattle.cstar_tree.specs.declared.token.Tokens.{Tokens}
use Rattle.cstar_tree.specs.declared.typed.Instance.{Instance}
use Rattle.cstar_tree.specs.declared.typed.LocalVar.{LocalVar}
use Rattle.cstar_tree.specs.declared.typed.TExpr.{TExpr}
use Rattle.cstar_tree.specs.declared.typed.TStmt.{TStmt}
use Rattle.cstar_tree.specs.declared.typed.Typed.{Typed}
use Rattle.cstar_tree.specs.declared.typed.VarInfo.{VarInfo}
use Rattle.cstar_tree.specs.BlockScopes.{behind_declarations}
use Rattle.cstar_tree.specs.ExpressionTypes.{Types}
use Rattle.cstar_tree.specs.FileScopes.{file_known}
use Rattle.cstar_tree.specs.Headers.{Program, Returns}
use Rattle.cstar_tree.specs.Items.{IsTree}
use Rattle.cstar_tree.specs.Operations.{Target, target_of}
use Rattle.cstar_tree.specs.ProgramTypes.{NamesAll, TypesFile, TypesResult}
use Rattle.cstar_tree.specs.Scopes.{Here}
use Rattle.cstar_tree.specs.StatementTypes.{TypesDeclarations, TypesStatement}
use Rattle.cstar_tree.specs.Typed.{type_of}
use Rattle.cstar_tree.specs.Variables.{variables_of}
use Rattle.lower_expr.specs.Steps.{is_kept}
use Rattle.code_lengths.specs.Shaped.{IsShaped, IsTarget}
use Rattle.code_lengths.specs.ShapedStatements.{AreShapedLocals, IsShapedStatement}
use Rattle.shaped_trees.specs.Casts.{DeclarationNamesShapes, ExpressionNamesShapes, NamesShapes, StatementNamesShapes}
use Rattle.code_lengths.specs.Lowerable.{GivesValue, IsLowerable}
use Rattle.code_lengths.specs.LowerableStatements.{IsLowerableLocal, IsLowerableStatement}
use Rattle.code_lengths.specs.Naming.{KnowsVariables, NamesVariables, extents_in}
use Rattle.code_lengths.specs.NamingStatements.{StandFrom, StatementNamesVariables}
use Rattle.code_lengths.specs.Ready.{IsCodable}
use Rattle.shaped_trees.specs.Places.{IsInside, IsSound, KnowsShapes}

-- What an expression becomes, before it is brought to another type or shape: it is shaped, can be
-- assigned to where typing takes it as a target, and is kept in a register exactly where it has no shape.
pub record IsShapedValue (t : TExpr) : Type 0 where
  pub shaped : IsShaped t
  pub target : (which : Target) → target_of t ≡ Some which → IsTarget t
  pub kept : is_kept t ≡ is_none (type_of t).shape

abbrev pub TypedExpressionsAreShaped : Type 0
TypedExpressionsAreShaped =
    (program : Program) (here : Here) (e : Expr) (t : TExpr) (has_value : Bool) → IsSound here → ExpressionNamesShapes e → Types program here e t has_value → IsShapedValue t

-- the same expression is lowerable, and gives a value where it has one and is no whole statement
pub record IsLowerableValue (t : Typed) (whole has_value : Bool) (e : TExpr) : Type 0 where
  pub lowerable : IsLowerable t e
  pub gives : has_value ≡ true → whole ≡ false → GivesValue t e

abbrev pub TypedExpressionsAreLowerable : Type 0
TypedExpressionsAreLowerable =
    (program : Program) (typed : Typed) (here : Here) (e : Expr) (t : TExpr) (has_value : Bool) → IsSound here → IsInside program typed here → ExpressionNamesShapes e →
    Types program here e t has_value → IsLowerableValue typed here.whole has_value t

-- the same expression names no variables but those that its place knows, and says of shapes what is so of them
abbrev pub TypedExpressionsNameVariables : Type 0
TypedExpressionsNameVariables =
    (program : Program) (typed : Typed) (instance : Instance) (here : Here) (e : Expr) (t : TExpr) (has_value : Bool) → KnowsVariables typed instance here → Types program here e t has_value →
    NamesVariables typed instance here.locals t

-- declarations, and the place behind them
abbrev pub TypedDeclarationsAreShaped : Type 0
TypedDeclarationsAreShaped =
    (program : Program) (here : Here) (list : List Declaration) (locals : List LocalVar) → IsSound here → All DeclarationNamesShapes list → TypesDeclarations program here list locals →
    AreShapedLocals locals × IsSound (behind_declarations here list)

abbrev pub TypedStatementsAreShaped : Type 0
TypedStatementsAreShaped =
    (program : Program) (returns : Returns) (here : Here) (s : Stmt) (t : TStmt) → IsSound here → StatementNamesShapes s → TypesStatement program returns here s t → IsShapedStatement t

abbrev pub TypedDeclarationsAreLowerable : Type 0
TypedDeclarationsAreLowerable =
    (program : Program) (typed : Typed) (here : Here) (list : List Declaration) (locals : List LocalVar) →
    IsSound here → IsInside program typed here → here.whole ≡ false → All DeclarationNamesShapes list → TypesDeclarations program here list locals → All (IsLowerableLocal typed) locals

-- a statement of a function that returns this, and whose instance has this result
abbrev pub TypedStatementsAreLowerable : Type 0
TypedStatementsAreLowerable =
    (program : Program) (typed : Typed) (returns : Returns) (word : List ℕ) (result : Option VarInfo) (here : Here) (s : Stmt) (t : TStmt) →
    IsSound here → IsInside program typed here → here.whole ≡ false → TypesResult word returns result → StatementNamesShapes s → TypesStatement program returns here s t →
    IsLowerableStatement typed result t

-- a statement names no others either, where those that it declares are the instance's from the number on
-- that its place has
abbrev pub TypedStatementsNameVariables : Type 0
TypedStatementsNameVariables =
    (program : Program) (typed : Typed) (instance : Instance) (returns : Returns) (here : Here) (s : Stmt) (t : TStmt) →
    KnowsVariables typed instance here → KnowsShapes typed here → StandFrom (variables_of instance.body) here.locals (variables_of t) → TypesStatement program returns here s t →
    StatementNamesVariables typed instance here.locals t

-- what the laws of code lengths ask of an instance
abbrev pub HasShapedBody : Instance → Type 0
HasShapedBody instance = IsShapedStatement instance.body

abbrev pub TypedFilesAreShaped : Type 0
TypedFilesAreShaped = (tree : Tree) (typed : Typed) → NamesShapes tree → TypesFile tree typed → All HasShapedBody typed.instances.items

abbrev pub SpelledTreesNameShapes : Type 0
SpelledTreesNameShapes = (tokens : Tokens) (tree : Tree) → IsTree tokens tree → NamesShapes tree

abbrev pub HasLowerableBody : Typed → Instance → Type 0
HasLowerableBody typed instance = IsLowerableStatement typed instance.result instance.body

abbrev pub TypedFilesAreLowerable : Type 0
TypedFilesAreLowerable = (tree : Tree) (typed : Typed) → NamesShapes tree → TypesFile tree typed → All (HasLowerableBody typed) typed.instances.items

-- so the instances of a file's program have code, where the names of the file stand for all of its variables and shapes
abbrev pub TypedFilesHaveCode : Type 0
TypedFilesHaveCode = (tree : Tree) (typed : Typed) → NamesShapes tree → NamesAll tree typed.vars.items → (file_known tree).shapes ≡ extents_in typed → TypesFile tree typed → IsCodable typed
