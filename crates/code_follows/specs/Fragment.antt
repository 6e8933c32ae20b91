-- The programs of which it is said so far that their code means them: scalar ones, and those with some parallel
-- expressions beside and statements under contexts. Variables of the file and of blocks, parameters and results are of
-- any scalar type, `bool`, `char`, `short` or `int`, signed or not. The operands of operators, which typing promotes,
-- have 32 bits, and so has what is printed. Expressions name variables of open blocks alone, as typing gives.
use Rattle.std.specs.Prelude.{ℕ, List, map, slice_get, ◌≡◌, ◌<◌, ◌^◌, [], IfSome, Option, Some, None, ◌⊎◌, ◌+◌, ◌∷◌, length, true}
use Rattle.std.specs.List.{All, AllZip, Contains}
use Rattle.cstar_base.specs.declared.elem.Elem.{Elem}
use Rattle.cstar_base.specs.declared.operators.Place.{Place}
use Rattle.cstar_tree.specs.declared.syntax.AssignOp.{AssignOp}
use Rattle.cstar_tree.specs.declared.syntax.AssignOp.TheVariants as A
use Rattle.cstar_tree.specs.declared.typed.TExpr.{TExpr, Row_of-TExpr, end_of-TExpr, items-the_row-TExpr, more_of-TExpr}
use Rattle.cstar_tree.specs.declared.typed.TExpr as T
use Rattle.cstar_tree.specs.declared.typed.TStmt.{TStmt, Row_of-TStmt, end_of-TStmt, more_of-TStmt, Held-TStmt-If-2, None', Some'}
use Rattle.cstar_tree.specs.declared.typed.TStmt as S
use Rattle.cstar_tree.specs.declared.typed.Instance.{Instance}
use Rattle.cstar_tree.specs.declared.typed.Typed.{Typed}
use Rattle.cstar_tree.specs.declared.typed.LocalVar.{LocalVar}
use Rattle.cstar_tree.specs.declared.typed.UnaryOp.{UnaryOp}
use Rattle.cstar_tree.specs.declared.typed.UnaryOp.TheVariants as U
use Rattle.cstar_tree.specs.declared.typed.ValueType.{ValueType}
use Rattle.cstar_tree.specs.declared.typed.VarInfo.{VarInfo}
use Rattle.cstar_tree.specs.declared.typed.Variable.{Variable}
use Rattle.cstar_tree.specs.declared.typed.Variable.TheVariants as V
use Rattle.cstar_tree.specs.Typed.{type_of}
use Rattle.cstar_tree.specs.TypedParts.{calls_within}
use Rattle.shape_room.specs.CallOrders.{HasNoCycle}
use Rattle.code_lengths.specs.NamingStatements.{behind}
use Rattle.source_meaning.specs.State.{is_among}
use Rattle.source_meaning.specs.Values.{cast_type}

-- a scalar type: of 32 bits or fewer, as every type of elements
abbrev pub IsScalarType : ValueType → Type 0
IsScalarType ty = ty.shape ≡ None

-- a scalar type of 32 bits
abbrev pub IsWord : ValueType → Type 0
IsWord ty = (ty.shape ≡ None) × (ty.elem.bits ≡ 32)

-- a number of a type is one of another without a conversion: they are the same, or both of 32 bits
abbrev pub Takes : Elem → Elem → Type 0
Takes to from = (from ≡ to) ⊎ ((from.bits ≡ 32) × (to.bits ≡ 32))

-- what is assigned to a variable: without an operator a number that it takes, else one of 32 bits
unfoldable pub IsGiven : AssignOp → ValueType → ValueType → Type 0
IsGiven A.Set to from = Takes to.elem from.elem
IsGiven _ to from = IsWord from

-- the operand of a unary operator: `!` asks only whether it is 0, the others take one of 32 bits
unfoldable pub IsOperand : UnaryOp → ValueType → Type 0
IsOperand U.Not ty = IsScalarType ty
IsOperand _ ty = IsWord ty

-- the parallel expressions that a program may have beside scalar ones, the contexts under which its statements may
-- stand, and its parallel variables
pub record Beside : Type 1 where
  pub effects : TExpr → Type 0  -- whose value is not used
  pub folds : TExpr → Type 0  -- whose value is a number
  pub positions : Variable → Type 0  -- single positions of these variables are read and stored
  pub conditions : ℕ → TExpr → Type 0  -- of `where`, by its shape
  pub widens : ℕ → Type 0  -- the shapes of `everywhere`
  pub variables : VarInfo → Type 0  -- of the file, beside scalar ones
  pub locals : VarInfo → Type 0  -- of blocks, beside scalar ones

-- What the body of a function may do: call which functions, by their instances' numbers, with arguments of which
-- types, for a value of which type where it is used; return numbers of which types; name which variables; and have
-- which parallel expressions and contexts.
pub record May : Type 1 where
  pub calls : Option Elem → ℕ → List Elem → Type 0
  pub returns : Elem → Type 0
  pub names : Variable → Type 0
  pub beside : Beside

-- the same with other variables to name
abbrev pub naming : May → (Variable → Type 0) → May
naming may names = record may { names = names }

-- the variables of some, and so many of a block from a number on
abbrev pub OrAmong : (Variable → Type 0) → ℕ → ℕ → Variable → Type 0
OrAmong names n many x = names x ⊎ (is_among n many x ≡ true)

-- where that block is open, they may be named too
abbrev pub within : May → ℕ → ℕ → May
within may n many = naming may (λ x. OrAmong may.names n many x)

-- a scalar variable that may be named, as it is used, maybe in brackets
unfoldable pub IsVariable : May → TExpr → Type 0
IsVariable may (T.Variable ty x) = IsScalarType ty × may.names x
IsVariable may (T.Brackets' ty p inner) = (ty ≡ type_of inner) × IsVariable may inner
IsVariable may _ = ⊥

-- the types of arguments
abbrev pub elems_of : {n : _} → Row_of-TExpr n → List Elem
elems_of arguments = map (λ (e : TExpr). (type_of e).elem) (items-the_row-TExpr _ arguments)

-- the variables that a parallel expression names are among these
unfoldable mutual
  pub NamesAmong : (Variable → Type 0) → TExpr → Type 0
  NamesAmong names (T.Variable ty x) = names x
  NamesAmong names (T.Brackets' ty p inner) = NamesAmong names inner
  NamesAmong names (T.Convert' ty p operand) = NamesAmong names operand
  NamesAmong names (T.ParallelCast' ty p operand) = NamesAmong names operand
  NamesAmong names (T.Promote' ty p operand) = NamesAmong names operand
  NamesAmong names (T.Casts' ty elems p operand) = NamesAmong names operand
  NamesAmong names (T.Unary' ty op p operand) = NamesAmong names operand
  NamesAmong names (T.Binary' ty place op p left q right) = NamesAmong names left × NamesAmong names right
  NamesAmong names (T.Choice' ty p test q first r second) = NamesAmong names test × NamesAmong names first × NamesAmong names second
  NamesAmong names (T.LogicalOr' ty p left q right) = NamesAmong names left × NamesAmong names right
  NamesAmong names (T.LogicalAnd' ty p left q right) = NamesAmong names left × NamesAmong names right
  NamesAmong names (T.Assign' ty place op p target q value) = NamesAmong names target × NamesAmong names value
  NamesAmong names (T.Step' ty op order p target) = NamesAmong names target
  NamesAmong names (T.Reduce' ty op p operand) = NamesAmong names operand
  NamesAmong names (T.LeftIndex' ty place p indexes x of) = names x × AllAmong names indexes
  NamesAmong names (T.Scan' ty p source axis combiner direction mode bit within) = IfSome bit names × NamesAmong names source
  NamesAmong names (T.Enumerate ty axis direction within mode bit) = IfSome bit names
  NamesAmong names _ = Unit {0}

  pub AllAmong : {n : _} → (Variable → Type 0) → Row_of-TExpr n → Type 0
  AllAmong names end_of-TExpr = Unit {0}
  AllAmong names (more_of-TExpr e rest) = NamesAmong names e × AllAmong names rest

-- An expression whose value is used: of numbers, variables, `getchar`, operators, conversions and casts to any
-- scalar types, assignments to scalar variables and to single positions of parallel ones, and steps of these, calls, folds
-- of parallel values, and reads of single positions.
unfoldable mutual
  pub IsIn : May → TExpr → Type 0
  IsIn may (T.Number ty value) = IsWord ty × (value < 2 ^ 32)
  IsIn may (T.PositionsOf ty shape value) = IsWord ty × (value < 2 ^ 32)
  IsIn may (T.RankOf ty shape value) = IsWord ty × (value < 2 ^ 32)
  IsIn may (T.DimOf ty shape axis value) = IsWord ty × (value < 2 ^ 32)
  IsIn may (T.Variable ty x) = IsScalarType ty × may.names x
  IsIn may (T.GetChar ty) = IsWord ty
  IsIn may (T.Brackets' ty p inner) = (ty ≡ type_of inner) × IsIn may inner
  IsIn may (T.Convert' ty p operand) = IsScalarType ty × IsIn may operand
  IsIn may (T.Casts' ty elems p operand) = IsScalarType ty × (ty.elem ≡ cast_type elems.items (type_of operand).elem) × IsIn may operand
  IsIn may (T.Unary' ty op p operand) = IsWord ty × IsIn may operand × IsOperand op (type_of operand)
  IsIn may (T.Binary' ty place op p left q right) = IsWord ty × IsIn may left × IsIn may right × IsWord (type_of left) × IsWord (type_of right)
  IsIn may (T.LogicalOr' ty p left q right) = IsWord ty × IsIn may left × IsIn may right
  IsIn may (T.LogicalAnd' ty p left q right) = IsWord ty × IsIn may left × IsIn may right
  IsIn may (T.Choice' ty p test q first r second) = IsWord ty × IsIn may test × IsIn may first × IsIn may second × IsWord (type_of first) × IsWord (type_of second)
  IsIn may (T.Assign' ty place op p target q value) = IsScalarType ty × (ty ≡ type_of target) × (IsVariable may target ⊎ IsPosition may target) × IsIn may value × IsGiven op (type_of target) (type_of value)
  IsIn may (T.Step' ty op order p target) = IsScalarType ty × (ty ≡ type_of target) × (IsVariable may target ⊎ IsPosition may target)
  IsIn may (T.Call' ty index p arguments) = IsScalarType ty × may.calls (Some ty.elem) index (elems_of arguments) × AreIn may arguments
  IsIn may (T.Reduce' ty op p operand) = IsWord ty × may.beside.folds (T.Reduce' ty op p operand) × NamesAmong may.names (T.Reduce' ty op p operand)
  IsIn may (T.LeftIndex' ty place p indexes x of) = IsScalarType ty × may.beside.positions x × may.names x × AreIn may indexes
  IsIn may _ = ⊥

  -- a single position of a variable
  pub IsPosition : May → TExpr → Type 0
  IsPosition may (T.LeftIndex' ty place p indexes x of) = IsScalarType ty × may.beside.positions x × may.names x × AreIn may indexes
  IsPosition may _ = ⊥

  pub AreIn : {n : _} → May → Row_of-TExpr n → Type 0
  AreIn may end_of-TExpr = Unit {0}
  AreIn may (more_of-TExpr e rest) = IsIn may e × AreIn may rest

-- a parallel expression that the program may have, of variables that may be named
abbrev pub IsBeside : May → TExpr → Type 0
IsBeside may e = may.beside.effects e × NamesAmong may.names e

-- what is evaluated without its value being used: `printf` of numbers of 32 bits too, a call of a function without a
-- result, and a parallel assignment or step
unfoldable pub IsEffect : May → TExpr → Type 0
IsEffect may (T.Printf' ty pieces p arguments) = AreIn may arguments × All (λ (elem : Elem). elem.bits ≡ 32) (elems_of arguments)
IsEffect may (T.Call' ty index p arguments) = may.calls None index (elems_of arguments) × AreIn may arguments
IsEffect may (T.Brackets' ty p inner) = IsEffect may inner
IsEffect may (T.Assign' ty place op p target q value) = IsIn may (T.Assign' ty place op p target q value) ⊎ IsBeside may (T.Assign' ty place op p target q value)
IsEffect may (T.Step' ty op order p target) = IsIn may (T.Step' ty op order p target) ⊎ IsBeside may (T.Step' ty op order p target)
IsEffect may e = IsIn may e

-- a scalar variable, as it is declared
abbrev pub IsScalarVariable : VarInfo → Type 0
IsScalarVariable info = info.shape ≡ None

-- a scalar variable of a block
abbrev pub IsScalarLocal : LocalVar → Type 0
IsScalarLocal local = IsScalarVariable local.info

-- one that a program may have
abbrev pub IsBlockLocal : Beside → LocalVar → Type 0
IsBlockLocal beside local = IsScalarLocal local ⊎ beside.locals local.info

-- the type of a variable that is no array
abbrev pub type_named : VarInfo → ValueType
type_named info = record { elem = info.elem; shape = info.shape }

-- the variable of a block of this number takes a value by an assignment that the program may have
abbrev pub IsAssigned : May → ℕ → VarInfo → TExpr → Type 0
IsAssigned may n info e = (place : Place) × ((p : _) × ((q : _) × IsBeside may (T.Assign' (type_named info) place A.Set p (T.Variable (type_named info) (V.Local n)) q e)))

-- what a variable of a block, of this number, begins with: a number, or, if it is parallel, what may be assigned to it
abbrev pub IsInitial : May → ℕ → LocalVar → TExpr → Type 0
IsInitial may n local e = (IsScalarLocal local × IsIn may e × Takes local.info.elem (type_of e).elem) ⊎ ((set : ℕ) × ((local.info.shape ≡ Some set) × IsAssigned may n local.info e))

-- the initialisers of a block's variables, from a number on: each may name those before it, and its own
unfoldable pub AreInitials : May → ℕ → List LocalVar → Type 0
AreInitials may n [] = Unit {0}
AreInitials may n (local ∷ locals) = IfSome local.initial (λ e. IsInitial (within may n 1) n local e) × AreInitials (within may n 1) (n + 1) locals

-- the condition of a loop, or none
unfoldable pub IsTested : May → Option TExpr → Type 0
IsTested may None = Unit {0}
IsTested may (Some e) = IsIn may e

-- a statement in which no loop is left or gone on with from without
unfoldable mutual
  pub IsClosed : TStmt → Type 0
  IsClosed (S.Block' locals p statements) = AreClosed statements
  IsClosed (S.If' test p first second) = IsClosed first × IsClosedElse second
  IsClosed (S.With' shape p body) = IsClosed body
  IsClosed (S.Everywhere' shape p body) = IsClosed body
  IsClosed (S.Where' shape test p first second) = IsClosed first × IsClosedElse second
  IsClosed S.Break = ⊥
  IsClosed S.Continue = ⊥
  IsClosed _ = Unit {0}

  pub AreClosed : {n : _} → Row_of-TStmt n → Type 0
  AreClosed end_of-TStmt = Unit {0}
  AreClosed (more_of-TStmt s rest) = IsClosed s × AreClosed rest

  pub IsClosedElse : Held-TStmt-If-2 → Type 0
  IsClosedElse None' = Unit {0}
  IsClosedElse (Some' p s) = IsClosed s

-- Statements of these, where so many variables of blocks are declared before. Those of a block may be named in it
-- alone; each function begins with the variables of the file and its parameters.
unfoldable mutual
  pub IsInStatement : May → ℕ → TStmt → Type 0
  IsInStatement may n (S.Block' locals p statements) = All (IsBlockLocal may.beside) locals.items × AreInitials may n locals.items × AreInStatements (within may n (length locals.items)) (n + length locals.items) statements
  IsInStatement may n (S.Expression e) = IsEffect may e
  IsInStatement may n S.Empty = Unit {0}
  IsInStatement may n (S.If' test p first second) = IsIn may test × IsInStatement may n first × IsInElse may (behind n first) second
  IsInStatement may n (S.While' test p body) = IsIn may test × IsInStatement may n body
  IsInStatement may n (S.Do' p body test) = IsInStatement may n body × IsIn may test
  IsInStatement may n (S.For' first test step p body) = IfSome first (IsEffect may) × IsTested may test × IfSome step (IsEffect may) × IsInStatement may n body
  IsInStatement may n S.Break = Unit {0}
  IsInStatement may n S.Continue = Unit {0}
  IsInStatement may n (S.Return e) = IfSome e (λ e. IsIn may e × may.returns (type_of e).elem)
  IsInStatement may n (S.With' shape p body) = IsInStatement may n body
  IsInStatement may n (S.Everywhere' shape p body) = may.beside.widens shape × IsInStatement may n body
  IsInStatement may n (S.Where' shape test p first second) =
      may.beside.conditions shape test × NamesAmong may.names test
      × IsInStatement may n first × IsInElse may (behind n first) second

  pub AreInStatements : {k : _} → May → ℕ → Row_of-TStmt k → Type 0
  AreInStatements may n end_of-TStmt = Unit {0}
  AreInStatements may n (more_of-TStmt s rest) = IsInStatement may n s × AreInStatements may (behind n s) rest

  pub IsInElse : May → ℕ → Held-TStmt-If-2 → Type 0
  IsInElse may n None' = Unit {0}
  IsInElse may n (Some' p s) = IsInStatement may n s

-- a block of such statements
unfoldable pub IsBody : May → TStmt → Type 0
IsBody may (S.Block' locals p statements) = IsInStatement may 0 (S.Block' locals p statements) × AreClosed statements
IsBody may _ = ⊥

-- a variable of the file, or a parameter: not one of a block
unfoldable pub OfFileOrParam : Variable → Type 0
OfFileOrParam (V.File k) = Unit {0}
OfFileOrParam (V.Param k) = Unit {0}
OfFileOrParam (V.Local k) = ⊥

-- a variable of the file, which begins with a number of its type; a parallel one begins with 0
abbrev pub IsFileVariable : Beside → VarInfo → Type 0
IsFileVariable beside info = (IsScalarVariable info ⊎ (beside.variables info × (info.start ≡ 0))) × (info.start < 2 ^ info.elem.bits)

-- a function of scalars, with a result or none
pub record IsScalarFunction (may : May) (i : Instance) : Type 0 where
  pub params : All IsScalarVariable i.params.items
  pub result : (info : VarInfo) → i.result ≡ Some info → IsScalarVariable info
  pub body : IsBody may i.body

-- parameters take arguments of these types, one each
abbrev pub AreTaken : List VarInfo → List Elem → Type 0
AreTaken params given = AllZip (λ (param : VarInfo) (elem : Elem). Takes param.elem elem) params given

-- a result whose number is one of this type
abbrev pub IsResult : Option VarInfo → Elem → Type 0
IsResult result elem = (info : VarInfo) × ((result ≡ Some info) × Takes elem info.elem)

-- What the body of a function calls, but for `main`, may be called with arguments that its parameters take, and
-- with such a result where its value is used. What is returned is a number of the result's type, if there is a result.
abbrev pub may_of : Beside → Typed → Instance → May
may_of beside t i = record {
  calls = λ used index given.
      (callee : Instance) × ((slice_get t.instances.items index ≡ Some callee) × (0 < index) × Contains (calls_within i.body) index × IfSome used (λ elem. IsResult callee.result elem) × AreTaken callee.params.items given);
  returns = λ elem. (info : VarInfo) → i.result ≡ Some info → Takes info.elem elem;
  names = OfFileOrParam;
  beside = beside;
}

-- the numbers of the instances that each instance calls
abbrev pub called_in : Typed → List (List ℕ)
called_in t = map (λ (i : Instance). calls_within i.body) t.instances.items

-- A program of functions without recursion, with such parallel expressions, contexts and variables beside the scalar
-- ones.
pub record IsProgramBeside (beside : Beside) (t : Typed) : Type 0 where
  pub main : Instance
  pub is_main : slice_get t.instances.items 0 ≡ Some main
  pub no_cycle : HasNoCycle (called_in t)
  pub each : (number : ℕ) (i : Instance) → slice_get t.instances.items number ≡ Some i → IsScalarFunction (may_of beside t i) i
  pub names : (j k : ℕ) (a b : Instance) → slice_get t.instances.items j ≡ Some a → slice_get t.instances.items k ≡ Some b → a.name ≡ b.name → j ≡ k
  pub variables : All (IsFileVariable beside) t.vars.items

-- one of scalars alone
abbrev pub nothing_beside : Beside
nothing_beside = record { effects = λ e. ⊥; folds = λ e. ⊥; positions = λ x. ⊥; conditions = λ shape e. ⊥; widens = λ shape. ⊥; variables = λ info. ⊥; locals = λ info. ⊥ }

abbrev pub IsScalarProgram : Typed → Type 0
IsScalarProgram t = IsProgramBeside nothing_beside t
