-- The types of statements: which typed tree a statement becomes where it stands.
use Rattle.std.specs.Prelude.{◌≡◌, ℕ, ◌≤◌, Bool, true, List, [], ◌∷◌, ◌++◌, Option, Some, None, IsNone, Box, Vec}
use Rattle.std.specs.declared.alloc.Global.{Global}
use Rattle.cstar_base.specs.declared.operators.Place.{Place}
use Rattle.cstar_tree.specs.declared.syntax.Block.{Block}
use Rattle.cstar_tree.specs.declared.syntax.Declaration.{Declaration}
use Rattle.cstar_tree.specs.declared.syntax.Declarator.{Declarator}
use Rattle.cstar_tree.specs.declared.syntax.Expr.{Expr}
use Rattle.cstar_tree.specs.declared.syntax.Initializer.{Initializer}
use Rattle.cstar_tree.specs.declared.syntax.ShapeRef.{ShapeRef}
use Rattle.cstar_tree.specs.declared.syntax.Stmt.{Stmt}
use Rattle.cstar_tree.specs.declared.syntax.Stmt as S
use Rattle.cstar_tree.specs.declared.typed.LocalVar.{LocalVar}
use Rattle.cstar_tree.specs.declared.typed.TExpr.{TExpr}
use Rattle.cstar_tree.specs.declared.typed.TStmt.{TStmt}
use Rattle.cstar_tree.specs.declared.typed.TStmt as T
use Rattle.cstar_tree.specs.declared.typed.ValueType.{ValueType}
use Rattle.cstar_tree.specs.declared.typed.VarInfo.{VarInfo}
use Rattle.cstar_tree.specs.Typed.{type_of}
use Rattle.cstar_tree.specs.BlockScopes.{behind, behind_declarations, behind_declarator, behind_declarators, block_place, declared_type, in_loop}
use Rattle.cstar_tree.specs.Conversions.{IsFitted}
use Rattle.cstar_tree.specs.ExpressionTypes.{Types}
use Rattle.cstar_tree.specs.Headers.{Program, Returns, a_value}
use Rattle.cstar_tree.specs.Scopes.{Here, IsAtHand, VariableType, as_whole, find, shape_of, under, written_type}

-- a variable of the typed program
abbrev pub variable_info : List ℕ → VariableType → ℕ → VarInfo
variable_info word ty start = record { name = word; elem = ty.value.elem; shape = ty.value.shape; array = ty.array; start = start }

-- an array has a shape, from 1 to 64 elements and no initialiser
pub data IsDeclarable : VariableType → Option Initializer → Type 0 where
  plain : {ty : ValueType} {initial : Option Initializer} → IsDeclarable (record { value = ty; array = None }) initial
  array : {ty : ValueType} {shape length : ℕ} → ty.shape ≡ Some shape → 1 ≤ length → length ≤ 64 → IsDeclarable (record { value = ty; array = Some length }) None

-- the initialiser of a variable of a block: a parallel one has the current shape, a scalar one takes
-- a scalar value
pub data TypesInitial (program : Program) (here : Here) (ty : ValueType) : Option Initializer → Option TExpr → Type 0 where
  no_initial : TypesInitial program here ty None None
  initial : {i : Initializer} {t f : TExpr} → Types program here i.value t true → IsAtHand here.current ty.shape → (ty.shape ≡ None → (type_of t).shape ≡ None) → IsFitted t ty f → TypesInitial program here ty (Some i) (Some f)

-- a variable that its scope does not have yet
pub record TypesLocal (program : Program) (here : Here) (ty : ValueType) (d : Declarator) (local : LocalVar) : Type 0 where
  pub variable : VariableType
  pub is_new : IsNone (find here.names.inner d.name.word)
  pub its_type : declared_type here (Some ty) d.length ≡ Some variable
  pub declarable : IsDeclarable variable d.initial
  pub info : local.info ≡ variable_info d.name.word variable 0
  pub initial : TypesInitial program (behind_declarator here (Some ty) d) variable.value d.initial local.initial

pub data TypesLocals (program : Program) : Here → ValueType → List Declarator → List LocalVar → Type 0 where
  no_variable : {here : Here} {ty : ValueType} → TypesLocals program here ty [] []
  next_variable : {here : Here} {ty : ValueType} {d : Declarator} {ds : List Declarator} {l : LocalVar} {ls : List LocalVar} → TypesLocal program here ty d l → TypesLocals program (behind_declarator here (Some ty) d) ty ds ls → TypesLocals program here ty (d ∷ ds) (l ∷ ls)

-- declarations, one behind the other
pub data TypesDeclarations (program : Program) : Here → List Declaration → List LocalVar → Type 0 where
  no_declaration : {here : Here} → TypesDeclarations program here [] []
  next_declaration : {here : Here} {ty : ValueType} {d : Declaration} {ds : List Declaration} {ls rest : List LocalVar} → written_type here d.type_name ≡ Some ty → TypesLocals program here ty d.variables.items ls → TypesDeclarations program (behind_declarators here (Some ty) d.variables.items) ds rest → TypesDeclarations program here (d ∷ ds) (ls ++ rest)

-- an expression that may be left out: one that needs a value, and one that is run for its effect
pub data TypesValueIf (program : Program) (here : Here) : Option Expr → Option TExpr → Type 0 where
  absent : TypesValueIf program here None None
  present : {e : Expr} {t : TExpr} → Types program here e t true → TypesValueIf program here (Some e) (Some t)

pub data TypesEffectIf (program : Program) (here : Here) : Option Expr → Option TExpr → Type 0 where
  absent : TypesEffectIf program here None None
  present : {e : Expr} {t : TExpr} {has_value : Bool} → Types program (as_whole here) e t has_value → TypesEffectIf program here (Some e) (Some t)

-- a condition of a statement that runs as C does is scalar
pub record TypesTest (program : Program) (here : Here) (e : Expr) (t : TExpr) : Type 0 where
  pub typed : Types program here e t true
  pub is_scalar : (type_of t).shape ≡ None

pub data TypesTestIf (program : Program) (here : Here) : Option Expr → Option TExpr → Type 0 where
  absent : TypesTestIf program here None None
  present : {e : Expr} {t : TExpr} → TypesTest program here e t → TypesTestIf program here (Some e) (Some t)

-- What a function returns takes this value here: a scalar result a scalar value; a parallel result
-- has the current shape, and a scalar value is promoted to it.
pub data IsReturned (here : Here) : Returns → TExpr → TExpr → Type 0 where
  returned : {ty : ValueType} {t f : TExpr} → IsAtHand here.current ty.shape → (ty.shape ≡ None → (type_of t).shape ≡ None) → IsFitted t ty f → IsReturned here (a_value ty) t f

mutual
  -- a statement of a function that returns this becomes this typed one here
  pub data TypesStatement (program : Program) (returns : Returns) : Here → Stmt → TStmt → Type 0 where
    block_is : {here : Here} {block : Block} (locals : Vec LocalVar Global) (statements : Vec TStmt Global) → TypesBlock program returns (block_place here) block locals.items statements.items → TypesStatement program returns here (S.Block block) (T.Block locals statements)
    expression : {here : Here} {p : Place} {e : Expr} {t : TExpr} {has_value : Bool} → Types program (as_whole here) e t has_value → TypesStatement program returns here (S.Expression p e) (T.Expression t)
    empty : {here : Here} {p : Place} → TypesStatement program returns here (S.Empty p) T.Empty
    if_alone : {here : Here} {p : Place} {e : Expr} {t : TExpr} (second : Box Stmt Global) (a : Box TStmt Global) → TypesTest program here e t → TypesStatement program returns here second.value a.value → TypesStatement program returns here (S.If p e second None) (T.If t a None)
    if_else : {here : Here} {p : Place} {e : Expr} {t : TExpr} (second third : Box Stmt Global) (a b : Box TStmt Global) → TypesTest program here e t → TypesStatement program returns here second.value a.value → TypesStatement program returns (behind here second.value) third.value b.value → TypesStatement program returns here (S.If p e second (Some third)) (T.If t a (Some b))
    while : {here : Here} {p : Place} {e : Expr} {t : TExpr} (body : Box Stmt Global) (b : Box TStmt Global) → TypesTest program here e t → TypesStatement program returns (in_loop here) body.value b.value → TypesStatement program returns here (S.While p e body) (T.While t b)
    do_while : {here : Here} {p : Place} {e : Expr} {t : TExpr} (body : Box Stmt Global) (b : Box TStmt Global) → TypesStatement program returns (in_loop here) body.value b.value → TypesTest program here e t → TypesStatement program returns here (S.Do p body e) (T.Do b t)
    for : {here : Here} {p : Place} {first test step : Option Expr} {f t s : Option TExpr} (body : Box Stmt Global) (b : Box TStmt Global) → TypesEffectIf program here first f → TypesTestIf program here test t → TypesEffectIf program here step s → TypesStatement program returns (in_loop here) body.value b.value → TypesStatement program returns here (S.For p first test step body) (T.For f t s b)
    break : {here : Here} {p : Place} → here.loop ≡ true → TypesStatement program returns here (S.Break p) T.Break
    continue : {here : Here} {p : Place} → here.loop ≡ true → TypesStatement program returns here (S.Continue p) T.Continue
    return_alone : {here : Here} {p : Place} → TypesStatement program returns here (S.Return p None) (T.Return None)
    return_value : {here : Here} {p : Place} {e : Expr} {t f : TExpr} → Types program here e t true → IsReturned here returns t f → TypesStatement program returns here (S.Return p (Some e)) (T.Return (Some f))
    -- `with` makes a shape current within
    with : {here : Here} {p : Place} {written : ShapeRef} {shape : ℕ} (body : Box Stmt Global) (b : Box TStmt Global) → shape_of here written ≡ Some shape → TypesStatement program returns (under here shape) body.value b.value → TypesStatement program returns here (S.With p written body) (T.With shape b)
    everywhere : {here : Here} {p : Place} {shape : ℕ} (body : Box Stmt Global) (b : Box TStmt Global) → here.current ≡ Some shape → TypesStatement program returns here body.value b.value → TypesStatement program returns here (S.Everywhere p body) (T.Everywhere shape b)
    -- the condition of `where` is parallel
    where_alone : {here : Here} {p : Place} {e : Expr} {t : TExpr} {shape of : ℕ} (second : Box Stmt Global) (a : Box TStmt Global) → here.current ≡ Some shape → Types program here e t true → (type_of t).shape ≡ Some of → TypesStatement program returns here second.value a.value → TypesStatement program returns here (S.Where p e second None) (T.Where shape t a None)
    where_else : {here : Here} {p : Place} {e : Expr} {t : TExpr} {shape of : ℕ} (second third : Box Stmt Global) (a b : Box TStmt Global) → here.current ≡ Some shape → Types program here e t true → (type_of t).shape ≡ Some of → TypesStatement program returns here second.value a.value → TypesStatement program returns (behind here second.value) third.value b.value → TypesStatement program returns here (S.Where p e second (Some third)) (T.Where shape t a (Some b))

  -- statements, one behind the other
  pub data TypesStatements (program : Program) (returns : Returns) : Here → List Stmt → List TStmt → Type 0 where
    no_statement : {here : Here} → TypesStatements program returns here [] []
    next_statement : {here : Here} {s : Stmt} {t : TStmt} {ss : List Stmt} {ts : List TStmt} → TypesStatement program returns here s t → TypesStatements program returns (behind here s) ss ts → TypesStatements program returns here (s ∷ ss) (t ∷ ts)

  -- a block in the scope of this place: its variables, and then its statements
  pub data TypesBlock (program : Program) (returns : Returns) : Here → Block → List LocalVar → List TStmt → Type 0 where
    block : {here : Here} {locals : List LocalVar} {statements : List TStmt} (block : Block) → TypesDeclarations program here block.declarations.items locals → TypesStatements program returns (behind_declarations here block.declarations.items) block.statements.items statements → TypesBlock program returns here block locals statements
