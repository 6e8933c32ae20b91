-- The faults of typing that stand in a statement. The parts of a statement are its expressions and
-- its statements, so a fault anywhere in its body takes away that at the statement itself.
use Rattle.std.specs.Prelude.{◌≡◌, ℕ, ◌≤◌, ℤ, pos, Bool, true, false, List, ◌∷◌, Option, Some, None, Box}
use Rattle.std.specs.declared.alloc.Global.{Global}
use Rattle.cstar_base.specs.declared.faults.Fault.{Fault}
use Rattle.cstar_base.specs.declared.faults.Fault.TheVariants as F
use Rattle.cstar_base.specs.declared.operators.Place.{Place}
use Rattle.cstar_tree.specs.declared.syntax.Block.{Block}
use Rattle.cstar_tree.specs.declared.syntax.Declaration.{Declaration}
use Rattle.cstar_tree.specs.declared.syntax.Declarator.{Declarator}
use Rattle.cstar_tree.specs.declared.syntax.Expr.{Expr}
use Rattle.cstar_tree.specs.declared.syntax.Initializer.{Initializer}
use Rattle.cstar_tree.specs.declared.syntax.Name.{Name}
use Rattle.cstar_tree.specs.declared.syntax.ShapeRef.{ShapeRef}
use Rattle.cstar_tree.specs.declared.syntax.ShapeRef.TheVariants as R
use Rattle.cstar_tree.specs.declared.syntax.Stmt.{Stmt}
use Rattle.cstar_tree.specs.declared.syntax.Stmt as S
use Rattle.cstar_tree.specs.declared.syntax.TypeName.{TypeName}
use Rattle.cstar_tree.specs.declared.typed.TExpr.{TExpr}
use Rattle.cstar_tree.specs.declared.typed.TStmt.{TStmt}
use Rattle.cstar_tree.specs.declared.typed.ValueType.{ValueType}
use Rattle.cstar_tree.specs.Syntax.{place_of}
use Rattle.cstar_tree.specs.Typed.{type_of}
use Rattle.cstar_tree.specs.BlockScopes.{behind, behind_declarations, behind_declarator, behind_declarators, block_place, in_loop}
use Rattle.cstar_tree.specs.Constants.{constant_number}
use Rattle.cstar_tree.specs.ExpressionFaults.{FaultIn, IsAway, IsUntold, ValueFaultIn, kind_of, shape}
use Rattle.cstar_tree.specs.ExpressionTypes.{HasValue, Types}
use Rattle.cstar_tree.specs.Headers.{Program, Returns, a_value, nothing}
use Rattle.cstar_tree.specs.Scopes.{Here, Meaning, as_whole, find, meaning, part, shape_of, under, written_type}
use Rattle.cstar_tree.specs.StatementTypes.{TypesEffectIf, TypesStatement}

-- a shape that is named is unknown or no shape, or there is no current one
pub data ShapeFaultAt (here : Here) : ShapeRef → Fault → Place → Type 0 where
  unknown : {n : Name} → meaning here n.word ≡ None → ShapeFaultAt here (R.Named n) F.Unknown n.place
  no_shape : {n : Name} {m : Meaning} → meaning here n.word ≡ Some m → (kind_of m ≡ shape → ⊥) → ShapeFaultAt here (R.Named n) F.WrongKind n.place
  no_current : {p : Place} → here.current ≡ None → ShapeFaultAt here (R.Current p) F.NoShape p

-- the type that is written names such a shape
pub record TypeFaultAt (here : Here) (written : TypeName) (fault : Fault) (p : Place) : Type 0 where
  pub named : ShapeRef
  pub is_named : written.shape ≡ Some named
  pub stands : ShapeFaultAt here named fault p

-- the length of an array is outside 1 to 64
pub data IsOutside : ℤ → Type 0 where
  outside : {n : ℤ} → ((m : ℕ) → n ≡ pos m → 1 ≤ m → m ≤ 64 → ⊥) → IsOutside n

-- A fault of a declared array: it has no shape, an initialiser, or a length outside. That is the
-- fault of its name, whatever else is faulty.
pub data ArrayFault (here : Here) (ty : Option ValueType) (d : Declarator) : Type 0 where
  no_shape : {t : ValueType} {length : Expr} → ty ≡ Some t → t.shape ≡ None → d.length ≡ Some length → ArrayFault here ty d
  with_initial : {length : Expr} {i : Initializer} → d.length ≡ Some length → d.initial ≡ Some i → ArrayFault here ty d
  outside : {length : Expr} {n : ℤ} → d.length ≡ Some length → constant_number here length ≡ Some n → IsOutside n → ArrayFault here ty d

-- an extent, or the length of an array, has a fault, or is no constant expression
pub data LengthFaultIn (program : Program) (here : Here) (e : Expr) : Fault → Place → Type 0 where
  within : {fault : Fault} {p : Place} → FaultIn program (part here) e fault p → LengthFaultIn program here e fault p
  no_constant : {t : TExpr} {has_value : Bool} → Types program (part here) e t has_value → constant_number here e ≡ None → LengthFaultIn program here e F.Constant (place_of e)
  untold : IsUntold program (part here) e → LengthFaultIn program here e F.Constant (place_of e)

-- a declared variable of a block, whose type is written as this
pub data DeclaratorFault (program : Program) (here : Here) (ty : Option ValueType) (d : Declarator) : Fault → Place → Type 0 where
  redeclared : {m : Meaning} → find here.names.inner d.name.word ≡ Some m → DeclaratorFault program here ty d F.Redeclared d.name.place
  in_length : {e : Expr} {fault : Fault} {p : Place} → d.length ≡ Some e → LengthFaultIn program here e fault p → DeclaratorFault program here ty d fault p
  of_array : ArrayFault here ty d → DeclaratorFault program here ty d F.ArrayDecl d.name.place
  in_initial : {i : Initializer} {fault : Fault} {p : Place} → d.initial ≡ Some i → ValueFaultIn program (behind_declarator here ty d) i.value fault p → DeclaratorFault program here ty d fault p
  away : {i : Initializer} {t : ValueType} {s : ℕ} {fault : Fault} → find here.names.inner d.name.word ≡ None → d.length ≡ None → d.initial ≡ Some i → HasValue program (behind_declarator here ty d) i.value → ty ≡ Some t → t.shape ≡ Some s → IsAway here.current s fault → DeclaratorFault program here ty d fault d.name.place
  parallel_initial : {i : Initializer} {t : ValueType} {x : TExpr} {s : ℕ} → find here.names.inner d.name.word ≡ None → d.length ≡ None → d.initial ≡ Some i → Types program (behind_declarator here ty d) i.value x true → ty ≡ Some t → t.shape ≡ None → (type_of x).shape ≡ Some s → DeclaratorFault program here ty d F.ScalarWanted i.place

pub data DeclaratorsFault (program : Program) : Here → Option ValueType → List Declarator → Fault → Place → Type 0 where
  first : {here : Here} {ty : Option ValueType} {d : Declarator} {ds : List Declarator} {fault : Fault} {p : Place} → DeclaratorFault program here ty d fault p → DeclaratorsFault program here ty (d ∷ ds) fault p
  later : {here : Here} {ty : Option ValueType} {d : Declarator} {ds : List Declarator} {fault : Fault} {p : Place} → DeclaratorsFault program (behind_declarator here ty d) ty ds fault p → DeclaratorsFault program here ty (d ∷ ds) fault p

pub data DeclarationsFault (program : Program) : Here → List Declaration → Fault → Place → Type 0 where
  written : {here : Here} {d : Declaration} {ds : List Declaration} {fault : Fault} {p : Place} → TypeFaultAt here d.type_name fault p → DeclarationsFault program here (d ∷ ds) fault p
  first : {here : Here} {d : Declaration} {ds : List Declaration} {fault : Fault} {p : Place} → DeclaratorsFault program here (written_type here d.type_name) d.variables.items fault p → DeclarationsFault program here (d ∷ ds) fault p
  later : {here : Here} {d : Declaration} {ds : List Declaration} {fault : Fault} {p : Place} → DeclarationsFault program (behind_declarators here (written_type here d.type_name) d.variables.items) ds fault p → DeclarationsFault program here (d ∷ ds) fault p

-- an expression that may be left out
pub data FaultInIf (program : Program) (here : Here) : Option Expr → Fault → Place → Type 0 where
  present : {e : Expr} {fault : Fault} {p : Place} → FaultIn program (as_whole here) e fault p → FaultInIf program here (Some e) fault p

pub data ValueFaultInIf (program : Program) (here : Here) : Option Expr → Fault → Place → Type 0 where
  present : {e : Expr} {fault : Fault} {p : Place} → ValueFaultIn program here e fault p → ValueFaultInIf program here (Some e) fault p

-- a value cannot be returned here: nothing is returned, a parallel value for a scalar result, or
-- under another shape than that of the result
pub data ReturnFault (here : Here) : Returns → TExpr → Type 0 where
  no_result : {t : TExpr} → ReturnFault here nothing t
  parallel : {ty : ValueType} {t : TExpr} {s : ℕ} → ty.shape ≡ None → (type_of t).shape ≡ Some s → ReturnFault here (a_value ty) t
  away : {ty : ValueType} {t : TExpr} {s : ℕ} → ty.shape ≡ Some s → (here.current ≡ Some s → ⊥) → ReturnFault here (a_value ty) t

-- a statement with a condition, and whether all the statements in it have types
pub data HasType (program : Program) (returns : Returns) (here : Here) (s : Stmt) : Type 0 where
  typed : {t : TStmt} → TypesStatement program returns here s t → HasType program returns here s

pub data HasTypeIf (program : Program) (returns : Returns) (here : Here) : Option (Box Stmt Global) → Type 0 where
  absent : HasTypeIf program returns here None
  present : (s : Box Stmt Global) → HasType program returns here s.value → HasTypeIf program returns here (Some s)

-- the condition of a statement that runs as C does, and its typed parts
pub data Tested (program : Program) (returns : Returns) (here : Here) : Place → Stmt → Expr → Type 0 where
  if : {p : Place} {e : Expr} {third : Option (Box Stmt Global)} (second : Box Stmt Global) → HasType program returns here second.value → HasTypeIf program returns (behind here second.value) third → Tested program returns here p (S.If p e second third) e
  while : {p : Place} {e : Expr} (body : Box Stmt Global) → HasType program returns (in_loop here) body.value → Tested program returns here p (S.While p e body) e
  do_while : {p : Place} {e : Expr} (body : Box Stmt Global) → HasType program returns (in_loop here) body.value → Tested program returns here p (S.Do p body e) e
  for : {p : Place} {e : Expr} {first step : Option Expr} {f s : Option TExpr} (body : Box Stmt Global) → TypesEffectIf program here first f → TypesEffectIf program here step s → HasType program returns (in_loop here) body.value → Tested program returns here p (S.For p first (Some e) step body) e

-- the condition of a `where`, and its typed parts
pub data TestedWhere (program : Program) (returns : Returns) (here : Here) : Place → Stmt → Expr → Type 0 where
  where_of : {p : Place} {e : Expr} {third : Option (Box Stmt Global)} (second : Box Stmt Global) → HasType program returns here second.value → HasTypeIf program returns (behind here second.value) third → TestedWhere program returns here p (S.Where p e second third) e

-- a fault at a statement itself, or at the name of its shape
pub data StatementFaultAt (program : Program) (returns : Returns) (here : Here) : Stmt → Fault → Place → Type 0 where
  shape_named : {p q : Place} {written : ShapeRef} {fault : Fault} (body : Box Stmt Global) → ShapeFaultAt here written fault q → StatementFaultAt program returns here (S.With p written body) fault q
  parallel_test : {s : Stmt} {p : Place} {e : Expr} {t : TExpr} {of : ℕ} → Tested program returns here p s e → Types program here e t true → (type_of t).shape ≡ Some of → StatementFaultAt program returns here s F.ScalarWanted p
  where_alone : {s : Stmt} {p : Place} {e : Expr} → TestedWhere program returns here p s e → HasValue program here e → here.current ≡ None → StatementFaultAt program returns here s F.NoShape p
  where_scalar : {s : Stmt} {p : Place} {e : Expr} {t : TExpr} → TestedWhere program returns here p s e → Types program here e t true → (type_of t).shape ≡ None → StatementFaultAt program returns here s F.ParallelWanted p
  everywhere_alone : {p : Place} (body : Box Stmt Global) → HasType program returns here body.value → here.current ≡ None → StatementFaultAt program returns here (S.Everywhere p body) F.NoShape p
  returned : {p : Place} {e : Expr} {t : TExpr} → Types program here e t true → ReturnFault here returns t → StatementFaultAt program returns here (S.Return p (Some e)) F.Return p
  break_alone : {p : Place} → here.loop ≡ false → StatementFaultAt program returns here (S.Break p) F.LoopWord p
  continue_alone : {p : Place} → here.loop ≡ false → StatementFaultAt program returns here (S.Continue p) F.LoopWord p

mutual
  -- A fault stands in a statement. What stands under a `with` that names no shape has no current
  -- shape to be typed under, so no fault stands in it.
  pub data StatementFaultIn (program : Program) (returns : Returns) : Here → Stmt → Fault → Place → Type 0 where
    at : {here : Here} {s : Stmt} {fault : Fault} {p : Place} → StatementFaultAt program returns here s fault p → StatementFaultIn program returns here s fault p
    in_block : {here : Here} {block : Block} {fault : Fault} {p : Place} → BlockFaultIn program returns (block_place here) block fault p → StatementFaultIn program returns here (S.Block block) fault p
    in_expression : {here : Here} {q p : Place} {e : Expr} {fault : Fault} → FaultIn program (as_whole here) e fault p → StatementFaultIn program returns here (S.Expression q e) fault p
    in_if_test : {here : Here} {q p : Place} {e : Expr} (third : Option (Box Stmt Global)) {fault : Fault} (second : Box Stmt Global) → ValueFaultIn program here e fault p → StatementFaultIn program returns here (S.If q e second third) fault p
    in_if : {here : Here} {q p : Place} {e : Expr} (third : Option (Box Stmt Global)) {fault : Fault} (second : Box Stmt Global) → StatementFaultIn program returns here second.value fault p → StatementFaultIn program returns here (S.If q e second third) fault p
    in_if_else : {here : Here} {q p : Place} {e : Expr} {fault : Fault} (second third : Box Stmt Global) → StatementFaultIn program returns (behind here second.value) third.value fault p → StatementFaultIn program returns here (S.If q e second (Some third)) fault p
    in_where_test : {here : Here} {q p : Place} {e : Expr} (third : Option (Box Stmt Global)) {fault : Fault} (second : Box Stmt Global) → ValueFaultIn program here e fault p → StatementFaultIn program returns here (S.Where q e second third) fault p
    in_where : {here : Here} {q p : Place} {e : Expr} (third : Option (Box Stmt Global)) {fault : Fault} (second : Box Stmt Global) → StatementFaultIn program returns here second.value fault p → StatementFaultIn program returns here (S.Where q e second third) fault p
    in_where_else : {here : Here} {q p : Place} {e : Expr} {fault : Fault} (second third : Box Stmt Global) → StatementFaultIn program returns (behind here second.value) third.value fault p → StatementFaultIn program returns here (S.Where q e second (Some third)) fault p
    in_while_test : {here : Here} {q p : Place} {e : Expr} {fault : Fault} (body : Box Stmt Global) → ValueFaultIn program here e fault p → StatementFaultIn program returns here (S.While q e body) fault p
    in_while : {here : Here} {q p : Place} {e : Expr} {fault : Fault} (body : Box Stmt Global) → StatementFaultIn program returns (in_loop here) body.value fault p → StatementFaultIn program returns here (S.While q e body) fault p
    in_do_test : {here : Here} {q p : Place} {e : Expr} {fault : Fault} (body : Box Stmt Global) → ValueFaultIn program here e fault p → StatementFaultIn program returns here (S.Do q body e) fault p
    in_do : {here : Here} {q p : Place} {e : Expr} {fault : Fault} (body : Box Stmt Global) → StatementFaultIn program returns (in_loop here) body.value fault p → StatementFaultIn program returns here (S.Do q body e) fault p
    in_for_first : {here : Here} {q p : Place} (first test step : Option Expr) {fault : Fault} (body : Box Stmt Global) → FaultInIf program here first fault p → StatementFaultIn program returns here (S.For q first test step body) fault p
    in_for_test : {here : Here} {q p : Place} (first test step : Option Expr) {fault : Fault} (body : Box Stmt Global) → ValueFaultInIf program here test fault p → StatementFaultIn program returns here (S.For q first test step body) fault p
    in_for_step : {here : Here} {q p : Place} (first test step : Option Expr) {fault : Fault} (body : Box Stmt Global) → FaultInIf program here step fault p → StatementFaultIn program returns here (S.For q first test step body) fault p
    in_for : {here : Here} {q p : Place} (first test step : Option Expr) {fault : Fault} (body : Box Stmt Global) → StatementFaultIn program returns (in_loop here) body.value fault p → StatementFaultIn program returns here (S.For q first test step body) fault p
    in_return : {here : Here} {q p : Place} {value : Option Expr} {fault : Fault} → ValueFaultInIf program here value fault p → StatementFaultIn program returns here (S.Return q value) fault p
    in_with : {here : Here} {q p : Place} {written : ShapeRef} {s : ℕ} {fault : Fault} (body : Box Stmt Global) → shape_of here written ≡ Some s → StatementFaultIn program returns (under here s) body.value fault p → StatementFaultIn program returns here (S.With q written body) fault p
    in_everywhere : {here : Here} {q p : Place} {fault : Fault} (body : Box Stmt Global) → StatementFaultIn program returns here body.value fault p → StatementFaultIn program returns here (S.Everywhere q body) fault p

  pub data StatementsFaultIn (program : Program) (returns : Returns) : Here → List Stmt → Fault → Place → Type 0 where
    in_first : {here : Here} {s : Stmt} {ss : List Stmt} {fault : Fault} {p : Place} → StatementFaultIn program returns here s fault p → StatementsFaultIn program returns here (s ∷ ss) fault p
    in_later : {here : Here} {s : Stmt} {ss : List Stmt} {fault : Fault} {p : Place} → StatementsFaultIn program returns (behind here s) ss fault p → StatementsFaultIn program returns here (s ∷ ss) fault p

  -- in a block in the scope of this place
  pub data BlockFaultIn (program : Program) (returns : Returns) : Here → Block → Fault → Place → Type 0 where
    in_declarations : {here : Here} {fault : Fault} {p : Place} (block : Block) → DeclarationsFault program here block.declarations.items fault p → BlockFaultIn program returns here block fault p
    in_statements : {here : Here} {fault : Fault} {p : Place} (block : Block) → StatementsFaultIn program returns (behind_declarations here block.declarations.items) block.statements.items fault p → BlockFaultIn program returns here block fault p
