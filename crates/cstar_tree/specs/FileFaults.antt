-- The faults of typing that stand in a file, and the first of them.
use Rattle.std.specs.Prelude.{◌≡◌, ℕ, ◌+◌, ◌<◌, ◌≤◌, ◌^◌, ℤ, false, List, ◌∷◌, length, slice_get, Option, Some, None, Vec}
use Rattle.std.specs.declared.alloc.Global.{Global}
use Rattle.cstar_base.specs.declared.faults.Fault.{Fault}
use Rattle.cstar_base.specs.declared.faults.Fault.TheVariants as F
use Rattle.cstar_base.specs.declared.operators.Place.{Place}
use Rattle.cstar_tree.specs.declared.syntax.Declaration.{Declaration}
use Rattle.cstar_tree.specs.declared.syntax.Declarator.{Declarator}
use Rattle.cstar_tree.specs.declared.syntax.Expr.{Expr}
use Rattle.cstar_tree.specs.declared.syntax.Function.{Function}
use Rattle.cstar_tree.specs.declared.syntax.Initializer.{Initializer}
use Rattle.cstar_tree.specs.declared.syntax.Item.{Item}
use Rattle.cstar_tree.specs.declared.syntax.Item.TheVariants as I
use Rattle.cstar_tree.specs.declared.syntax.Parameter.{Parameter}
use Rattle.cstar_tree.specs.declared.syntax.ResultType.{ResultType}
use Rattle.cstar_tree.specs.declared.syntax.ResultType.TheVariants as R
use Rattle.cstar_tree.specs.declared.syntax.ShapeDefinition.{ShapeDefinition}
use Rattle.cstar_tree.specs.declared.syntax.Tree.{Tree}
use Rattle.cstar_tree.specs.declared.syntax.TypeName.{TypeName}
use Rattle.cstar_tree.specs.declared.typed.Typed.{Typed}
use Rattle.cstar_tree.specs.declared.typed.ValueType.{ValueType}
use Rattle.cstar_tree.specs.Syntax.{place_of}
use Rattle.cstar_tree.specs.Constants.{constant_number, product}
use Rattle.cstar_tree.specs.Conversions.{int}
use Rattle.cstar_tree.specs.ExpressionFaults.{IsUntold, ValueFaultIn}
use Rattle.cstar_tree.specs.ExpressionTypes.{HasValue}
use Rattle.cstar_tree.specs.FaultOrder.{comes_before}
use Rattle.cstar_tree.specs.FileScopes.{Known, behind_item, behind_shape, behind_variable, extent_of, file_known, file_place, functions_named, kept_extents, nothing_known}
use Rattle.cstar_tree.specs.Headers.{Placed, Program, Reached, behind_parameter, body_place, header_place, returns_of}
use Rattle.cstar_tree.specs.Instances.{main_of, program_of}
use Rattle.cstar_tree.specs.Nodes.{tree_nodes}
use Rattle.cstar_tree.specs.ProgramTypes.{TypesFile}
use Rattle.cstar_tree.specs.Room.{HasRoom}
use Rattle.cstar_tree.specs.Scopes.{Binding, Here, Meaning, find, part, written_type}
use Rattle.cstar_tree.specs.StatementFaults.{ArrayFault, BlockFaultIn, LengthFaultIn, TypeFaultAt}

-- a shape has more than 4 extents, one below 1, or more than 2 ^ 20 positions
pub data ExtentFault (here : Here) (s : ShapeDefinition) : Type 0 where
  too_many : 4 < length s.extents.items → ExtentFault here s
  below_one : {e : Expr} {n : ℤ} (which : ℕ) → slice_get s.extents.items which ≡ Some e → constant_number here e ≡ Some n → extent_of (Some n) ≡ None → ExtentFault here s
  too_large : 2 ^ 20 < product (kept_extents here s.extents.items) → ExtentFault here s

-- a fault of a shape of the file, behind what is known
pub data ShapeFault (program : Program) (functions : List Binding) (known : Known) (s : ShapeDefinition) : Fault → Place → Type 0 where
  redeclared : {m : Meaning} → find known.names s.name.word ≡ Some m → ShapeFault program functions known s F.Redeclared s.name.place
  in_extent : {e : Expr} {fault : Fault} {p : Place} (which : ℕ) → slice_get s.extents.items which ≡ Some e → LengthFaultIn program (file_place functions known) e fault p → ShapeFault program functions known s fault p
  extents : ExtentFault (file_place functions known) s → ShapeFault program functions known s F.Extent s.name.place
  one_too_many : find known.names s.name.word ≡ None → length known.shapes ≡ 64 → ShapeFault program functions known s F.Size s.name.place

-- a fault of a variable of the file, whose type is written as this
pub data VariableFault (program : Program) (functions : List Binding) (known : Known) (ty : Option ValueType) (d : Declarator) : Fault → Place → Type 0 where
  redeclared : {m : Meaning} → find known.names d.name.word ≡ Some m → VariableFault program functions known ty d F.Redeclared d.name.place
  in_length : {e : Expr} {fault : Fault} {p : Place} → d.length ≡ Some e → LengthFaultIn program (file_place functions known) e fault p → VariableFault program functions known ty d fault p
  of_array : ArrayFault (file_place functions known) ty d → VariableFault program functions known ty d F.ArrayDecl d.name.place
  in_initial : {i : Initializer} {fault : Fault} {p : Place} → d.initial ≡ Some i → ValueFaultIn program (file_place functions (behind_variable functions ty known d)) i.value fault p → VariableFault program functions known ty d fault p
  no_constant : {i : Initializer} → d.initial ≡ Some i → HasValue program (file_place functions (behind_variable functions ty known d)) i.value → constant_number (file_place functions (behind_variable functions ty known d)) i.value ≡ None → VariableFault program functions known ty d F.Constant (place_of i.value)
  untold : {i : Initializer} → d.initial ≡ Some i → IsUntold program (part (file_place functions (behind_variable functions ty known d))) i.value → VariableFault program functions known ty d F.Constant (place_of i.value)

pub data ShapesFault (program : Program) (functions : List Binding) : Known → List ShapeDefinition → Fault → Place → Type 0 where
  first : {known : Known} {s : ShapeDefinition} {ss : List ShapeDefinition} {fault : Fault} {p : Place} → ShapeFault program functions known s fault p → ShapesFault program functions known (s ∷ ss) fault p
  later : {known : Known} {s : ShapeDefinition} {ss : List ShapeDefinition} {fault : Fault} {p : Place} → ShapesFault program functions (behind_shape functions known s) ss fault p → ShapesFault program functions known (s ∷ ss) fault p

pub data VariablesFault (program : Program) (functions : List Binding) (ty : Option ValueType) : Known → List Declarator → Fault → Place → Type 0 where
  first : {known : Known} {d : Declarator} {ds : List Declarator} {fault : Fault} {p : Place} → VariableFault program functions known ty d fault p → VariablesFault program functions ty known (d ∷ ds) fault p
  later : {known : Known} {d : Declarator} {ds : List Declarator} {fault : Fault} {p : Place} → VariablesFault program functions ty (behind_variable functions ty known d) ds fault p → VariablesFault program functions ty known (d ∷ ds) fault p

-- a fault of the declarations of the file
pub data ItemsFault (program : Program) (functions : List Binding) : Known → List Item → Fault → Place → Type 0 where
  shapes : {known : Known} {q p : Place} {items : List Item} {fault : Fault} (list : Vec ShapeDefinition Global) → ShapesFault program functions known list.items fault p → ItemsFault program functions known (I.Shapes q list ∷ items) fault p
  written : {known : Known} {d : Declaration} {items : List Item} {fault : Fault} {p : Place} → TypeFaultAt (file_place functions known) d.type_name fault p → ItemsFault program functions known (I.Variables d ∷ items) fault p
  variables : {known : Known} {d : Declaration} {items : List Item} {fault : Fault} {p : Place} → VariablesFault program functions (written_type (file_place functions known) d.type_name) known d.variables.items fault p → ItemsFault program functions known (I.Variables d ∷ items) fault p
  redeclared : {known : Known} {f : Function} {items : List Item} {m : Meaning} → find known.names f.name.word ≡ Some m → ItemsFault program functions known (I.Function f ∷ items) F.Redeclared f.name.place
  later : {known : Known} {item : Item} {items : List Item} {fault : Fault} {p : Place} → ItemsFault program functions (behind_item functions known item) items fault p → ItemsFault program functions known (item ∷ items) fault p

-- a fault of the parameters of an instance
pub data ParametersFault : Here → ℕ → List Parameter → Fault → Place → Type 0 where
  written : {here : Here} {which : ℕ} {fault : Fault} {q : Parameter} {qs : List Parameter} {p : Place} → TypeFaultAt here q.type_name fault p → ParametersFault here which (q ∷ qs) fault p
  redeclared : {here : Here} {which : ℕ} {q : Parameter} {qs : List Parameter} {m : Meaning} → find here.names.inner q.name.word ≡ Some m → ParametersFault here which (q ∷ qs) F.Redeclared q.name.place
  later : {here : Here} {which : ℕ} {fault : Fault} {q : Parameter} {qs : List Parameter} {p : Place} → ParametersFault (behind_parameter here which q) (which + 1) qs fault p → ParametersFault here which (q ∷ qs) fault p

-- a fault of an instance: in its header, or in its body
pub data InstanceFault (program : Program) (shapes : List (List ℕ)) (r : Reached) (placed : Placed) : Fault → Place → Type 0 where
  result : {written : TypeName} {fault : Fault} {p : Place} → placed.function.result ≡ R.Written written → TypeFaultAt (header_place shapes placed r) written fault p → InstanceFault program shapes r placed fault p
  parameters : {fault : Fault} {p : Place} → ParametersFault (header_place shapes placed r) 0 placed.function.parameters.items fault p → InstanceFault program shapes r placed fault p
  body : {fault : Fault} {p : Place} → BlockFaultIn program (returns_of (header_place shapes placed r) placed.function.result) (body_place shapes placed r) placed.function.body fault p → InstanceFault program shapes r placed fault p

-- a `main` has no parameters, and returns nothing or an `int`
pub data IsMainResult : ResultType → Type 0 where
  unwritten : IsMainResult R.Unwritten
  void : IsMainResult R.Void
  written : {t : TypeName} → t.elem ≡ int → t.shape ≡ None → IsMainResult (R.Written t)

pub data IsNoMain (f : Function) : Type 0 where
  takes : 0 < length f.parameters.items → IsNoMain f
  returns : (IsMainResult f.result → ⊥) → IsNoMain f

-- A fault of typing, but for want of room, stands in a file.
pub data FaultOf (tree : Tree) : Fault → Place → Type 0 where
  in_items : {fault : Fault} {p : Place} → ItemsFault (program_of tree) (functions_named tree) nothing_known tree.items.items fault p → FaultOf tree fault p
  in_instance : {r : Reached} {placed : Placed} {fault : Fault} {p : Place} (which : ℕ) → slice_get (program_of tree).instances which ≡ Some r → slice_get (program_of tree).functions r.function ≡ Some placed → InstanceFault (program_of tree) (file_known tree).shapes r placed fault p → FaultOf tree fault p
  absent_main : main_of tree ≡ None → FaultOf tree F.NoMain tree.end
  no_main : {f : ℕ} {placed : Placed} → main_of tree ≡ Some f → slice_get (program_of tree).functions f ≡ Some placed → IsNoMain placed.function → FaultOf tree F.NoMain placed.function.name.place
  too_many_nodes : 2 ^ 20 < tree_nodes tree → FaultOf tree F.Size tree.end

-- want of room stands only where no other fault does
pub data Stands (tree : Tree) : Fault → Place → Type 0 where
  of_file : {fault : Fault} {p : Place} → FaultOf tree fault p → Stands tree fault p
  no_room : {typed : Typed} → ((fault : Fault) (p : Place) → FaultOf tree fault p → ⊥) → TypesFile tree typed → (HasRoom typed.shapes.items typed.need.items → ⊥) → Stands tree F.Space tree.end

-- the first fault of a file: none that stands comes before it
pub record IsFirst (tree : Tree) (fault : Fault) (p : Place) : Type 0 where
  pub stands : Stands tree fault p
  pub least : (other : Fault) (q : Place) → Stands tree other q → comes_before other q fault p ≡ false

-- a file without a fault becomes this typed program
pub record IsAccepted (tree : Tree) (typed : Typed) : Type 0 where
  pub no_fault : (fault : Fault) (p : Place) → Stands tree fault p → ⊥
  pub types : TypesFile tree typed
