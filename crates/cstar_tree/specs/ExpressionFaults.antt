-- The faults of typing that stand in an expression, each with its place. A fault
-- stands at a node only where the parts of the node have types; at a name whatever else is faulty.
use Rattle.std.specs.Prelude.{◌≡◌, ℕ, ℤ, true, false, List, [], ◌∷◌, length, slice_get, Option, Some, None, Box, Vec}
use Rattle.std.specs.declared.alloc.Global.{Global}
use Rattle.cstar_base.specs.declared.elem.Elem.{Elem}
use Rattle.cstar_base.specs.declared.faults.Fault.{Fault}
use Rattle.cstar_base.specs.declared.faults.Fault.TheVariants as F
use Rattle.cstar_base.specs.declared.operators.Combiner.{Combiner}
use Rattle.cstar_base.specs.declared.operators.Direction.{Direction}
use Rattle.cstar_base.specs.declared.operators.Inclusion.{Inclusion}
use Rattle.cstar_base.specs.declared.operators.Place.{Place}
use Rattle.cstar_base.specs.declared.operators.SegmentMode.{SegmentMode}
use Rattle.cstar_base.specs.declared.operators.SegmentMode.TheVariants as M
use Rattle.cstar_tree.specs.declared.syntax.AssignOp.{AssignOp}
use Rattle.cstar_tree.specs.declared.syntax.Cast.{Cast}
use Rattle.cstar_tree.specs.declared.syntax.Expr.{Expr}
use Rattle.cstar_tree.specs.declared.syntax.Expr as E
use Rattle.cstar_tree.specs.declared.syntax.Name.{Name}
use Rattle.cstar_tree.specs.declared.syntax.BinaryOp.{BinaryOp}
use Rattle.cstar_tree.specs.declared.syntax.PrefixOp.{PrefixOp}
use Rattle.cstar_tree.specs.declared.syntax.PrefixOp.TheVariants as P
use Rattle.cstar_tree.specs.declared.syntax.ReduceOp.{ReduceOp}
use Rattle.cstar_tree.specs.declared.syntax.ShapeRef.{ShapeRef}
use Rattle.cstar_tree.specs.declared.syntax.ShapeRef.TheVariants as R
use Rattle.cstar_tree.specs.declared.syntax.StepOp.{StepOp}
use Rattle.cstar_tree.specs.declared.syntax.TypeName.{TypeName}
use Rattle.cstar_tree.specs.declared.typed.Piece.{Piece}
use Rattle.cstar_tree.specs.declared.typed.TExpr.{TExpr}
use Rattle.cstar_tree.specs.declared.typed.ValueType.{ValueType}
use Rattle.cstar_tree.specs.declared.typed.Variable.{Variable}
use Rattle.cstar_tree.specs.Syntax.{place_of}
use Rattle.cstar_tree.specs.Typed.{type_of}
use Rattle.cstar_tree.specs.Constants.{axis_among, constant_number}
use Rattle.cstar_tree.specs.Conversions.{parallel, scalar}
use Rattle.cstar_tree.specs.ExpressionTypes.{HasValue, IsVariable, Types, TypesEach, TypesIndexes, callee, result_known}
use Rattle.cstar_tree.specs.Formats.{conversions, pieces_of}
use Rattle.cstar_tree.specs.Headers.{Leads, Placed, Program, parameter_types, returns_of}
use Rattle.cstar_tree.specs.Operations.{folds, many, one, sends, target_of}
use Rattle.cstar_tree.specs.Scopes.{Here, Meaning, VariableType, a_function, a_shape, a_variable, extents_of, index_place, meaning, part, shape_of, written_type}

-- the kinds of declarations, and the kind of what a name stands for
pub data Kind : Type 0 where
  shape function variable : Kind

abbrev pub kind_of : Meaning → Kind
kind_of (a_shape s) = shape
kind_of (a_function f) = function
kind_of (a_variable v t) = variable

-- an expression names a shape itself
pub data NamesShape : Expr → ShapeRef → Type 0 where
  in_cast : {p : Place} {written : TypeName} {s : ShapeRef} {operand : Box Expr Global} → written.shape ≡ Some s → NamesShape (E.ParallelCast p written operand) s
  in_positions : {p : Place} {s : ShapeRef} → NamesShape (E.PositionsOf p s) s
  in_rank : {p : Place} {s : ShapeRef} → NamesShape (E.RankOf p s) s
  in_dim : {p : Place} {s : ShapeRef} {axis : Box Expr Global} → NamesShape (E.DimOf p s axis) s

-- a scan or an enumerate with this mode names segment bits, or none
pub data NamesBit : Expr → SegmentMode → Option Name → Type 0 where
  in_scan : {p : Place} {source axis : Box Expr Global} {combiner : Combiner} {direction : Direction} {mode : SegmentMode} {bit : Option Name} {inclusion : Inclusion} → NamesBit (E.Scan p source axis combiner direction mode bit inclusion) mode bit
  in_enumerate : {p : Place} {axis : Box Expr Global} {direction : Direction} {mode : SegmentMode} {bit : Option Name} {inclusion : Inclusion} → NamesBit (E.Enumerate p axis direction inclusion mode bit) mode bit

-- a name in an expression, and the kind of declaration that its place needs
pub data Uses : Expr → Kind → Name → Type 0 where
  as_value : {n : Name} → Uses (E.Name n) variable n
  as_array : {n : Name} {bracket : Place} {index : Box Expr Global} → Uses (E.Element n bracket index) variable n
  as_indexed : {p : Place} (indexes : Vec Expr Global) {n : Name} → Uses (E.LeftIndex p indexes n) variable n
  as_bit : {e : Expr} {mode : SegmentMode} {n : Name} → NamesBit e mode (Some n) → Uses e variable n
  as_function : {n : Name} (arguments : Vec Expr Global) → Uses (E.Call n arguments) function n
  as_shape : {e : Expr} {n : Name} → NamesShape e (R.Named n) → Uses e shape n

-- a parallel `bool` variable that is no array
pub data HoldsBits : VariableType → ℕ → Type 0 where
  holds_bits : {elem : Elem} {shape : ℕ} → elem.bits ≡ 1 → HoldsBits (record { value = parallel elem shape; array = None }) shape

-- segment bits, if they are named, that have no fault
pub data IsSoundBit (here : Here) : Option Name → Type 0 where
  no_bit : IsSoundBit here None
  bit : {n : Name} {v : Variable} {ty : VariableType} {s : ℕ} → IsVariable here n v ty → HoldsBits ty s → here.current ≡ Some s → IsSoundBit here (Some n)

-- an axis that is a constant, and one that is moreover no fault along the current shape
abbrev pub IsAxis : Program → Here → Expr → ℤ → Type 0
IsAxis program here axis number = HasValue program (part here) axis × constant_number here axis ≡ Some number

pub data IsSoundAxis (program : Program) (here : Here) (axis : Expr) : Type 0 where
  under_none : {number : ℤ} → here.current ≡ None → IsAxis program here axis number → IsSoundAxis program here axis
  under_shape : {number : ℤ} {s known : ℕ} {extents : List ℕ} → here.current ≡ Some s → extents_of here s ≡ Some extents → IsAxis program here axis number → axis_among extents (Some number) ≡ Some known → IsSoundAxis program here axis

-- an intrinsic that goes along an axis of the current shape, with its axis and segment bits
pub data GoesAlong : Expr → Expr → SegmentMode → Option Name → Type 0 where
  pcoord : {p : Place} (axis : Box Expr Global) → GoesAlong (E.Pcoord p axis) axis.value M.NoSegments None
  scan : {p : Place} (source axis : Box Expr Global) {combiner : Combiner} {direction : Direction} {mode : SegmentMode} {bit : Option Name} {inclusion : Inclusion} → GoesAlong (E.Scan p source axis combiner direction mode bit inclusion) axis.value mode bit
  enumerate : {p : Place} (axis : Box Expr Global) {direction : Direction} {mode : SegmentMode} {bit : Option Name} {inclusion : Inclusion} → GoesAlong (E.Enumerate p axis direction inclusion mode bit) axis.value mode bit

-- the source of a scan has a type; the others have none
pub data HasSource (program : Program) (here : Here) : Expr → Type 0 where
  no_source : {p : Place} {axis : Box Expr Global} → HasSource program here (E.Pcoord p axis)
  for_enumerate : {p : Place} {axis : Box Expr Global} {direction : Direction} {mode : SegmentMode} {bit : Option Name} {inclusion : Inclusion} → HasSource program here (E.Enumerate p axis direction inclusion mode bit)
  source : {p : Place} (source : Box Expr Global) {axis : Box Expr Global} {combiner : Combiner} {direction : Direction} {mode : SegmentMode} {bit : Option Name} {inclusion : Inclusion} → HasValue program (part here) source.value → HasSource program here (E.Scan p source axis combiner direction mode bit inclusion)

-- all the parts and names of such an intrinsic are sound
pub record IsReady (program : Program) (here : Here) (e : Expr) (mode : SegmentMode) (bit : Option Name) : Type 0 where
  pub axis : Expr
  pub along : GoesAlong e axis mode bit
  pub sound_axis : IsSoundAxis program here axis
  pub sound_bit : IsSoundBit here bit
  pub source : HasSource program here e

-- the mode without segments goes with no bits, and each other mode with bits
pub data Mismatch : SegmentMode → Option Name → Type 0 where
  bit_without_segments : {n : Name} → Mismatch M.NoSegments (Some n)
  segments_without_bit : {mode : SegmentMode} → (mode ≡ M.NoSegments → ⊥) → Mismatch mode None

-- `++` or `--`, before or behind its operand
pub data IsStep : Place → Expr → Expr → Type 0 where
  before : {p : Place} {op : StepOp} (operand : Box Expr Global) → IsStep p operand.value (E.Prefix p (P.Step op) operand)
  behind : {p : Place} {op : StepOp} (operand : Box Expr Global) → IsStep p operand.value (E.Postfix p op operand)

-- a value whose shape is not the current one: there is none, or it is another
pub data IsAway : Option ℕ → ℕ → Fault → Type 0 where
  no_current : {s : ℕ} → IsAway None s F.NoShape
  other : {c s : ℕ} → (c ≡ s → ⊥) → IsAway (Some c) s F.OtherShape

-- the place of the innermost of casts, or else this one
abbrev pub last_place : List Cast → Place → Place
last_place [] otherwise = otherwise
last_place (c ∷ cs) otherwise = last_place cs c.place

-- a call of a function, with its typed arguments
pub record IsCall (program : Program) (here : Here) (n : Name) (arguments : List Expr) (f : ℕ) (placed : Placed) (given : List TExpr) : Type 0 where
  pub is_function : meaning here n.word ≡ Some (a_function f)
  pub is_placed : slice_get program.functions f ≡ Some placed
  pub typed : TypesEach program (part here) arguments given

abbrev pub parameters_of : Here → Placed → ℕ → List (Option ValueType)
parameters_of here placed f = parameter_types (callee here placed f) 0 placed.function.parameters.items

abbrev pub result_of : Here → Placed → ℕ → Option ValueType
result_of here placed f = result_known (returns_of (callee here placed f) placed.function.result)

-- this fault stands at this place, at a node or at a name of it
pub data FaultAt (program : Program) (here : Here) : Expr → Fault → Place → Type 0 where
  -- names
  unknown : {e : Expr} {kind : Kind} {n : Name} → Uses e kind n → meaning here n.word ≡ None → FaultAt program here e F.Unknown n.place
  wrong_kind : {e : Expr} {kind : Kind} {n : Name} {m : Meaning} → Uses e kind n → meaning here n.word ≡ Some m → (kind_of m ≡ kind → ⊥) → FaultAt program here e F.WrongKind n.place
  no_bits : {e : Expr} {mode : SegmentMode} {n : Name} {v : Variable} {ty : VariableType} → NamesBit e mode (Some n) → IsVariable here n v ty → ((s : ℕ) → HoldsBits ty s → ⊥) → FaultAt program here e F.WrongKind n.place
  no_current : {e : Expr} {p : Place} → NamesShape e (R.Current p) → here.current ≡ None → FaultAt program here e F.NoShape p
  bits_away : {e : Expr} {mode : SegmentMode} {n : Name} {v : Variable} {ty : VariableType} {s : ℕ} → NamesBit e mode (Some n) → IsVariable here n v ty → HoldsBits ty s → (here.current ≡ Some s → ⊥) → FaultAt program here e F.OtherShape n.place
  array_alone : {n : Name} {v : Variable} {ty : ValueType} {length : ℕ} → IsVariable here n v (record { value = ty; array = Some length }) → FaultAt program here (E.Name n) F.ArrayUse n.place
  array_indexed : {p : Place} (indexes : Vec Expr Global) {n : Name} {v : Variable} {ty : ValueType} {length : ℕ} → IsVariable here n v (record { value = ty; array = Some length }) → FaultAt program here (E.LeftIndex p indexes n) F.ArrayUse n.place
  no_array : {bracket : Place} {index : Box Expr Global} {n : Name} {v : Variable} {ty : ValueType} → IsVariable here n v (record { value = ty; array = None }) → FaultAt program here (E.Element n bracket index) F.ArrayUse n.place
  -- whole parallel values away from their shape
  variable_away : {n : Name} {v : Variable} {elem : Elem} {s : ℕ} {fault : Fault} → IsVariable here n v (record { value = parallel elem s; array = None }) → IsAway here.current s fault → FaultAt program here (E.Name n) fault n.place
  element_away : {n : Name} {bracket : Place} {v : Variable} {elem : Elem} {s length : ℕ} {fault : Fault} {i : TExpr} (index : Box Expr Global) → IsVariable here n v (record { value = parallel elem s; array = Some length }) → Types program (part here) index.value i true → (type_of i).shape ≡ None → IsAway here.current s fault → FaultAt program here (E.Element n bracket index) fault n.place
  cast_away : {p : Place} {written : TypeName} {elem : Elem} {s : ℕ} {fault : Fault} (operand : Box Expr Global) → written_type here written ≡ Some (parallel elem s) → HasValue program (part here) operand.value → IsAway here.current s fault → FaultAt program here (E.ParallelCast p written operand) fault p
  intrinsic_alone : {e : Expr} {mode : SegmentMode} {bit : Option Name} → IsReady program here e mode bit → here.current ≡ None → FaultAt program here e F.NoShape (place_of e)
  argument_away : {n : Name} (arguments : Vec Expr Global) {f : ℕ} {placed : Placed} {given : List TExpr} {elem : Elem} {s : ℕ} (which : ℕ) → IsCall program here n arguments.items f placed given → slice_get (parameters_of here placed f) which ≡ Some (Some (parallel elem s)) → (here.current ≡ Some s → ⊥) → FaultAt program here (E.Call n arguments) F.OtherShape n.place
  result_away : {n : Name} (arguments : Vec Expr Global) {f : ℕ} {placed : Placed} {given : List TExpr} {elem : Elem} {s : ℕ} → IsCall program here n arguments.items f placed given → result_of here placed f ≡ Some (parallel elem s) → (here.current ≡ Some s → ⊥) → FaultAt program here (E.Call n arguments) F.OtherShape n.place
  -- parallel values in the place of scalar ones
  parallel_index : {n : Name} {bracket : Place} {v : Variable} {ty : ValueType} {length s : ℕ} {i : TExpr} (index : Box Expr Global) → IsVariable here n v (record { value = ty; array = Some length }) → Types program (part here) index.value i true → (type_of i).shape ≡ Some s → FaultAt program here (E.Element n bracket index) F.ScalarWanted bracket
  parallel_cast : (chain : Vec Cast Global) {x : TExpr} {s : ℕ} (operand : Box Expr Global) → Types program (part here) operand.value x true → (type_of x).shape ≡ Some s → FaultAt program here (E.Casts chain operand) F.ScalarWanted (last_place chain.items (place_of operand.value))
  parallel_argument : {n : Name} (arguments : Vec Expr Global) {f s : ℕ} {placed : Placed} {given : List TExpr} {elem : Elem} {a : TExpr} (which : ℕ) → IsCall program here n arguments.items f placed given → slice_get (parameters_of here placed f) which ≡ Some (Some (scalar elem)) → slice_get given which ≡ Some a → (type_of a).shape ≡ Some s → FaultAt program here (E.Call n arguments) F.ScalarWanted n.place
  parallel_printed : {p : Place} {text : List ℕ} (arguments : Vec Expr Global) {given : List TExpr} {s : ℕ} {a : TExpr} (which : ℕ) → TypesEach program (part here) arguments.items given → slice_get given which ≡ Some a → (type_of a).shape ≡ Some s → FaultAt program here (E.Printf p text arguments) F.ScalarWanted p
  parallel_stored : {p : Place} {op : AssignOp} {t v : TExpr} {s : ℕ} (target value : Box Expr Global) → Types program (part here) target.value t true → Types program (part here) value.value v true → target_of t ≡ Some one → (type_of t).shape ≡ None → (type_of v).shape ≡ Some s → folds op ≡ false → FaultAt program here (E.Assign p op target value) F.ScalarWanted p
  -- scalar values in the place of parallel ones
  scalar_reduced : {p : Place} {op : ReduceOp} {x : TExpr} (operand : Box Expr Global) → Types program (part here) operand.value x true → (type_of x).shape ≡ None → FaultAt program here (E.Prefix p (P.Reduce op) operand) F.ParallelWanted p
  scalar_scanned : {p : Place} {combiner : Combiner} {direction : Direction} {mode : SegmentMode} {bit : Option Name} {inclusion : Inclusion} {x : TExpr} (source axis : Box Expr Global) → IsReady program here (E.Scan p source axis combiner direction mode bit inclusion) mode bit → Types program (part here) source.value x true → (type_of x).shape ≡ None → FaultAt program here (E.Scan p source axis combiner direction mode bit inclusion) F.ParallelWanted p
  -- left indexes and targets
  index_count : {p : Place} {n : Name} {v : Variable} {elem : Elem} {s : ℕ} {extents : List ℕ} {given : List TExpr} (indexes : Vec Expr Global) → IsVariable here n v (record { value = parallel elem s; array = None }) → extents_of here s ≡ Some extents → TypesIndexes program here n 0 indexes.items given → (length indexes.items ≡ length extents → ⊥) → FaultAt program here (E.LeftIndex p indexes n) F.IndexCount p
  index_of_scalar : {p : Place} {n : Name} {v : Variable} {elem : Elem} {given : List TExpr} (indexes : Vec Expr Global) → IsVariable here n v (record { value = scalar elem; array = None }) → TypesIndexes program here n 0 indexes.items given → FaultAt program here (E.LeftIndex p indexes n) F.IndexCount p
  dot_alone : {p : Place} → here.dot ≡ None → FaultAt program here (E.Dot p) F.Dot p
  no_target : {p : Place} {op : AssignOp} {t v : TExpr} (target value : Box Expr Global) → Types program (part here) target.value t true → Types program (part here) value.value v true → target_of t ≡ None → FaultAt program here (E.Assign p op target value) F.NotAPlace p
  no_target_of_step : {p : Place} {e operand : Expr} {t : TExpr} → IsStep p operand e → Types program (part here) operand t true → target_of t ≡ None → FaultAt program here e F.NotAPlace p
  send_inside : {p q : Place} {op : AssignOp} {t v : TExpr} (target value : Box Expr Global) → Types program (part here) target.value t true → Types program (part here) value.value v true → target_of t ≡ Some (many q) → sends op ≡ true → here.whole ≡ false → FaultAt program here (E.Assign p op target value) F.SendValue p
  send_operator : {p q : Place} {op : AssignOp} {t : TExpr} (target value : Box Expr Global) → Types program (part here) target.value t true → target_of t ≡ Some (many q) → sends op ≡ false → FaultAt program here (E.Assign p op target value) F.SendOperator q
  send_step : {p q : Place} {e operand : Expr} {t : TExpr} → IsStep p operand e → Types program (part here) operand t true → target_of t ≡ Some (many q) → FaultAt program here e F.SendOperator q
  -- calls and intrinsics
  argument_count : {n : Name} (arguments : Vec Expr Global) {f : ℕ} {placed : Placed} {given : List TExpr} → IsCall program here n arguments.items f placed given → (length given ≡ length (parameters_of here placed f) → ⊥) → FaultAt program here (E.Call n arguments) F.Arguments n.place
  mode_mismatch : {e : Expr} {mode : SegmentMode} {bit : Option Name} → IsReady program here e mode bit → Mismatch mode bit → FaultAt program here e F.Arguments (place_of e)
  axis_outside : {e axis : Expr} {mode : SegmentMode} {bit : Option Name} {number : ℤ} {s : ℕ} {extents : List ℕ} → GoesAlong e axis mode bit → IsAxis program here axis number → here.current ≡ Some s → extents_of here s ≡ Some extents → axis_among extents (Some number) ≡ None → FaultAt program here e F.Axis (place_of axis)
  axis_outside_dim : {p : Place} {written : ShapeRef} {number : ℤ} {s : ℕ} {extents : List ℕ} (axis : Box Expr Global) → IsAxis program here axis.value number → shape_of here written ≡ Some s → extents_of here s ≡ Some extents → axis_among extents (Some number) ≡ None → FaultAt program here (E.DimOf p written axis) F.Axis (place_of axis.value)
  recursion : {n : Name} (arguments : Vec Expr Global) {f around : ℕ} {placed : Placed} {given : List TExpr} → IsCall program here n arguments.items f placed given → here.around ≡ Some around → Leads program.calls f around → FaultAt program here (E.Call n arguments) F.Recursion n.place
  no_format : {p : Place} {text : List ℕ} (arguments : Vec Expr Global) {given : List TExpr} → TypesEach program (part here) arguments.items given → pieces_of text ≡ None → FaultAt program here (E.Printf p text arguments) F.Format p
  value_count : {p : Place} {text : List ℕ} (arguments : Vec Expr Global) {given : List TExpr} {pieces : List Piece} → TypesEach program (part here) arguments.items given → pieces_of text ≡ Some pieces → (conversions pieces ≡ length arguments.items → ⊥) → FaultAt program here (E.Printf p text arguments) F.Format p
  axis_no_constant : {e axis : Expr} {mode : SegmentMode} {bit : Option Name} → GoesAlong e axis mode bit → HasValue program (part here) axis → constant_number here axis ≡ None → FaultAt program here e F.Constant (place_of axis)
  axis_no_constant_dim : {p : Place} {written : ShapeRef} (axis : Box Expr Global) → HasValue program (part here) axis.value → constant_number here axis.value ≡ None → FaultAt program here (E.DimOf p written axis) F.Constant (place_of axis.value)

-- A part of an expression that needs a value, with its place. What is in brackets alone needs none.
pub data IsPart (here : Here) : Expr → Here → Expr → Type 0 where
  target : {p : Place} {op : AssignOp} (target value : Box Expr Global) → IsPart here (E.Assign p op target value) (part here) target.value
  value : {p : Place} {op : AssignOp} (target value : Box Expr Global) → IsPart here (E.Assign p op target value) (part here) value.value
  test : {p : Place} (test second third : Box Expr Global) → IsPart here (E.Choice p test second third) (part here) test.value
  second : {p : Place} (test second third : Box Expr Global) → IsPart here (E.Choice p test second third) (part here) second.value
  third : {p : Place} (test second third : Box Expr Global) → IsPart here (E.Choice p test second third) (part here) third.value
  left : {p : Place} {op : BinaryOp} (left right : Box Expr Global) → IsPart here (E.Binary p op left right) (part here) left.value
  right : {p : Place} {op : BinaryOp} (left right : Box Expr Global) → IsPart here (E.Binary p op left right) (part here) right.value
  of_prefix : {p : Place} {op : PrefixOp} (operand : Box Expr Global) → IsPart here (E.Prefix p op operand) (part here) operand.value
  of_postfix : {p : Place} {op : StepOp} (operand : Box Expr Global) → IsPart here (E.Postfix p op operand) (part here) operand.value
  of_casts : (chain : Vec Cast Global) (operand : Box Expr Global) → IsPart here (E.Casts chain operand) (part here) operand.value
  of_cast : {p : Place} {written : TypeName} (operand : Box Expr Global) → IsPart here (E.ParallelCast p written operand) (part here) operand.value
  right_index : {n : Name} {bracket : Place} (index : Box Expr Global) → IsPart here (E.Element n bracket index) (part here) index.value
  argument : {n : Name} {e : Expr} (arguments : Vec Expr Global) (which : ℕ) → slice_get arguments.items which ≡ Some e → IsPart here (E.Call n arguments) (part here) e
  left_index : {p : Place} {n : Name} {e : Expr} (indexes : Vec Expr Global) (which : ℕ) → slice_get indexes.items which ≡ Some e → IsPart here (E.LeftIndex p indexes n) (index_place here n.word which) e
  along : {e axis : Expr} {mode : SegmentMode} {bit : Option Name} → GoesAlong e axis mode bit → IsPart here e (part here) axis
  of_dim : {p : Place} {written : ShapeRef} (axis : Box Expr Global) → IsPart here (E.DimOf p written axis) (part here) axis.value
  source : {p : Place} (source axis : Box Expr Global) {combiner : Combiner} {direction : Direction} {mode : SegmentMode} {bit : Option Name} {inclusion : Inclusion} → IsPart here (E.Scan p source axis combiner direction mode bit inclusion) (part here) source.value
  printed : {p : Place} {text : List ℕ} {e : Expr} (arguments : Vec Expr Global) (which : ℕ) → slice_get arguments.items which ≡ Some e → IsPart here (E.Printf p text arguments) (part here) e

-- an axis is a part of an expression
pub data IsAxisPart : Expr → Expr → Type 0 where
  along : {e axis : Expr} {mode : SegmentMode} {bit : Option Name} → GoesAlong e axis mode bit → IsAxisPart e axis
  of_dim : {p : Place} {written : ShapeRef} (axis : Box Expr Global) → IsAxisPart (E.DimOf p written axis) axis.value

mutual
  -- Outside all functions an expression can have neither a fault in it nor a type: it calls a
  -- function that has a parameter of a faulty type, and the fault stands at that parameter.
  pub data IsUntold (program : Program) : Here → Expr → Type 0 where
    faulty_call : {here : Here} {n : Name} {f : ℕ} {placed : Placed} (arguments : Vec Expr Global) (which : ℕ) → meaning here n.word ≡ Some (a_function f) → slice_get program.functions f ≡ Some placed → slice_get (parameters_of here placed f) which ≡ Some None → AreFaultless program here (E.Call n arguments) → IsUntold program here (E.Call n arguments)
    in_untold_part : {here there : Here} {e x : Expr} → IsPart here e there x → IsUntold program there x → AreFaultless program here e → IsUntold program here e
    in_untold_brackets : {here : Here} {p : Place} (inner : Box Expr Global) → IsUntold program here inner.value → IsUntold program here (E.Brackets p inner)

  -- neither at an expression nor in its parts there is a fault
  pub data AreFaultless (program : Program) : Here → Expr → Type 0 where
    faultless : {here : Here} {e : Expr} → here.around ≡ None → ((fault : Fault) (p : Place) → FaultAt program here e fault p → ⊥) → ((axis : Expr) → IsAxisPart e axis → HasValue program (part here) axis) → ((there : Here) (x : Expr) → IsPart here e there x → IsFaultless program there x) → AreFaultless program here e

  pub data IsFaultless (program : Program) : Here → Expr → Type 0 where
    typed : {here : Here} {e : Expr} → HasValue program here e → IsFaultless program here e
    untold : {here : Here} {e : Expr} → IsUntold program here e → IsFaultless program here e

-- a fault stands in an expression: at it, in a part or in brackets, where a part that needs a value
-- has none, or at an axis that is no constant expression since no call is one
pub data FaultIn (program : Program) : Here → Expr → Fault → Place → Type 0 where
  at : {here : Here} {e : Expr} {fault : Fault} {p : Place} → FaultAt program here e fault p → FaultIn program here e fault p
  in_part : {here there : Here} {e x : Expr} {fault : Fault} {p : Place} → IsPart here e there x → FaultIn program there x fault p → FaultIn program here e fault p
  in_brackets : {here : Here} {q p : Place} {fault : Fault} (inner : Box Expr Global) → FaultIn program here inner.value fault p → FaultIn program here (E.Brackets q inner) fault p
  no_value : {here there : Here} {e x : Expr} {t : TExpr} → IsPart here e there x → Types program there x t false → FaultIn program here e F.WrongKind (place_of x)
  axis_untold : {here : Here} {e axis : Expr} → IsAxisPart e axis → IsUntold program (part here) axis → FaultIn program here e F.Constant (place_of axis)

-- a fault stands in an expression that needs a value
pub data ValueFaultIn (program : Program) (here : Here) (e : Expr) : Fault → Place → Type 0 where
  within : {fault : Fault} {p : Place} → FaultIn program here e fault p → ValueFaultIn program here e fault p
  without_value : {t : TExpr} → Types program here e t false → ValueFaultIn program here e F.WrongKind (place_of e)
