-- The types of expressions: which typed tree an expression becomes where it stands. Every name
-- becomes a number, and every conversion and every promotion a node.
use Rattle.std.specs.Prelude.{◌≡◌, ℕ, ◌+◌, Bool, true, false, List, [], ◌∷◌, map, length, slice_get, ◌⊎◌, Option, Some, None, Box, Vec, if◌then◌else◌}
use Rattle.std.specs.List.{All}
use Rattle.std.specs.declared.alloc.Global.{Global}
use Rattle.cstar_base.specs.declared.elem.Elem.{Elem}
use Rattle.cstar_base.specs.declared.operators.Place.{Place}
use Rattle.cstar_base.specs.declared.operators.Combiner.{Combiner}
use Rattle.cstar_base.specs.declared.operators.Direction.{Direction}
use Rattle.cstar_base.specs.declared.operators.Inclusion.{Inclusion}
use Rattle.cstar_base.specs.declared.operators.Op.{Op}
use Rattle.cstar_base.specs.declared.operators.SegmentMode.{SegmentMode}
use Rattle.cstar_base.specs.declared.operators.SegmentMode.TheVariants as M
use Rattle.cstar_tree.specs.declared.syntax.AssignOp.{AssignOp}
use Rattle.cstar_tree.specs.declared.syntax.BinaryOp.TheVariants as B
use Rattle.cstar_tree.specs.declared.syntax.Cast.{Cast}
use Rattle.cstar_tree.specs.declared.syntax.Expr.{Expr}
use Rattle.cstar_tree.specs.declared.syntax.Expr as E
use Rattle.cstar_tree.specs.declared.syntax.Name.{Name}
use Rattle.cstar_tree.specs.declared.syntax.PrefixOp.{PrefixOp}
use Rattle.cstar_tree.specs.declared.syntax.PrefixOp.TheVariants as P
use Rattle.cstar_tree.specs.declared.syntax.ReduceOp.{ReduceOp}
use Rattle.cstar_tree.specs.declared.syntax.ShapeRef.{ShapeRef}
use Rattle.cstar_tree.specs.declared.syntax.StepOp.{StepOp}
use Rattle.cstar_tree.specs.declared.syntax.TypeName.{TypeName}
use Rattle.cstar_tree.specs.declared.typed.Piece.{Piece}
use Rattle.cstar_tree.specs.declared.typed.StepOrder.TheVariants as W
use Rattle.cstar_tree.specs.declared.typed.TExpr.{TExpr}
use Rattle.cstar_tree.specs.declared.typed.TExpr as T
use Rattle.cstar_tree.specs.declared.typed.UnaryOp.{UnaryOp}
use Rattle.cstar_tree.specs.declared.typed.UnaryOp.TheVariants as U
use Rattle.cstar_tree.specs.declared.typed.ValueType.{ValueType}
use Rattle.cstar_tree.specs.declared.typed.Variable.{Variable}
use Rattle.cstar_tree.specs.Typed.{type_of}
use Rattle.cstar_tree.specs.Scopes.{Here, IsAtHand, VariableType, a_function, a_variable, extents_of, index_place, meaning, part, shape_of, written_type}
use Rattle.cstar_tree.specs.Conversions.{AreFitted, ArePromoted, AreSpread, IsConverted, IsFitted, IsSpread, common, either, int, parallel, promoted, scalar, shape_among, unsigned}
use Rattle.cstar_tree.specs.Operations.{assigned_elem, folds, left_elem, many, one, result_elem, right_elem, sends, sign_of, target_of}
use Rattle.cstar_tree.specs.Constants.{axis_of, product}
use Rattle.cstar_tree.specs.Formats.{conversions, pieces_of}
use Rattle.cstar_tree.specs.Headers.{Leads, Placed, Program, Returns, a_value, header_place, nothing, parameter_types, returns_of, unknown}

-- a name stands for a variable of this type
abbrev pub IsVariable : Here → Name → Variable → VariableType → Type 0
IsVariable here n variable ty = meaning here n.word ≡ Some (a_variable variable (Some ty))

-- What an assignment can store in: one place, or as a whole expression the targets of a send, under
-- an operator that can send. A parallel value goes into a scalar place only by a fold.
pub data IsPlaceOf (here : Here) (op : AssignOp) (target : TExpr) : Type 0 where
  one_place : target_of target ≡ Some one → IsPlaceOf here op target
  targets : {p : Place} → target_of target ≡ Some (many p) → here.whole ≡ true → sends op ≡ true → IsPlaceOf here op target

abbrev pub IsStorable : AssignOp → Option ℕ → Option ℕ → Type 0
IsStorable op target value = target ≡ None → (value ≡ None) ⊎ (folds op ≡ true)

-- the segment bits of a scan: none without segments, and else a `bool` variable of the current shape
pub data IsBit (here : Here) : SegmentMode → Option Name → Option Variable → Type 0 where
  no_bit : IsBit here M.NoSegments None None
  bit : {mode : SegmentMode} {n : Name} {v : Variable} {elem : Elem} {shape : ℕ} → (mode ≡ M.NoSegments → ⊥) → IsVariable here n v (record { value = parallel elem shape; array = None }) → elem.bits ≡ 1 → here.current ≡ Some shape → IsBit here mode (Some n) (Some v)

-- what a call gives, and whether it has a value; one without value carries an `int`
pub data Gives : Returns → ValueType → Bool → Type 0 where
  no_value : Gives nothing (scalar int) false
  value : {ty : ValueType} → Gives (a_value ty) ty true

-- outside all functions nothing is asked of the result's own fault
pub data GivesOutside : Returns → ValueType → Bool → Type 0 where
  known : {r : Returns} {ty : ValueType} {has_value : Bool} → Gives r ty has_value → GivesOutside r ty has_value
  not_known : GivesOutside unknown (scalar int) true

-- parameters and result of the callee are scalar or of the current shape, where they are known
pub data IsKnownAtHand (current : Option ℕ) : Option ValueType → Type 0 where
  faulty : IsKnownAtHand current None
  typed : {ty : ValueType} → IsAtHand current ty.shape → IsKnownAtHand current (Some ty)

abbrev pub result_known : Returns → Option ValueType
result_known nothing = None
result_known (a_value ty) = Some ty
result_known unknown = None

pub record IsCallable (current : Option ℕ) (parameters : List (Option ValueType)) (returns : Returns) : Type 0 where
  pub parameters_at_hand : All (IsKnownAtHand current) parameters
  pub result_at_hand : IsKnownAtHand current (result_known returns)

-- as many arguments as parameters, and no parallel one for a scalar parameter
pub data AreTaken : List ValueType → List TExpr → Type 0 where
  none : AreTaken [] []
  next : {ty : ValueType} {e : TExpr} {types : List ValueType} {es : List TExpr} → (ty.shape ≡ None → (type_of e).shape ≡ None) → AreTaken types es → AreTaken (ty ∷ types) (e ∷ es)

-- the header of a function under the current shape of a place
abbrev pub callee : Here → Placed → ℕ → Here
callee here placed f = header_place here.shapes placed (record { function = f; current = here.current })

-- the element type of a chain of casts is that of the outermost
abbrev pub cast_elem : List Cast → Elem → Elem
cast_elem [] elem = elem
cast_elem (c ∷ cs) elem = c.elem

mutual
  -- An expression of the program here becomes this typed one, which has a value or has none. The
  -- parts of an expression need a value, but within brackets.
  pub data Types (program : Program) : Here → Expr → TExpr → Bool → Type 0 where
    number : {here : Here} {p : Place} {value : ℕ} {u : Bool} → Types program here (E.Number p value u) (T.Number (scalar (if u then unsigned else int)) value) true
    -- a whole variable: of the current shape where it is parallel
    name : {here : Here} {n : Name} {v : Variable} {ty : ValueType} → IsVariable here n v (record { value = ty; array = None }) → IsAtHand here.current ty.shape → Types program here (E.Name n) (T.Variable ty v) true
    -- an array with a scalar right index is a whole parallel variable
    element : {here : Here} {n : Name} {bracket : Place} {v : Variable} {ty : ValueType} {length : ℕ} (index : Box Expr Global) (i : Box TExpr Global) → IsVariable here n v (record { value = ty; array = Some length }) → Types program (part here) index.value i.value true → (type_of i.value).shape ≡ None → IsAtHand here.current ty.shape → Types program here (E.Element n bracket index) (T.Element ty bracket v i) true
    -- a `.` is the own coordinate of each position, along the axis of its left index
    dot : {here : Here} {p : Place} {axis : ℕ} → here.dot ≡ Some axis → Types program here (E.Dot p) (T.Dot (record { elem = int; shape = here.current }) axis) true
    -- one index for each axis; with a parallel one the others are promoted to the current shape
    left_index : {here : Here} {p : Place} {n : Name} {v : Variable} {elem : Elem} {of : ℕ} {extents : List ℕ} {given : List TExpr} (indexes : Vec Expr Global) (spread : Vec TExpr Global) → IsVariable here n v (record { value = parallel elem of; array = None }) → extents_of here of ≡ Some extents → length indexes.items ≡ length extents → TypesIndexes program here n 0 indexes.items given → AreSpread (shape_among given) given spread.items → Types program here (E.LeftIndex p indexes n) (T.LeftIndex (record { elem = elem; shape = shape_among given }) p spread v of) true
    brackets : {here : Here} {p : Place} {has_value : Bool} (inner : Box Expr Global) (i : Box TExpr Global) → Types program here inner.value i.value has_value → Types program here (E.Brackets p inner) (T.Brackets (type_of i.value) i) has_value
    -- the value is brought to the type at which it is stored or combined, and to the target's shape
    assign : {here : Here} {p : Place} {op : AssignOp} {v : TExpr} (target value : Box Expr Global) (t f : Box TExpr Global) → Types program (part here) target.value t.value true → Types program (part here) value.value v true → IsPlaceOf here op t.value → IsStorable op (type_of t.value).shape (type_of v).shape → IsFitted v (record { elem = assigned_elem op (type_of t.value).elem (type_of v).elem; shape = (type_of t.value).shape }) f.value → Types program here (E.Assign p op target value) (T.Assign (type_of t.value) p op t f) true
    -- the second and third operand have their common type, and the shape of whichever is parallel
    choice : {here : Here} {p : Place} {a b : TExpr} {ty : ValueType} (test second third : Box Expr Global) (c x y : Box TExpr Global) → Types program (part here) test.value c.value true → Types program (part here) second.value a true → Types program (part here) third.value b true → ty ≡ record { elem = common (type_of a).elem (type_of b).elem; shape = either (type_of c.value).shape (either (type_of a).shape (type_of b).shape) } → IsFitted a ty x.value → IsFitted b ty y.value → Types program here (E.Choice p test second third) (T.Choice ty c x y) true
    operation : {here : Here} {p : Place} {op : Op} {a b : TExpr} {shape : Option ℕ} (left right : Box Expr Global) (x y : Box TExpr Global) → Types program (part here) left.value a true → Types program (part here) right.value b true → shape ≡ either (type_of a).shape (type_of b).shape → IsFitted a (record { elem = left_elem op (type_of a).elem (type_of b).elem; shape = shape }) x.value → IsFitted b (record { elem = right_elem op (type_of a).elem (type_of b).elem; shape = shape }) y.value → Types program here (E.Binary p (B.Number op) left right) (T.Binary (record { elem = result_elem op (type_of a).elem (type_of b).elem; shape = shape }) p op x y) true
    -- `||` and `&&` ask only whether an operand is zero, so neither is converted; under a parallel
    -- left operand the right one is parallel too
    logical_or : {here : Here} {p : Place} {b : TExpr} (left right : Box Expr Global) (x y : Box TExpr Global) → Types program (part here) left.value x.value true → Types program (part here) right.value b true → IsSpread b (type_of x.value).shape y.value → Types program here (E.Binary p B.LogicalOr left right) (T.LogicalOr (record { elem = int; shape = (type_of y.value).shape }) x y) true
    logical_and : {here : Here} {p : Place} {b : TExpr} (left right : Box Expr Global) (x y : Box TExpr Global) → Types program (part here) left.value x.value true → Types program (part here) right.value b true → IsSpread b (type_of x.value).shape y.value → Types program here (E.Binary p B.LogicalAnd left right) (T.LogicalAnd (record { elem = int; shape = (type_of y.value).shape }) x y) true
    signed : {here : Here} {p : Place} {op : PrefixOp} {sign : UnaryOp} {a : TExpr} (operand : Box Expr Global) (x : Box TExpr Global) → sign_of op ≡ Some sign → Types program (part here) operand.value a true → IsConverted a (promoted (type_of a).elem) x.value → Types program here (E.Prefix p op operand) (T.Unary (type_of x.value) sign x) true
    logical_not : {here : Here} {p : Place} (operand : Box Expr Global) (x : Box TExpr Global) → Types program (part here) operand.value x.value true → Types program here (E.Prefix p P.Not operand) (T.Unary (record { elem = int; shape = (type_of x.value).shape }) U.Not x) true
    -- a reduction folds a parallel operand, promoted, into a scalar
    reduction : {here : Here} {p : Place} {op : ReduceOp} {a : TExpr} {shape : ℕ} (operand : Box Expr Global) (x : Box TExpr Global) → Types program (part here) operand.value a true → (type_of a).shape ≡ Some shape → IsConverted a (promoted (type_of a).elem) x.value → Types program here (E.Prefix p (P.Reduce op) operand) (T.Reduce (scalar (promoted (type_of a).elem)) op x) true
    step_before : {here : Here} {p : Place} {op : StepOp} (operand : Box Expr Global) (x : Box TExpr Global) → Types program (part here) operand.value x.value true → target_of x.value ≡ Some one → Types program here (E.Prefix p (P.Step op) operand) (T.Step (type_of x.value) op W.Prefix x) true
    step_behind : {here : Here} {p : Place} {op : StepOp} (operand : Box Expr Global) (x : Box TExpr Global) → Types program (part here) operand.value x.value true → target_of x.value ≡ Some one → Types program here (E.Postfix p op operand) (T.Step (type_of x.value) op W.Postfix x) true
    casts : {here : Here} (chain : Vec Cast Global) (operand : Box Expr Global) (elems : Vec Elem Global) (x : Box TExpr Global) → Types program (part here) operand.value x.value true → (type_of x.value).shape ≡ None → elems.items ≡ map (λ (c : Cast). c.elem) chain.items → Types program here (E.Casts chain operand) (T.Casts (scalar (cast_elem chain.items (type_of x.value).elem)) elems x) true
    -- a cast to a type of the current shape promotes a scalar operand
    parallel_cast : {here : Here} {p : Place} {written : TypeName} {ty : ValueType} {a : TExpr} (operand : Box Expr Global) (x : Box TExpr Global) → written_type here written ≡ Some ty → IsAtHand here.current ty.shape → Types program (part here) operand.value a true → IsSpread a ty.shape x.value → Types program here (E.ParallelCast p written operand) (T.ParallelCast ty x) true
    -- A call of a function that does not lead back to the one around. Its instance is that of the
    -- current shape.
    call : {here : Here} {n : Name} {f around instance : ℕ} {placed : Placed} {types : List ValueType} {ty : ValueType} {has_value : Bool} {given : List TExpr} (arguments : Vec Expr Global) (fitted : Vec TExpr Global) → meaning here n.word ≡ Some (a_function f) → slice_get program.functions f ≡ Some placed → here.around ≡ Some around → (Leads program.calls f around → ⊥) → slice_get program.instances instance ≡ Some (record { function = f; current = here.current }) → parameter_types (callee here placed f) 0 placed.function.parameters.items ≡ map Some types → IsCallable here.current (map Some types) (returns_of (callee here placed f) placed.function.result) → Gives (returns_of (callee here placed f) placed.function.result) ty has_value → TypesEach program (part here) arguments.items given → AreFitted types given fitted.items → Types program here (E.Call n arguments) (T.Call ty instance fitted) has_value
    -- outside all functions a call reaches no instance, and is never a constant
    call_outside : {here : Here} {n : Name} {f : ℕ} {placed : Placed} {types : List ValueType} {ty : ValueType} {has_value : Bool} (arguments : Vec Expr Global) (given : Vec TExpr Global) → meaning here n.word ≡ Some (a_function f) → slice_get program.functions f ≡ Some placed → here.around ≡ None → parameter_types (callee here placed f) 0 placed.function.parameters.items ≡ map Some types → IsCallable here.current (map Some types) (returns_of (callee here placed f) placed.function.result) → GivesOutside (returns_of (callee here placed f) placed.function.result) ty has_value → TypesEach program (part here) arguments.items given.items → AreTaken types given.items → Types program here (E.Call n arguments) (T.Call ty 0 given) has_value
    pcoord : {here : Here} {p : Place} {shape number : ℕ} {extents : List ℕ} (axis : Box Expr Global) → here.current ≡ Some shape → extents_of here shape ≡ Some extents → axis_of here extents axis.value ≡ Some number → Types program here (E.Pcoord p axis) (T.Pcoord (parallel int shape) number) true
    positions_of : {here : Here} {p : Place} {written : ShapeRef} {shape : ℕ} {extents : List ℕ} → shape_of here written ≡ Some shape → extents_of here shape ≡ Some extents → Types program here (E.PositionsOf p written) (T.PositionsOf (scalar int) shape (product extents)) true
    rank_of : {here : Here} {p : Place} {written : ShapeRef} {shape : ℕ} {extents : List ℕ} → shape_of here written ≡ Some shape → extents_of here shape ≡ Some extents → Types program here (E.RankOf p written) (T.RankOf (scalar int) shape (length extents)) true
    dim_of : {here : Here} {p : Place} {written : ShapeRef} {shape number extent : ℕ} {extents : List ℕ} (axis : Box Expr Global) → shape_of here written ≡ Some shape → extents_of here shape ≡ Some extents → axis_of here extents axis.value ≡ Some number → slice_get extents number ≡ Some extent → Types program here (E.DimOf p written axis) (T.DimOf (scalar int) shape number extent) true
    -- a scan has the promoted type of its source, and the current shape
    scan : {here : Here} {p : Place} {combiner : Combiner} {direction : Direction} {mode : SegmentMode} {bit : Option Name} {v : Option Variable} {inclusion : Inclusion} {a : TExpr} {shape of number : ℕ} {extents : List ℕ} (source axis : Box Expr Global) (x : Box TExpr Global) → here.current ≡ Some shape → extents_of here shape ≡ Some extents → axis_of here extents axis.value ≡ Some number → IsBit here mode bit v → Types program (part here) source.value a true → (type_of a).shape ≡ Some of → IsConverted a (promoted (type_of a).elem) x.value → Types program here (E.Scan p source axis combiner direction mode bit inclusion) (T.Scan (parallel (promoted (type_of a).elem) shape) x number combiner direction mode v inclusion) true
    enumerate : {here : Here} {p : Place} {direction : Direction} {mode : SegmentMode} {bit : Option Name} {v : Option Variable} {inclusion : Inclusion} {shape number : ℕ} {extents : List ℕ} (axis : Box Expr Global) → here.current ≡ Some shape → extents_of here shape ≡ Some extents → axis_of here extents axis.value ≡ Some number → IsBit here mode bit v → Types program here (E.Enumerate p axis direction inclusion mode bit) (T.Enumerate (parallel int shape) number direction inclusion mode v) true
    -- the values of `printf` are scalar and promoted, one for each conversion of its text
    printf : {here : Here} {p : Place} {text : List ℕ} {given : List TExpr} (arguments : Vec Expr Global) (pieces : Vec Piece Global) (values : Vec TExpr Global) → TypesEach program (part here) arguments.items given → shape_among given ≡ None → pieces_of text ≡ Some pieces.items → conversions pieces.items ≡ length arguments.items → ArePromoted given values.items → Types program here (E.Printf p text arguments) (T.Printf (scalar int) pieces values) false
    getchar : {here : Here} {p : Place} → Types program here (E.GetChar p) (T.GetChar (scalar int)) true

  -- expressions that need values, in order
  pub data TypesEach (program : Program) : Here → List Expr → List TExpr → Type 0 where
    no_expression : {here : Here} → TypesEach program here [] []
    next_expression : {here : Here} {e : Expr} {t : TExpr} {es : List Expr} {ts : List TExpr} → Types program here e t true → TypesEach program here es ts → TypesEach program here (e ∷ es) (t ∷ ts)

  -- the indexes before a name, the first of them along this axis
  pub data TypesIndexes (program : Program) : Here → Name → ℕ → List Expr → List TExpr → Type 0 where
    no_index : {here : Here} {n : Name} {axis : ℕ} → TypesIndexes program here n axis [] []
    next_index : {here : Here} {n : Name} {axis : ℕ} {e : Expr} {t : TExpr} {es : List Expr} {ts : List TExpr} → Types program (index_place here n.word axis) e t true → TypesIndexes program here n (axis + 1) es ts → TypesIndexes program here n axis (e ∷ es) (t ∷ ts)

-- an expression has a type here, as a value
abbrev pub HasValue : Program → Here → Expr → Type 0
HasValue program here e = (t : TExpr) × Types program here e t true
