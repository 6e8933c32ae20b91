-- What the rules ask of an expression that has a type, by cases on the expression.
use Rattle.std.proofs.Common.{◌≡◌, ℕ, Bool, true, false, List, map, length, slice_get, Option, Some, None, Vec, refl, sym, ap, subst, ◌∙◌, if◌then◌else◌}
use Rattle.std.specs.declared.alloc.Global.{Global}
use Rattle.cstar_base.specs.declared.elem.Elem.{Elem}
use Rattle.cstar_base.specs.declared.operators.Place.{Place}
use Rattle.cstar_base.specs.declared.operators.SegmentMode.{SegmentMode}
use Rattle.cstar_base.specs.declared.operators.SegmentMode.TheVariants as M
use Rattle.cstar_tree.specs.declared.syntax.AssignOp.{AssignOp}
use Rattle.cstar_tree.specs.declared.syntax.BinaryOp.{BinaryOp}
use Rattle.cstar_tree.specs.declared.syntax.BinaryOp.TheVariants as B
use Rattle.cstar_tree.specs.declared.syntax.Cast.{Cast}
use Rattle.cstar_tree.specs.declared.syntax.Expr.{Expr, items-the_row-Expr, items_hidden-the_row-Expr-0}
use Rattle.cstar_tree.specs.declared.syntax.Expr as E
use Rattle.cstar_tree.specs.declared.syntax.Name.{Name}
use Rattle.cstar_tree.specs.declared.syntax.PrefixOp.{PrefixOp}
use Rattle.cstar_tree.specs.declared.syntax.PrefixOp.TheVariants as P
use Rattle.cstar_tree.specs.declared.syntax.ShapeRef.{ShapeRef}
use Rattle.cstar_tree.specs.declared.syntax.TypeName.{TypeName}
use Rattle.cstar_tree.specs.declared.typed.Piece.{Piece}
use Rattle.cstar_tree.specs.declared.typed.TExpr.{TExpr}
use Rattle.cstar_tree.specs.declared.typed.UnaryOp.{UnaryOp}
use Rattle.cstar_tree.specs.declared.typed.ValueType.{ValueType}
use Rattle.cstar_tree.specs.declared.typed.Variable.{Variable}
use Rattle.cstar_tree.specs.Constants.{axis_of}
use Rattle.cstar_tree.specs.Conversions.{AreFitted, IsConverted, IsSpread, common, either, int, parallel, promoted, scalar, shape_among, unsigned}
use Rattle.cstar_tree.specs.Conversions as C
use Rattle.cstar_tree.specs.ExpressionFaults.{GoesAlong, parameters_of}
use Rattle.cstar_tree.specs.ExpressionFaults as F
use Rattle.cstar_tree.specs.ExpressionTypes.{AreTaken, GivesOutside, IsBit, IsCallable, IsPlaceOf, IsStorable, IsVariable, Types, TypesEach, TypesIndexes, callee, cast_elem}
use Rattle.cstar_tree.specs.ExpressionTypes as X
use Rattle.cstar_tree.specs.Formats.{conversions, pieces_of}
use Rattle.cstar_tree.specs.Headers.{Leads, Placed, Program, returns_of}
use Rattle.cstar_tree.specs.Operations.{Target, left_target, one, result_elem, sign_of, target_of}
use Rattle.cstar_tree.specs.Scopes.{Here, IsAtHand, a_function, extents_of, meaning, part, shape_of, written_type}
use Rattle.cstar_tree.specs.Typed.{type_of}

-- ---- what there is of each kind of expression

abbrev pub of_parts : Elem → Option ℕ → ValueType
of_parts elem shape = record { elem = elem; shape = shape }

-- the type of a typed tree, what it is as a target, and whether it has a value
pub record IsLike (t : TExpr) (b : Bool) (ty : ValueType) (target : Option Target) (has_value : Bool) : Type 0 where
  pub type_is : type_of t ≡ ty
  pub target_is : target_of t ≡ target
  pub value_is : b ≡ has_value

pub record Operand (program : Program) (here : Here) (e : Expr) : Type 0 where
  pub tree : TExpr
  pub types : Types program here e tree true

pub record OfName (here : Here) (n : Name) (t : TExpr) (b : Bool) : Type 0 where
  pub v : Variable
  pub ty : ValueType
  pub is_variable : IsVariable here n v (record { value = ty; array = None })
  pub at_hand : IsAtHand here.current ty.shape
  pub like : IsLike t b ty (Some one) true

pub record OfElement (program : Program) (here : Here) (n : Name) (index : Expr) (t : TExpr) (b : Bool) : Type 0 where
  pub v : Variable
  pub ty : ValueType
  pub extent : ℕ
  pub is_variable : IsVariable here n v (record { value = ty; array = Some extent })
  pub typed : Operand program (part here) index
  pub is_scalar : (type_of typed.tree).shape ≡ None
  pub at_hand : IsAtHand here.current ty.shape
  pub like : IsLike t b ty (Some one) true

pub record OfDot (here : Here) (t : TExpr) (b : Bool) : Type 0 where
  pub axis : ℕ
  pub is_axis : here.dot ≡ Some axis
  pub like : IsLike t b (record { elem = int; shape = here.current }) None true

pub record OfLeftIndex (program : Program) (here : Here) (p : Place) (n : Name) (es : List Expr) (t : TExpr) (b : Bool) : Type 0 where
  pub v : Variable
  pub elem : Elem
  pub of : ℕ
  pub extents : List ℕ
  pub given : List TExpr
  pub is_variable : IsVariable here n v (record { value = parallel elem of; array = None })
  pub has_extents : extents_of here of ≡ Some extents
  pub as_many : length es ≡ length extents
  pub typed : TypesIndexes program here n 0 es given
  pub like : IsLike t b (record { elem = elem; shape = shape_among given }) (Some (left_target p (shape_among given))) true

pub record OfBrackets (program : Program) (here : Here) (inner : Expr) (t : TExpr) (b : Bool) : Type 0 where
  pub tree : TExpr
  pub types : Types program here inner tree b
  pub like : IsLike t b (type_of tree) (target_of tree) b

pub record OfAssign (program : Program) (here : Here) (op : AssignOp) (target value : Expr) (t : TExpr) (b : Bool) : Type 0 where
  pub stored : Operand program (part here) target
  pub given : Operand program (part here) value
  pub is_place : IsPlaceOf here op stored.tree
  pub is_storable : IsStorable op (type_of stored.tree).shape (type_of given.tree).shape
  pub like : IsLike t b (type_of stored.tree) None true

abbrev pub choice_type : ValueType → ValueType → ValueType → ValueType
choice_type c a b = record { elem = common a.elem b.elem; shape = either c.shape (either a.shape b.shape) }

pub record OfChoice (program : Program) (here : Here) (test second third : Expr) (t : TExpr) (b : Bool) : Type 0 where
  pub condition : Operand program (part here) test
  pub left : Operand program (part here) second
  pub right : Operand program (part here) third
  pub like : IsLike t b (choice_type (type_of condition.tree) (type_of left.tree) (type_of right.tree)) None true

abbrev pub binary_type : BinaryOp → ValueType → ValueType → ValueType
binary_type (B.Number op) a b = record { elem = result_elem op a.elem b.elem; shape = either a.shape b.shape }
binary_type B.LogicalOr a b = record { elem = int; shape = either b.shape a.shape }
binary_type B.LogicalAnd a b = record { elem = int; shape = either b.shape a.shape }

pub record OfBinary (program : Program) (here : Here) (op : BinaryOp) (left right : Expr) (t : TExpr) (b : Bool) : Type 0 where
  pub first : Operand program (part here) left
  pub second : Operand program (part here) right
  pub like : IsLike t b (binary_type op (type_of first.tree) (type_of second.tree)) None true

abbrev pub prefix_type : PrefixOp → ValueType → ValueType
prefix_type P.Plus ty = record { elem = promoted ty.elem; shape = ty.shape }
prefix_type P.Minus ty = record { elem = promoted ty.elem; shape = ty.shape }
prefix_type P.Complement ty = record { elem = promoted ty.elem; shape = ty.shape }
prefix_type P.Not ty = record { elem = int; shape = ty.shape }
prefix_type (P.Reduce op) ty = scalar (promoted ty.elem)
prefix_type (P.Step op) ty = ty

-- what a prefix operator asks of its operand
abbrev pub IsPrefixed : PrefixOp → TExpr → Type 0
IsPrefixed (P.Reduce op) x = (s : ℕ) × ((type_of x).shape ≡ Some s)
IsPrefixed (P.Step op) x = target_of x ≡ Some one
IsPrefixed _ x = Unit {0}

pub record OfPrefix (program : Program) (here : Here) (op : PrefixOp) (operand : Expr) (t : TExpr) (b : Bool) : Type 0 where
  pub typed : Operand program (part here) operand
  pub is_prefixed : IsPrefixed op typed.tree
  pub like : IsLike t b (prefix_type op (type_of typed.tree)) None true

pub record OfPostfix (program : Program) (here : Here) (operand : Expr) (t : TExpr) (b : Bool) : Type 0 where
  pub typed : Operand program (part here) operand
  pub is_place : target_of typed.tree ≡ Some one
  pub like : IsLike t b (type_of typed.tree) None true

pub record OfCasts (program : Program) (here : Here) (chain : Vec Cast Global) (operand : Expr) (t : TExpr) (b : Bool) : Type 0 where
  pub typed : Operand program (part here) operand
  pub is_scalar : (type_of typed.tree).shape ≡ None
  pub like : IsLike t b (scalar (cast_elem chain.items (type_of typed.tree).elem)) None true

pub record OfParallelCast (program : Program) (here : Here) (written : TypeName) (operand : Expr) (t : TExpr) (b : Bool) : Type 0 where
  pub ty : ValueType
  pub is_written : written_type here written ≡ Some ty
  pub at_hand : IsAtHand here.current ty.shape
  pub typed : Operand program (part here) operand
  pub like : IsLike t b ty None true

pub record OfCall (program : Program) (here : Here) (n : Name) (es : List Expr) (t : TExpr) (b : Bool) : Type 0 where
  pub f : ℕ
  pub placed : Placed
  pub types : List ValueType
  pub ty : ValueType
  pub given : List TExpr
  pub is_function : meaning here n.word ≡ Some (a_function f)
  pub is_placed : slice_get program.functions f ≡ Some placed
  pub types_are : parameters_of here placed f ≡ map Some types
  pub is_callable : IsCallable here.current (map Some types) (returns_of (callee here placed f) placed.function.result)
  pub gives : GivesOutside (returns_of (callee here placed f) placed.function.result) ty b
  pub typed : TypesEach program (part here) es given
  pub taken : AreTaken types given
  pub no_way_back : (around : ℕ) → here.around ≡ Some around → Leads program.calls f around → ⊥
  pub like : IsLike t b ty None b

-- an axis of the current shape, and segment bits
pub record IsAlong (here : Here) (axis : Expr) (mode : SegmentMode) (bit : Option Name) : Type 0 where
  pub shape : ℕ
  pub extents : List ℕ
  pub number : ℕ
  pub v : Option Variable
  pub is_current : here.current ≡ Some shape
  pub has_extents : extents_of here shape ≡ Some extents
  pub is_axis : axis_of here extents axis ≡ Some number
  pub is_bit : IsBit here mode bit v

pub record OfIntrinsic (here : Here) (axis : Expr) (mode : SegmentMode) (bit : Option Name) (t : TExpr) (b : Bool) : Type 0 where
  pub along : IsAlong here axis mode bit
  pub like : IsLike t b (record { elem = int; shape = here.current }) None true

pub record OfScan (program : Program) (here : Here) (source axis : Expr) (mode : SegmentMode) (bit : Option Name) (t : TExpr) (b : Bool) : Type 0 where
  pub along : IsAlong here axis mode bit
  pub typed : Operand program (part here) source
  pub of : ℕ
  pub is_parallel : (type_of typed.tree).shape ≡ Some of
  pub like : IsLike t b (record { elem = promoted (type_of typed.tree).elem; shape = here.current }) None true

pub record OfShape (here : Here) (written : ShapeRef) (t : TExpr) (b : Bool) : Type 0 where
  pub shape : ℕ
  pub extents : List ℕ
  pub is_shape : shape_of here written ≡ Some shape
  pub has_extents : extents_of here shape ≡ Some extents
  pub like : IsLike t b (scalar int) None true

pub record OfDimension (here : Here) (written : ShapeRef) (axis : Expr) (t : TExpr) (b : Bool) : Type 0 where
  pub of_shape : OfShape here written t b
  pub number : ℕ
  pub is_axis : axis_of here of_shape.extents axis ≡ Some number

pub record OfPrintf (program : Program) (here : Here) (text : List ℕ) (es : List Expr) (t : TExpr) (b : Bool) : Type 0 where
  pub given : List TExpr
  pub pieces : List Piece
  pub typed : TypesEach program (part here) es given
  pub are_scalar : shape_among given ≡ None
  pub are_pieces : pieces_of text ≡ Some pieces
  pub as_many : conversions pieces ≡ length es
  pub like : IsLike t b (scalar int) None false

abbrev pub Judged : Program → Here → Expr → TExpr → Bool → Type 0
Judged program here (E.Assign' p op _ target _ value) t b = OfAssign program here op target value t b
Judged program here (E.Choice' p _ test _ second _ third) t b = OfChoice program here test second third t b
Judged program here (E.Binary' p op _ left _ right) t b = OfBinary program here op left right t b
Judged program here (E.Prefix' p op _ operand) t b = OfPrefix program here op operand t b
Judged program here (E.Casts' chain _ operand) t b = OfCasts program here chain operand t b
Judged program here (E.ParallelCast' p written _ operand) t b = OfParallelCast program here written operand t b
Judged program here (E.Postfix' p op _ operand) t b = OfPostfix program here operand t b
Judged program here (E.Name n) t b = OfName here n t b
Judged program here (E.Element' n bracket _ index) t b = OfElement program here n index t b
Judged program here (E.Number p value u) t b = IsLike t b (scalar (if u then unsigned else int)) None true
Judged program here (E.Dot p) t b = OfDot here t b
Judged program here (E.Brackets' p _ inner) t b = OfBrackets program here inner t b
Judged program here (E.Call' n _ row) t b = OfCall program here n (items-the_row-Expr _ row) t b
Judged program here (E.LeftIndex' p _ row n) t b = OfLeftIndex program here p n (items-the_row-Expr _ row) t b
Judged program here (E.Pcoord' p _ axis) t b = OfIntrinsic here axis M.NoSegments None t b
Judged program here (E.PositionsOf p written) t b = OfShape here written t b
Judged program here (E.RankOf p written) t b = OfShape here written t b
Judged program here (E.DimOf' p written _ axis) t b = OfDimension here written axis t b
Judged program here (E.Scan' p _ source _ axis _ _ mode bit _) t b = OfScan program here source axis mode bit t b
Judged program here (E.Enumerate' p _ axis _ _ mode bit) t b = OfIntrinsic here axis mode bit t b
Judged program here (E.Printf' p text _ row) t b = OfPrintf program here text (items-the_row-Expr _ row) t b
Judged program here (E.GetChar p) t b = IsLike t b (scalar int) None true

-- ---- the rules ask this

pub converted_type : {a x : TExpr} {e : Elem} → IsConverted a e x → type_of x ≡ of_parts e (type_of a).shape
converted_type {a} (C.as_it_is h) = ap (λ (k : Elem). of_parts k (type_of a).shape) h
converted_type (C.by_node operand is other) = refl

either_none : (x : Option ℕ) → x ≡ either x None
either_none None = refl
either_none (Some s) = refl

-- a value that is spread is parallel as it was, or else of the shape that is wanted
spread_shape : {b y : TExpr} {shape : Option ℕ} → IsSpread b shape y → (type_of y).shape ≡ either (type_of b).shape shape
spread_shape {b} C.none_wanted = either_none (type_of b).shape
spread_shape {shape = shape} (C.is_parallel h) = rw h refl
spread_shape (C.at_each_position operand is none) = rw none refl

sign_type : (op : PrefixOp) (sign : UnaryOp) (ty : ValueType) → sign_of op ≡ Some sign → record { elem = promoted ty.elem; shape = ty.shape } ≡ prefix_type op ty
sign_type P.Plus sign ty is = refl
sign_type P.Minus sign ty is = refl
sign_type P.Complement sign ty is = refl
sign_type P.Not sign ty is = absurd (cc)
sign_type (P.Step op) sign ty is = absurd (cc)
sign_type (P.Reduce op) sign ty is = absurd (cc)

sign_prefixes : (op : PrefixOp) (sign : UnaryOp) (x : TExpr) → sign_of op ≡ Some sign → IsPrefixed op x
sign_prefixes P.Plus sign x is = tt
sign_prefixes P.Minus sign x is = tt
sign_prefixes P.Complement sign x is = tt
sign_prefixes P.Not sign x is = tt
sign_prefixes (P.Step op) sign x is = absurd (cc)
sign_prefixes (P.Reduce op) sign x is = absurd (cc)

fitted_taken : {types : List ValueType} {es fs : List TExpr} → AreFitted types es fs → AreTaken types es
fitted_taken C.none = X.none
fitted_taken (C.next scalar fit rest) = X.next scalar (fitted_taken rest)

abbrev pub operand_of : {program : Program} {here : Here} {e : Expr} {t : TExpr} → Types program here e t true → Operand program here e
operand_of {t = t} h = record { tree = t; types = h }

pub judged : {program : Program} {here : Here} {e : Expr} {t : TExpr} {b : Bool} → Types program here e t b → Judged program here e t b
unfolding target_of
judged X.number = record { type_is = refl; target_is = refl; value_is = refl }
judged (X.name {v = v} {ty = ty} is at_hand) = record { v = v; ty = ty; is_variable = is; at_hand = at_hand; like = record { type_is = refl; target_is = refl; value_is = refl } }
judged (X.element {v = v} {ty = ty} {length = extent} index i is typed none at_hand) = record { v = v; ty = ty; extent = extent; is_variable = is; typed = operand_of typed; is_scalar = none; at_hand = at_hand; like = record { type_is = refl; target_is = refl; value_is = refl } }
judged (X.dot {axis = axis} is) = record { axis = axis; is_axis = is; like = record { type_is = refl; target_is = refl; value_is = refl } }
judged {program = program} (X.left_index {here = here} {n = n} {v = v} {elem = elem} {of = of} {extents = extents} {given = given} indexes ss is known as_many typed spreads) = record {
  v = v;
  elem = elem;
  of = of;
  extents = extents;
  given = given;
  is_variable = is;
  has_extents = known;
  as_many = ap length (items_hidden-the_row-Expr-0 indexes) ∙ as_many;
  typed = subst (λ (es : List Expr). TypesIndexes program here n 0 es given) (sym (items_hidden-the_row-Expr-0 indexes)) typed;
  like = record { type_is = refl; target_is = refl; value_is = refl };
}
judged (X.brackets inner i typed) = record { tree = i.value; types = typed; like = record { type_is = refl; target_is = refl; value_is = refl } }
judged (X.assign target value t f typed typed_value place storable fit) = record { stored = operand_of typed; given = operand_of typed_value; is_place = place; is_storable = storable; like = record { type_is = refl; target_is = refl; value_is = refl } }
judged (X.choice test second third c x y typed_test typed_second typed_third is fit_second fit_third) = record { condition = operand_of typed_test; left = operand_of typed_second; right = operand_of typed_third; like = record { type_is = is; target_is = refl; value_is = refl } }
judged (X.operation {op = op} {a = a} {b = b} left right x y typed_left typed_right is fit_left fit_right) = record { first = operand_of typed_left; second = operand_of typed_right; like = record { type_is = ap (of_parts (result_elem op (type_of a).elem (type_of b).elem)) is; target_is = refl; value_is = refl } }
judged (X.logical_or left right x y typed_left typed_right spread) = record { first = operand_of typed_left; second = operand_of typed_right; like = record { type_is = ap (of_parts int) (spread_shape spread); target_is = refl; value_is = refl } }
judged (X.logical_and left right x y typed_left typed_right spread) = record { first = operand_of typed_left; second = operand_of typed_right; like = record { type_is = ap (of_parts int) (spread_shape spread); target_is = refl; value_is = refl } }
judged (X.signed {op = op} {sign = sign} {a = a} operand x is typed conversion) = record { typed = operand_of typed; is_prefixed = sign_prefixes op sign a is; like = record { type_is = converted_type conversion ∙ sign_type op sign (type_of a) is; target_is = refl; value_is = refl } }
judged (X.logical_not operand x typed) = record { typed = operand_of typed; is_prefixed = tt; like = record { type_is = refl; target_is = refl; value_is = refl } }
judged (X.reduction {shape = shape} operand x typed is_parallel conversion) = record { typed = operand_of typed; is_prefixed = (shape, is_parallel); like = record { type_is = refl; target_is = refl; value_is = refl } }
judged (X.step_before operand x typed is) = record { typed = operand_of typed; is_prefixed = is; like = record { type_is = refl; target_is = refl; value_is = refl } }
judged (X.step_behind operand x typed is) = record { typed = operand_of typed; is_place = is; like = record { type_is = refl; target_is = refl; value_is = refl } }
judged (X.casts chain operand elems x typed none are) = record { typed = operand_of typed; is_scalar = none; like = record { type_is = refl; target_is = refl; value_is = refl } }
judged (X.parallel_cast {ty = ty} operand x is at_hand typed spread) = record { ty = ty; is_written = is; at_hand = at_hand; typed = operand_of typed; like = record { type_is = refl; target_is = refl; value_is = refl } }
judged {program = program} (X.call {here = here} {f = f} {around = around} {placed = placed} {types = types} {ty = ty} {given = given} arguments fs means is is_around no_way reached types_are callable gives typed fits) = record {
  f = f;
  placed = placed;
  types = types;
  ty = ty;
  given = given;
  is_function = means;
  is_placed = is;
  types_are = types_are;
  is_callable = callable;
  gives = X.known gives;
  typed = subst (λ (es : List Expr). TypesEach program (part here) es given) (sym (items_hidden-the_row-Expr-0 arguments)) typed;
  taken = fitted_taken fits;
  no_way_back = λ other is_other leads. let same : other ≡ around = cc in no_way (subst (Leads program.calls f) same leads);
  like = record { type_is = refl; target_is = refl; value_is = refl };
}
judged {program = program} (X.call_outside {here = here} {f = f} {placed = placed} {types = types} {ty = ty} arguments given means is outside types_are callable gives typed taken) = record {
  f = f;
  placed = placed;
  types = types;
  ty = ty;
  given = given.items;
  is_function = means;
  is_placed = is;
  types_are = types_are;
  is_callable = callable;
  gives = gives;
  typed = subst (λ (es : List Expr). TypesEach program (part here) es given.items) (sym (items_hidden-the_row-Expr-0 arguments)) typed;
  taken = taken;
  no_way_back = λ other is_other leads. cc;
  like = record { type_is = refl; target_is = refl; value_is = refl };
}
judged (X.pcoord {shape = shape} {number = number} {extents = extents} axis current known is) = record { along = record { shape = shape; extents = extents; number = number; v = None; is_current = current; has_extents = known; is_axis = is; is_bit = X.no_bit }; like = record { type_is = ap (of_parts int) (sym current); target_is = refl; value_is = refl } }
judged (X.positions_of {shape = shape} {extents = extents} is known) = record { shape = shape; extents = extents; is_shape = is; has_extents = known; like = record { type_is = refl; target_is = refl; value_is = refl } }
judged (X.rank_of {shape = shape} {extents = extents} is known) = record { shape = shape; extents = extents; is_shape = is; has_extents = known; like = record { type_is = refl; target_is = refl; value_is = refl } }
judged (X.dim_of {shape = shape} {number = number} {extents = extents} axis is known among at_axis) = record { of_shape = record { shape = shape; extents = extents; is_shape = is; has_extents = known; like = record { type_is = refl; target_is = refl; value_is = refl } }; number = number; is_axis = among }
judged (X.scan {v = v} {a = a} {shape = shape} {of = of} {number = number} {extents = extents} source axis x current known is segments typed is_parallel conversion) = record { along = record { shape = shape; extents = extents; number = number; v = v; is_current = current; has_extents = known; is_axis = is; is_bit = segments }; typed = operand_of typed; of = of; is_parallel = is_parallel; like = record { type_is = ap (of_parts (promoted (type_of a).elem)) (sym current); target_is = refl; value_is = refl } }
judged (X.enumerate {v = v} {shape = shape} {number = number} {extents = extents} axis current known is segments) = record { along = record { shape = shape; extents = extents; number = number; v = v; is_current = current; has_extents = known; is_axis = is; is_bit = segments }; like = record { type_is = ap (of_parts int) (sym current); target_is = refl; value_is = refl } }
judged {program = program} (X.printf {here = here} {given = given} arguments pieces values typed none are as_many promote) = record {
  given = given;
  pieces = pieces.items;
  typed = subst (λ (es : List Expr). TypesEach program (part here) es given) (sym (items_hidden-the_row-Expr-0 arguments)) typed;
  are_scalar = none;
  are_pieces = are;
  as_many = as_many ∙ sym (ap length (items_hidden-the_row-Expr-0 arguments));
  like = record { type_is = refl; target_is = refl; value_is = refl };
}
judged X.getchar = record { type_is = refl; target_is = refl; value_is = refl }

-- ---- the same where a list is given as a vector

pub judged_call : {program : Program} {here : Here} {n : Name} {t : TExpr} {b : Bool} (arguments : Vec Expr Global) → Types program here (E.Call n arguments) t b → OfCall program here n arguments.items t b
judged_call {program} {here} {n} {t} {b} arguments h = subst (λ (es : List Expr). OfCall program here n es t b) (items_hidden-the_row-Expr-0 arguments) (judged h)

pub judged_index : {program : Program} {here : Here} {p : Place} {n : Name} {t : TExpr} {b : Bool} (indexes : Vec Expr Global) → Types program here (E.LeftIndex p indexes n) t b → OfLeftIndex program here p n indexes.items t b
judged_index {program} {here} {p} {n} {t} {b} indexes h = subst (λ (es : List Expr). OfLeftIndex program here p n es t b) (items_hidden-the_row-Expr-0 indexes) (judged h)

pub judged_printf : {program : Program} {here : Here} {p : Place} {text : List ℕ} {t : TExpr} {b : Bool} (arguments : Vec Expr Global) → Types program here (E.Printf p text arguments) t b → OfPrintf program here text arguments.items t b
judged_printf {program} {here} {text = text} {t} {b} arguments h = subst (λ (es : List Expr). OfPrintf program here text es t b) (items_hidden-the_row-Expr-0 arguments) (judged h)

pub along_of : {program : Program} {here : Here} {e axis : Expr} {mode : SegmentMode} {bit : Option Name} {t : TExpr} {b : Bool} → GoesAlong e axis mode bit → Types program here e t b → IsAlong here axis mode bit
along_of (F.pcoord axis) h = let j = judged h in j.along
along_of (F.scan source axis) h = let j = judged h in j.along
along_of (F.enumerate axis) h = let j = judged h in j.along
