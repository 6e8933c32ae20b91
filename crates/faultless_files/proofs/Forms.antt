-- The typed trees that an expression becomes, as nodes of the typed trees of its parts.
use Rattle.std.proofs.Common.{◌≡◌, ℕ, Bool, true, List, [], ◌∷◌, ◌++◌, map, slice_get, Option, Some, None, refl, sym, ap, subst}
use Rattle.std.proofs.lemmas.Option.{none-some}
use Rattle.cstar_tree.specs.declared.syntax.AssignOp.{AssignOp}
use Rattle.cstar_tree.specs.declared.syntax.BinaryOp.{BinaryOp}
use Rattle.cstar_tree.specs.declared.syntax.BinaryOp.TheVariants as B
use Rattle.cstar_base.specs.declared.operators.Op.{Op}
use Rattle.cstar_tree.specs.declared.syntax.Expr.{Expr, items-the_row-Expr, items_hidden-the_row-Expr-0}
use Rattle.cstar_tree.specs.declared.syntax.Expr as E
use Rattle.cstar_tree.specs.declared.syntax.PrefixOp.{PrefixOp}
use Rattle.cstar_tree.specs.declared.syntax.PrefixOp.TheVariants as P
use Rattle.cstar_tree.specs.declared.typed.StepOrder.TheVariants as W
use Rattle.cstar_tree.specs.declared.typed.TExpr.{TExpr}
use Rattle.cstar_tree.specs.declared.typed.TExpr.TheOpen.{TExpr-F}
use Rattle.cstar_tree.specs.declared.typed.TExpr.TheVariants as rolled
use Rattle.cstar_tree.specs.declared.typed.UnaryOp.{UnaryOp}
use Rattle.cstar_tree.specs.declared.typed.UnaryOp.TheVariants as U
use Rattle.cstar_tree.specs.declared.typed.ValueType.{ValueType}
use Rattle.cstar_tree.specs.Conversions.{AreFitted, ArePromoted, AreSpread, IsConverted, IsFitted, IsSpread, common, either, promoted, shape_among}
use Rattle.cstar_tree.specs.ExpressionFaults.{parameters_of}
use Rattle.cstar_tree.specs.ExpressionTypes.{Types, TypesEach, TypesIndexes, cast_elem}
use Rattle.cstar_tree.specs.ExpressionTypes as X
use Rattle.cstar_tree.specs.Headers.{Placed, Program}
use Rattle.cstar_tree.specs.Operations.{assigned_elem, left_elem, right_elem, sign_of}
use Rattle.cstar_tree.specs.Room.{room_step}
use Rattle.cstar_tree.specs.Scopes.{Here, a_function, meaning, part, written_type}
use Rattle.cstar_tree.specs.Typed.{type_of}
use Rattle.cstar_tree.specs.TypedParts.{concat}
use Rattle.faultless_files.proofs.AlikeTrees.{Calls, IsNode, Rooms, assign_room, brackets_room, by_node, calls_by, index_room, plain_room, scan_room, step_room}

-- ---- the types at which parts are taken

abbrev pub assigned_type : AssignOp → ValueType → ValueType → ValueType
assigned_type op target value = record { elem = assigned_elem op target.elem value.elem; shape = target.shape }

abbrev pub chosen_type : ValueType → ValueType → ValueType → ValueType
chosen_type test a b = record { elem = common a.elem b.elem; shape = either test.shape (either a.shape b.shape) }

abbrev pub left_type : Op → ValueType → ValueType → ValueType
left_type op a b = record { elem = left_elem op a.elem b.elem; shape = either a.shape b.shape }

abbrev pub right_type : Op → ValueType → ValueType → ValueType
right_type op a b = record { elem = right_elem op a.elem b.elem; shape = either a.shape b.shape }

-- two operands become these
abbrev pub AreOperands : BinaryOp → TExpr → TExpr → TExpr → TExpr → Type 0
AreOperands (B.Number op) a b x y = IsFitted a (left_type op (type_of a) (type_of b)) x × IsFitted b (right_type op (type_of a) (type_of b)) y
AreOperands B.LogicalOr a b x y = (a ≡ x) × IsSpread b (type_of a).shape y
AreOperands B.LogicalAnd a b x y = (a ≡ x) × IsSpread b (type_of a).shape y

-- one operand does
abbrev pub IsOperand : PrefixOp → TExpr → TExpr → Type 0
IsOperand P.Not a x = a ≡ x
IsOperand (P.Step op) a x = a ≡ x
IsOperand _ a x = IsConverted a (promoted (type_of a).elem) x

abbrev pub prefix_room : PrefixOp → Rooms
prefix_room (P.Step op) = step_room
prefix_room _ = plain_room

-- the arguments of a call, and the number of what it calls
pub data IsCalled (program : Program) (here : Here) (f : ℕ) (types : List ValueType) : List TExpr → List TExpr → ℕ → Type 0 where
  inside : {given fitted : List TExpr} {around instance : ℕ} → here.around ≡ Some around → slice_get program.instances instance ≡ Some (record { function = f; current = here.current }) → AreFitted types given fitted → IsCalled program here f types given fitted instance
  outside : {given : List TExpr} → here.around ≡ None → IsCalled program here f types given given 0

abbrev pub calling : ℕ → Calls
calling instance calls = concat calls ++ instance ∷ []

-- a call with its typed arguments
pub record IsCallNode (program : Program) (here : Here) (word : List ℕ) (es : List Expr) (t : TExpr) : Type 0 where
  pub f : ℕ
  pub placed : Placed
  pub types : List ValueType
  pub given : List TExpr
  pub arguments : List TExpr
  pub instance : ℕ
  pub means : meaning here word ≡ Some (a_function f)
  pub is_placed : slice_get program.functions f ≡ Some placed
  pub types_are : parameters_of here placed f ≡ map Some types
  pub typed : TypesEach program (part here) es given
  pub called : IsCalled program here f types given arguments instance
  pub node : IsNode t plain_room (calling instance) arguments

abbrev pub Form : Program → Here → Expr → TExpr → Type 0
Form program here (E.Assign' p op _ target _ value) t =
    (x : TExpr) × (v : TExpr) × (f : TExpr) × Types program (part here) target x true × Types program (part here) value v true × IsFitted v (assigned_type op (type_of x) (type_of v)) f × IsNode t assign_room concat (x ∷ f ∷ [])
Form program here (E.Choice' p _ test _ second _ third) t =
    (c : TExpr) × (a : TExpr) × (b : TExpr) × (x : TExpr) × (y : TExpr) × Types program (part here) test c true × Types program (part here) second a true × Types program (part here) third b true
    × IsFitted a (chosen_type (type_of c) (type_of a) (type_of b)) x × IsFitted b (chosen_type (type_of c) (type_of a) (type_of b)) y × IsNode t plain_room concat (c ∷ x ∷ y ∷ [])
Form program here (E.Binary' p op _ left _ right) t =
    (a : TExpr) × (b : TExpr) × (x : TExpr) × (y : TExpr) × Types program (part here) left a true × Types program (part here) right b true × AreOperands op a b x y × IsNode t plain_room concat (x ∷ y ∷ [])
Form program here (E.Prefix' p op _ operand) t = (a : TExpr) × (x : TExpr) × Types program (part here) operand a true × IsOperand op a x × IsNode t (prefix_room op) concat (x ∷ [])
Form program here (E.Casts' chain _ operand) t = (a : TExpr) × Types program (part here) operand a true × IsNode t plain_room concat (a ∷ [])
Form program here (E.ParallelCast' p written _ operand) t =
    (ty : ValueType) × (a : TExpr) × (x : TExpr) × (written_type here written ≡ Some ty) × Types program (part here) operand a true × IsSpread a ty.shape x × IsNode t plain_room concat (x ∷ [])
Form program here (E.Postfix' p op _ operand) t = (a : TExpr) × Types program (part here) operand a true × IsNode t step_room concat (a ∷ [])
Form program here (E.Element' n bracket _ index) t = (i : TExpr) × Types program (part here) index i true × IsNode t plain_room concat (i ∷ [])
Form program here (E.Brackets' p _ inner) t = (i : TExpr) × (b : Bool) × Types program here inner i b × IsNode t brackets_room concat (i ∷ [])
Form program here (E.Call' n _ row) t = IsCallNode program here n.word (items-the_row-Expr _ row) t
Form program here (E.LeftIndex' p _ row n) t =
    (given : List TExpr) × (spread : List TExpr) × TypesIndexes program here n 0 (items-the_row-Expr _ row) given × AreSpread (shape_among given) given spread × IsNode t index_room concat spread
Form program here (E.Scan' p _ source _ axis _ _ mode bit _) t = (a : TExpr) × (x : TExpr) × Types program (part here) source a true × IsConverted a (promoted (type_of a).elem) x × IsNode t scan_room concat (x ∷ [])
Form program here (E.Enumerate' p _ axis _ _ mode bit) t = IsNode t scan_room concat []
Form program here (E.Printf' p text _ row) t =
    (given : List TExpr) × (values : List TExpr) × TypesEach program (part here) (items-the_row-Expr _ row) given × ArePromoted given values × IsNode t plain_room concat values
Form program here _ t = IsNode t plain_room concat []

-- ---- the rules give these

sign_operand : (op : PrefixOp) (sign : UnaryOp) {a x : TExpr} → sign_of op ≡ Some sign → IsConverted a (promoted (type_of a).elem) x → IsOperand op a x
sign_operand P.Plus sign is h = h
sign_operand P.Minus sign is h = h
sign_operand P.Complement sign is h = h
sign_operand P.Not sign is h = absurd (none-some sign is)
sign_operand (P.Step op) sign is h = absurd (none-some sign is)
sign_operand (P.Reduce op) sign is h = h

sign_node : (op : PrefixOp) (sign : UnaryOp) {t : TExpr} {parts : List TExpr} → sign_of op ≡ Some sign → IsNode t plain_room concat parts → IsNode t (prefix_room op) concat parts
sign_node P.Plus sign is h = h
sign_node P.Minus sign is h = h
sign_node P.Complement sign is h = h
sign_node P.Not sign is h = h
sign_node (P.Step op) sign is h = absurd (none-some sign is)
sign_node (P.Reduce op) sign is h = h

fitted_as : {v w : ValueType} {a x : TExpr} → v ≡ w → IsFitted a v x → IsFitted a w x
fitted_as {a = a} {x = x} same h = subst (λ (ty : ValueType). IsFitted a ty x) same h

pub form : {program : Program} {here : Here} {e : Expr} {t : TExpr} {b : Bool} → Types program here e t b → Form program here e t
unfolding room_step concat
form (X.number {value = value}) = record { rooms_are = λ shape. by_node shape (TExpr-F.Number _ value) (rolled.rolls-Number _ value); calls_are = calls_by (TExpr-F.Number _ value) (rolled.rolls-Number _ value) }
form (X.name {v = v} {ty = ty} is at_hand) = record { rooms_are = λ shape. by_node shape (TExpr-F.Variable ty v) (rolled.rolls-Variable ty v); calls_are = calls_by (TExpr-F.Variable ty v) (rolled.rolls-Variable ty v) }
form (X.element {bracket = bracket} {v = v} {ty = ty} index i is typed scalar at_hand) =
    (i.value, typed, record { rooms_are = λ shape. by_node shape (TExpr-F.Element ty bracket v i) (rolled.rolls-Element ty bracket v i); calls_are = calls_by (TExpr-F.Element ty bracket v i) (rolled.rolls-Element ty bracket v i) })
form (X.dot {axis = axis} is) = record { rooms_are = λ shape. by_node shape (TExpr-F.Dot _ axis) (rolled.rolls-Dot _ axis); calls_are = calls_by (TExpr-F.Dot _ axis) (rolled.rolls-Dot _ axis) }
form {program = program} (X.left_index {here = here} {p = p} {n = n} {v = v} {elem = elem} {of = of} {given = given} indexes ss is known as_many typed spread) = (
  given,
  ss.items,
  subst (λ (es : List Expr). TypesIndexes program here n 0 es given) (sym (items_hidden-the_row-Expr-0 indexes)) typed,
  spread,
  record { rooms_are = λ shape. by_node shape (TExpr-F.LeftIndex _ p ss v of) (rolled.rolls-LeftIndex _ p ss v of); calls_are = calls_by (TExpr-F.LeftIndex _ p ss v of) (rolled.rolls-LeftIndex _ p ss v of) },
)
form (X.brackets {has_value = b} inner i typed) =
    (i.value, b, typed, record { rooms_are = λ shape. by_node shape (TExpr-F.Brackets _ i) (rolled.rolls-Brackets _ i); calls_are = calls_by (TExpr-F.Brackets _ i) (rolled.rolls-Brackets _ i) })
form (X.assign {p = p} {op = op} {v = v} target value t f typed typed_value place storable fit) =
    (t.value, v, f.value, typed, typed_value, fit, record { rooms_are = λ shape. by_node shape (TExpr-F.Assign _ p op t f) (rolled.rolls-Assign _ p op t f); calls_are = calls_by (TExpr-F.Assign _ p op t f) (rolled.rolls-Assign _ p op t f) })
form (X.choice {a = a} {b = b} {ty = ty} test second third c x y typed_test typed_second typed_third is fit_second fit_third) = (
  c.value,
  a,
  b,
  x.value,
  y.value,
  typed_test,
  typed_second,
  typed_third,
  fitted_as is fit_second,
  fitted_as is fit_third,
  record { rooms_are = λ shape. by_node shape (TExpr-F.Choice ty c x y) (rolled.rolls-Choice ty c x y); calls_are = calls_by (TExpr-F.Choice ty c x y) (rolled.rolls-Choice ty c x y) },
)
form (X.operation {p = p} {op = op} {a = a} {b = b} {shape = s} left right x y typed_left typed_right is fit_left fit_right) = (
  a,
  b,
  x.value,
  y.value,
  typed_left,
  typed_right,
  (fitted_as (ap (λ (n : Option ℕ). let ty : ValueType = record { elem = left_elem op (type_of a).elem (type_of b).elem; shape = n } in ty) is) fit_left, fitted_as (ap (λ (n : Option ℕ). let ty : ValueType = record { elem = right_elem op (type_of a).elem (type_of b).elem; shape = n } in ty) is) fit_right),
  record { rooms_are = λ shape. by_node shape (TExpr-F.Binary _ p op x y) (rolled.rolls-Binary _ p op x y); calls_are = calls_by (TExpr-F.Binary _ p op x y) (rolled.rolls-Binary _ p op x y) },
)
form (X.logical_or {b = b} left right x y typed_left typed_right spread) =
    (x.value, b, x.value, y.value, typed_left, typed_right, (refl, spread), record { rooms_are = λ shape. by_node shape (TExpr-F.LogicalOr _ x y) (rolled.rolls-LogicalOr _ x y); calls_are = calls_by (TExpr-F.LogicalOr _ x y) (rolled.rolls-LogicalOr _ x y) })
form (X.logical_and {b = b} left right x y typed_left typed_right spread) =
    (x.value, b, x.value, y.value, typed_left, typed_right, (refl, spread), record { rooms_are = λ shape. by_node shape (TExpr-F.LogicalAnd _ x y) (rolled.rolls-LogicalAnd _ x y); calls_are = calls_by (TExpr-F.LogicalAnd _ x y) (rolled.rolls-LogicalAnd _ x y) })
form (X.signed {op = op} {sign = sign} {a = a} operand x is typed conversion) =
    (a, x.value, typed, sign_operand op sign is conversion, sign_node op sign is (record { rooms_are = λ shape. by_node shape (TExpr-F.Unary _ sign x) (rolled.rolls-Unary _ sign x); calls_are = calls_by (TExpr-F.Unary _ sign x) (rolled.rolls-Unary _ sign x) }))
form (X.logical_not operand x typed) = (x.value, x.value, typed, refl, record { rooms_are = λ shape. by_node shape (TExpr-F.Unary _ U.Not x) (rolled.rolls-Unary _ U.Not x); calls_are = calls_by (TExpr-F.Unary _ U.Not x) (rolled.rolls-Unary _ U.Not x) })
form (X.reduction {op = op} {a = a} operand x typed parallel conversion) =
    (a, x.value, typed, conversion, record { rooms_are = λ shape. by_node shape (TExpr-F.Reduce _ op x) (rolled.rolls-Reduce _ op x); calls_are = calls_by (TExpr-F.Reduce _ op x) (rolled.rolls-Reduce _ op x) })
form (X.step_before {op = op} operand x typed is) =
    (x.value, x.value, typed, refl, record { rooms_are = λ shape. by_node shape (TExpr-F.Step _ op W.Prefix x) (rolled.rolls-Step _ op W.Prefix x); calls_are = calls_by (TExpr-F.Step _ op W.Prefix x) (rolled.rolls-Step _ op W.Prefix x) })
form (X.step_behind {op = op} operand x typed is) =
    (x.value, typed, record { rooms_are = λ shape. by_node shape (TExpr-F.Step _ op W.Postfix x) (rolled.rolls-Step _ op W.Postfix x); calls_are = calls_by (TExpr-F.Step _ op W.Postfix x) (rolled.rolls-Step _ op W.Postfix x) })
form (X.casts chain operand elems x typed scalar are) =
    (x.value, typed, record { rooms_are = λ shape. by_node shape (TExpr-F.Casts _ elems x) (rolled.rolls-Casts _ elems x); calls_are = calls_by (TExpr-F.Casts _ elems x) (rolled.rolls-Casts _ elems x) })
form (X.parallel_cast {ty = ty} {a = a} operand x is at_hand typed spread) =
    (ty, a, x.value, is, typed, spread, record { rooms_are = λ shape. by_node shape (TExpr-F.ParallelCast ty x) (rolled.rolls-ParallelCast ty x); calls_are = calls_by (TExpr-F.ParallelCast ty x) (rolled.rolls-ParallelCast ty x) })
form {program = program} (X.call {here = here} {f = f} {instance = instance} {placed = placed} {types = types} {ty = ty} {given = given} arguments fs means is around no_way reached types_are callable gives typed fits) = record {
  f = f;
  placed = placed;
  types = types;
  given = given;
  arguments = fs.items;
  instance = instance;
  means = means;
  is_placed = is;
  types_are = types_are;
  typed = subst (λ (es : List Expr). TypesEach program (part here) es given) (sym (items_hidden-the_row-Expr-0 arguments)) typed;
  called = inside around reached fits;
  node = record { rooms_are = λ shape. by_node shape (TExpr-F.Call ty instance fs) (rolled.rolls-Call ty instance fs); calls_are = calls_by (TExpr-F.Call ty instance fs) (rolled.rolls-Call ty instance fs) };
}
form {program = program} (X.call_outside {here = here} {f = f} {placed = placed} {types = types} {ty = ty} arguments given means is around types_are callable gives typed taken) = record {
  f = f;
  placed = placed;
  types = types;
  given = given.items;
  arguments = given.items;
  instance = 0;
  means = means;
  is_placed = is;
  types_are = types_are;
  typed = subst (λ (es : List Expr). TypesEach program (part here) es given.items) (sym (items_hidden-the_row-Expr-0 arguments)) typed;
  called = outside around;
  node = record { rooms_are = λ shape. by_node shape (TExpr-F.Call ty 0 given) (rolled.rolls-Call ty 0 given); calls_are = calls_by (TExpr-F.Call ty 0 given) (rolled.rolls-Call ty 0 given) };
}
form (X.pcoord {number = number} axis current known is) = record { rooms_are = λ shape. by_node shape (TExpr-F.Pcoord _ number) (rolled.rolls-Pcoord _ number); calls_are = calls_by (TExpr-F.Pcoord _ number) (rolled.rolls-Pcoord _ number) }
form (X.positions_of is known) = record { rooms_are = λ shape. by_node shape (TExpr-F.PositionsOf _ _ _) (rolled.rolls-PositionsOf _ _ _); calls_are = calls_by (TExpr-F.PositionsOf _ _ _) (rolled.rolls-PositionsOf _ _ _) }
form (X.rank_of is known) = record { rooms_are = λ shape. by_node shape (TExpr-F.RankOf _ _ _) (rolled.rolls-RankOf _ _ _); calls_are = calls_by (TExpr-F.RankOf _ _ _) (rolled.rolls-RankOf _ _ _) }
form (X.dim_of axis is known among at_axis) = record { rooms_are = λ shape. by_node shape (TExpr-F.DimOf _ _ _ _) (rolled.rolls-DimOf _ _ _ _); calls_are = calls_by (TExpr-F.DimOf _ _ _ _) (rolled.rolls-DimOf _ _ _ _) }
form (X.scan {a = a} source axis x current known is segments typed parallel conversion) =
    (a, x.value, typed, conversion, record { rooms_are = λ shape. by_node shape (TExpr-F.Scan _ x _ _ _ _ _ _) (rolled.rolls-Scan _ x _ _ _ _ _ _); calls_are = calls_by (TExpr-F.Scan _ x _ _ _ _ _ _) (rolled.rolls-Scan _ x _ _ _ _ _ _) })
form (X.enumerate axis current known is segments) = record { rooms_are = λ shape. by_node shape (TExpr-F.Enumerate _ _ _ _ _ _) (rolled.rolls-Enumerate _ _ _ _ _ _); calls_are = calls_by (TExpr-F.Enumerate _ _ _ _ _ _) (rolled.rolls-Enumerate _ _ _ _ _ _) }
form {program = program} (X.printf {here = here} {given = given} arguments pieces values typed none are as_many promote) = (
  given,
  values.items,
  subst (λ (es : List Expr). TypesEach program (part here) es given) (sym (items_hidden-the_row-Expr-0 arguments)) typed,
  promote,
  record { rooms_are = λ shape. by_node shape (TExpr-F.Printf _ pieces values) (rolled.rolls-Printf _ pieces values); calls_are = calls_by (TExpr-F.Printf _ pieces values) (rolled.rolls-Printf _ pieces values) },
)
form X.getchar = record { rooms_are = λ shape. by_node shape (TExpr-F.GetChar _) (rolled.rolls-GetChar _); calls_are = calls_by (TExpr-F.GetChar _) (rolled.rolls-GetChar _) }
