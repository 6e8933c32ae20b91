-- What the rules of typing give an expression is shaped.
use Rattle.std.proofs.Common.{◌≡◌, ℕ, Bool, is_none, IsSome, List, Option, Some, None, refl, ap, sym}
use Rattle.std.specs.List.{All}
use Rattle.std.proofs.lemmas.List.Elements.{All-nil, All-cons, All-head, All-tail}
use Rattle.std.proofs.lemmas.Option.{none-some}
use Rattle.cstar_tree.specs.declared.syntax.AssignOp.{AssignOp}
use Rattle.cstar_tree.specs.declared.syntax.Expr.{Expr, items_hidden-the_row-Expr-0}
use Rattle.cstar_tree.specs.declared.syntax.Expr as E
use Rattle.cstar_tree.specs.declared.syntax.Name.{Name}
use Rattle.cstar_tree.specs.declared.syntax.ShapeRef.{ShapeRef}
use Rattle.cstar_tree.specs.declared.syntax.TypeName.{TypeName}
use Rattle.cstar_tree.specs.declared.typed.TExpr.{TExpr, items_hidden-the_row-TExpr-0}
use Rattle.cstar_tree.specs.declared.typed.TExpr as T
use Rattle.cstar_tree.specs.declared.typed.ValueType.{ValueType}
use Rattle.cstar_tree.specs.declared.typed.Variable.{Variable}
use Rattle.cstar_tree.specs.Conversions.{int, scalar, shape_among}
use Rattle.cstar_tree.specs.ExpressionTypes.{IsPlaceOf, IsVariable, Types, TypesEach, TypesIndexes}
use Rattle.cstar_tree.specs.ExpressionTypes as X
use Rattle.cstar_tree.specs.Headers.{Program}
use Rattle.cstar_tree.specs.Operations.{many, one, target_of}
use Rattle.cstar_tree.specs.Scopes.{Here, meaning, of_shape, of_written, shape_of, written_type}
use Rattle.lower_expr.specs.Steps.{is_kept}
use Rattle.code_lengths.specs.Shaped.{HasShape, IsShaped, IsTarget}
use Rattle.shaped_trees.specs.Casts.{ExpressionNamesShapes}
use Rattle.shaped_trees.specs.Laws.{IsShapedValue}
use Rattle.shaped_trees.specs.Places.{IsSound}
use Rattle.shaped_trees.proofs.Bringing.{all_fitted, all_promoted, all_shaped, all_spread, converted, fitted, no_target, spread, spread_parallel}
use Rattle.shaped_trees.proofs.Known.{in_index, in_part}
use Rattle.shaped_trees.proofs.Rows.{list_shaped, names_each}

parallel_array : (here : Here) (n : Name) (v : Variable) (ty : ValueType) (length : ℕ) → IsSound here → IsVariable here n v (record { value = ty; array = Some length }) → HasShape ty
unfolding meaning
parallel_array here n v ty length s is = s.arrays n.word v ty length is

-- the type that is written with a shape has one
pub written_parallel : (here : Here) (written : TypeName) (ty : ValueType) → IsSome written.shape → written_type here written ≡ Some ty → HasShape ty
written_parallel here written ty has is = by_shape written.shape has is
  where
    value : ValueType → Option ValueType → ValueType
    value other None = other
    value other (Some ty) = ty

    with_shape : (known : Option ℕ) → of_shape written known ≡ Some ty → HasShape ty
    with_shape None is = elim (none-some ty is) [ ]
    with_shape (Some s) is = sym (ap (λ (o : Option ValueType). is_none (value ty o).shape) is)

    by_shape : (shape : Option ShapeRef) → IsSome shape → of_written here written shape ≡ Some ty → HasShape ty
    by_shape None has is = cc
    by_shape (Some shape) has is = with_shape (shape_of here shape) is

place_target : {here : Here} {op : AssignOp} {t : TExpr} → IsPlaceOf here op t → IsShapedValue t → IsTarget t
place_target (X.one_place is) g = g.target one is
place_target (X.targets {p = p} is whole sends) g = g.target (many p) is

module _ (program : Program) where
  mutual
    unfolding IsShaped IsTarget is_kept target_of ExpressionNamesShapes

    pub given : {here : Here} {e : Expr} {t : TExpr} {has_value : Bool} → Types program here e t has_value → IsSound here → ExpressionNamesShapes e → IsShapedValue t
    given X.number s w = no_target refl refl refl
    given (X.name is at_hand) s w = record { shaped = tt; target = λ which h. tt; kept = refl }
    given (X.element {here = here} {n = n} {v = v} {ty = ty} {length = length} index i is typed scalar at_hand) s w =
        let g = given typed (in_part here s) w in
        let has = parallel_array here n v ty length s is in
        record { shaped = (has, g.shaped); target = λ which h. (has, g.shaped); kept = refl }
    given (X.dot {axis = axis} is) s w = no_target (s.dot axis is) refl refl
    given (X.left_index {here = here} {p = p} {n = n} {v = v} {elem = elem} {of = of} {given = ts} indexes ss is known as_many typed spreads) s w =
        let shaped = list_shaped (T.LeftIndex (record { elem = elem; shape = shape_among ts }) p ss v of) ss (items_hidden-the_row-TExpr-0 ss) (all_spread spreads (given_indexes typed s (names_each (E.LeftIndex p indexes n) indexes (items_hidden-the_row-Expr-0 indexes) w))) in
        record { shaped = shaped; target = λ which h. shaped; kept = refl }
    given (X.brackets inner i typed) s w =
        let g = given typed s w in
        record { shaped = (refl, g.shaped); target = λ which h. (refl, g.target which h); kept = g.kept }
    given (X.assign {here = here} target value t f typed typed_value place storable fit) s w =
        let g = given typed (in_part here s) w.0 in
        let h = given typed_value (in_part here s) w.1 in
        no_target (refl, λ has. spread_parallel fit.spread has, place_target place g, fitted fit h) refl refl
    given (X.choice {here = here} test second third c x y typed_test typed_second typed_third is fit_second fit_third) s w =
        let g = given typed_test (in_part here s) w.0 in
        let h = given typed_second (in_part here s) w.1 in
        let k = given typed_third (in_part here s) w.2 in
        no_target (g.shaped, fitted fit_second h, fitted fit_third k) refl refl
    given (X.operation {here = here} left right x y typed_left typed_right is fit_left fit_right) s w =
        let g = given typed_left (in_part here s) w.0 in
        let h = given typed_right (in_part here s) w.1 in
        no_target (fitted fit_left g, fitted fit_right h) refl refl
    given (X.logical_or {here = here} left right x y typed_left typed_right sp) s w =
        let g = given typed_left (in_part here s) w.0 in
        let h = given typed_right (in_part here s) w.1 in
        no_target (g.shaped, spread sp h) refl refl
    given (X.logical_and {here = here} left right x y typed_left typed_right sp) s w =
        let g = given typed_left (in_part here s) w.0 in
        let h = given typed_right (in_part here s) w.1 in
        no_target (g.shaped, spread sp h) refl refl
    given (X.signed {here = here} operand x sign typed conversion) s w =
        let g = given typed (in_part here s) w in
        let q = converted conversion g in
        no_target (sym q.kept, q.shaped) refl refl
    given (X.logical_not {here = here} operand x typed) s w =
        let g = given typed (in_part here s) w in
        no_target (sym g.kept, g.shaped) refl refl
    given (X.reduction {here = here} operand x typed parallel conversion) s w =
        let g = given typed (in_part here s) w in
        let q = converted conversion g in
        no_target q.shaped refl refl
    given (X.step_before {here = here} operand x typed is) s w =
        let g = given typed (in_part here s) w in
        no_target (refl, g.target one is) refl refl
    given (X.step_behind {here = here} operand x typed is) s w =
        let g = given typed (in_part here s) w in
        no_target (refl, g.target one is) refl refl
    given (X.casts {here = here} chain operand elems x typed scalar are) s w =
        let g = given typed (in_part here s) w in
        no_target (refl, g.shaped) refl refl
    given (X.parallel_cast {here = here} {written = written} {ty = ty} operand x is at_hand typed sp) s w =
        let g = given typed (in_part here s) w.1 in
        no_target (written_parallel here written ty w.0 is, spread sp g) refl refl
    given (X.call {here = here} {n = n} {instance = instance} {ty = ty} arguments fs means is around leads reached types callable gives typed fits) s w =
        let gs = given_each typed (in_part here s) (names_each (E.Call n arguments) arguments (items_hidden-the_row-Expr-0 arguments) w) in
        no_target (list_shaped (T.Call ty instance fs) fs (items_hidden-the_row-TExpr-0 fs) (all_fitted fits gs)) refl refl
    given (X.call_outside {here = here} {n = n} {ty = ty} arguments ts means is around types callable gives typed taken) s w =
        let gs = given_each typed (in_part here s) (names_each (E.Call n arguments) arguments (items_hidden-the_row-Expr-0 arguments) w) in
        no_target (list_shaped (T.Call ty 0 ts) ts (items_hidden-the_row-TExpr-0 ts) (all_shaped ts.items gs)) refl refl
    given (X.pcoord axis current known is) s w = no_target refl refl refl
    given (X.positions_of is known) s w = no_target refl refl refl
    given (X.rank_of is known) s w = no_target refl refl refl
    given (X.dim_of axis is known among at_axis) s w = no_target refl refl refl
    given (X.scan {here = here} source axis x current known is segments typed parallel conversion) s w =
        let g = given typed (in_part here s) w.0 in
        let q = converted conversion g in
        no_target q.shaped refl refl
    given (X.enumerate axis current known is segments) s w = no_target tt refl refl
    given (X.printf {here = here} {p = p} {text = text} arguments pieces values typed none are as_many promoted) s w =
        let gs = given_each typed (in_part here s) (names_each (E.Printf p text arguments) arguments (items_hidden-the_row-Expr-0 arguments) w) in
        no_target (list_shaped (T.Printf (scalar int) pieces values) values (items_hidden-the_row-TExpr-0 values) (all_promoted promoted gs)) refl refl
    given X.getchar s w = no_target refl refl refl

    pub given_each : {here : Here} {es : List Expr} {ts : List TExpr} → TypesEach program here es ts → IsSound here → All ExpressionNamesShapes es → All IsShapedValue ts
    given_each X.no_expression s w = All-nil IsShapedValue
    given_each (X.next_expression {e = e} {t = t} {es = es} {ts = ts} typed more) s w =
        let g = given typed s (All-head ExpressionNamesShapes e es w) in
        All-cons IsShapedValue t ts g (given_each more s (All-tail ExpressionNamesShapes e es w))

    pub given_indexes : {here : Here} {n : Name} {axis : ℕ} {es : List Expr} {ts : List TExpr} → TypesIndexes program here n axis es ts → IsSound here → All ExpressionNamesShapes es → All IsShapedValue ts
    given_indexes X.no_index s w = All-nil IsShapedValue
    given_indexes (X.next_index {here = here} {n = n} {axis = axis} {e = e} {t = t} {es = es} {ts = ts} typed more) s w =
        let g = given typed (in_index here n.word axis s) (All-head ExpressionNamesShapes e es w) in
        All-cons IsShapedValue t ts g (given_indexes more s (All-tail ExpressionNamesShapes e es w))
