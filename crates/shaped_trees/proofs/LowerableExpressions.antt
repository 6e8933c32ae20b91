-- What the rules of typing give an expression is lowerable.
use Rattle.std.proofs.Common.{◌≡◌, ℕ, Bool, true, false, is_none, IsSome, List, length, ◌⊎◌, inl, inr, None, refl, ap, ◌∙◌, sym, subst, true≢false}
use Rattle.std.specs.List.{All, AllZip}
use Rattle.std.proofs.lemmas.List.Elements.{All-nil, All-cons, All-head, All-tail}
use Rattle.cstar_tree.specs.declared.syntax.AssignOp.{AssignOp}
use Rattle.cstar_tree.specs.declared.syntax.Expr.{Expr, items_hidden-the_row-Expr-0}
use Rattle.cstar_tree.specs.declared.syntax.Expr as E
use Rattle.cstar_tree.specs.declared.syntax.Name.{Name}
use Rattle.cstar_tree.specs.declared.typed.TExpr.{TExpr, items_hidden-the_row-TExpr-0}
use Rattle.cstar_tree.specs.declared.typed.TExpr as T
use Rattle.cstar_tree.specs.declared.typed.Typed.{Typed}
use Rattle.cstar_tree.specs.declared.typed.ValueType.{ValueType}
use Rattle.cstar_tree.specs.declared.typed.VarInfo.{VarInfo}
use Rattle.cstar_tree.specs.Conversions.{IsFitted, IsSpread, either, int, scalar, shape_among}
use Rattle.cstar_tree.specs.ExpressionTypes.{IsPlaceOf, Types, TypesEach, TypesIndexes}
use Rattle.cstar_tree.specs.ExpressionTypes as X
use Rattle.cstar_tree.specs.Headers.{Program}
use Rattle.cstar_tree.specs.Operations.{folds}
use Rattle.cstar_tree.specs.Scopes.{Here, index_place, part}
use Rattle.cstar_tree.specs.Typed.{type_of}
use Rattle.lower_expr.specs.Lengths.{is_send}
use Rattle.lower_expr.specs.Steps.{is_kept}
use Rattle.shaped_trees.specs.Casts.{ExpressionNamesShapes}
use Rattle.shaped_trees.specs.Laws.{IsLowerableValue, IsShapedValue}
use Rattle.code_lengths.specs.Lowerable.{AreConditions, GivesValue, InRegister, IsLowerable, IsValueFor}
use Rattle.shaped_trees.specs.Places.{IsInside, IsSound}
use Rattle.shaped_trees.proofs.Bringing.{converted_shape, spread_parallel}
use Rattle.shaped_trees.proofs.ExpressionShapes.{given, written_parallel}
use Rattle.shaped_trees.proofs.Known.{in_index, in_part}
use Rattle.shaped_trees.proofs.Rows.{list_lowerable, names_each}
use Rattle.shaped_trees.proofs.Standing.{IsPart, arguments_for, as_many_promoted, as_many_typed, as_part, each_fitted, each_promoted, each_spread, fitted_kept, gives_each, has_result, is_absent, lowerable_each, neither, no_send, parallel_not_kept, part_converted, part_fitted, part_spread, promoted_registers, result_shape, scalar_kept, spread_registers, unspread, value_for}

-- an assignment is a send only as a whole statement
placed : {here : Here} {op : AssignOp} (t : TExpr) → IsPlaceOf here op t → here.whole ≡ false → is_send t ≡ false
placed t (X.one_place is) not_whole = no_send t is
placed t (X.targets is whole sends) not_whole = cc

-- a scalar target takes a value in a register, or folds
stored : (op : AssignOp) {e f : TExpr} {ty : ValueType} → IsFitted e ty f → IsShapedValue e → ((type_of e).shape ≡ None) ⊎ (folds op ≡ true) → (is_kept f ≡ true) ⊎ (folds op ≡ true)
stored op fit p (inl none) = inl (fitted_kept fit p none)
stored op fit p (inr folding) = inr folding

conditions : {t : Typed} {x b y : TExpr} (ty : ValueType) → IsPart t x → IsPart t b → IsSpread b (type_of x).shape y → ty.shape ≡ (type_of y).shape → AreConditions t ty x y
conditions {x = x} ty g h sp same =
    let brought = part_spread sp h in
    record {
      left_gives = g.gives;
      right_gives = brought.gives;
      left_register = λ none. g.shaped.kept ∙ unspread sp (ap is_none (sym same) ∙ none);
      right_register = λ none. scalar_kept sp h.shaped (ap is_none (sym same) ∙ none);
      right_field = λ has kept. parallel_not_kept sp h.shaped (sym g.shaped.kept ∙ kept) (ap is_none (sym same) ∙ has);
    }

module _ (program : Program) (typed : Typed) where
  inside_part : {here : Here} → IsInside program typed here → IsInside program typed (part here)
  inside_part k = record { around = k.around; instances = k.instances }

  inside_index : {here : Here} (word : List ℕ) (axis : ℕ) → IsInside program typed here → IsInside program typed (index_place here word axis)
  unfolding index_place
  inside_index word axis k = record { around = k.around; instances = k.instances }

  index_not_whole : (here : Here) (word : List ℕ) (axis : ℕ) → (index_place here word axis).whole ≡ false
  unfolding index_place
  index_not_whole here word axis = refl

  valued : {whole has_value : Bool} {t : TExpr} → IsLowerable typed t → GivesValue typed t → IsLowerableValue typed whole has_value t
  valued lowerable gives = record { lowerable = lowerable; gives = λ has not_whole. gives }

  mutual
    unfolding IsLowerable GivesValue ExpressionNamesShapes

    pub lowers : {here : Here} {e : Expr} {t : TExpr} {has_value : Bool} → Types program here e t has_value → IsSound here → IsInside program typed here → ExpressionNamesShapes e → IsLowerableValue typed here.whole has_value t
    lowers X.number s k w = valued tt tt
    lowers (X.name is at_hand) s k w = valued tt tt
    lowers (X.element {here = here} index i is at none at_hand) s k w =
        let g = as_part refl (given program at (in_part here s) w) (lowers at (in_part here s) (inside_part k) w) in
        valued ((g.gives, g.shaped.kept ∙ ap is_none none), g.lowerable) tt
    lowers (X.dot is) s k w = valued tt tt
    lowers (X.left_index {here = here} {p = p} {n = n} {v = v} {elem = elem} {of = of} {given = ts} indexes ss is known as_many are spreads) s k w =
        let gs = index_parts are s k (names_each (E.LeftIndex p indexes n) indexes (items_hidden-the_row-Expr-0 indexes) w) in
        let same = sym (items_hidden-the_row-TExpr-0 ss) in
        let brought = each_spread spreads gs in
        valued (
          subst (All (GivesValue typed)) same (gives_each ss.items brought),
          λ none. subst (All (InRegister typed)) same (spread_registers spreads gs (is_absent (shape_among ts) none)),
          list_lowerable typed (T.LeftIndex (record { elem = elem; shape = shape_among ts }) p ss v of) ss (items_hidden-the_row-TExpr-0 ss) (lowerable_each ss.items brought),
        ) tt
    lowers (X.brackets inner i at) s k w =
        let g = lowers at s k w in
        record { lowerable = g.lowerable; gives = g.gives }
    lowers (X.assign {here = here} {op = op} target value t f at at_value place storable fit) s k w =
        let g = lowers at (in_part here s) (inside_part k) w.0 in
        let h = as_part refl (given program at_value (in_part here s) w.1) (lowers at_value (in_part here s) (inside_part k) w.1) in
        let brought = part_fitted fit h in
        record {
          lowerable = (brought.gives, λ none. stored op fit h.shaped (storable (is_absent (type_of t.value).shape none)), g.lowerable, brought.lowerable);
          gives = λ has not_whole. placed t.value place not_whole;
        }
    lowers (X.choice {here = here} {a = a} {b = b} {ty = ty} test second third c x y at_test at_second at_third is fit_second fit_third) s k w =
        let g = as_part refl (given program at_test (in_part here s) w.0) (lowers at_test (in_part here s) (inside_part k) w.0) in
        let h = as_part refl (given program at_second (in_part here s) w.1) (lowers at_second (in_part here s) (inside_part k) w.1) in
        let j = as_part refl (given program at_third (in_part here s) w.2) (lowers at_third (in_part here s) (inside_part k) w.2) in
        let all_absent = λ (none : ty.shape ≡ None). neither (type_of c.value).shape (either (type_of a).shape (type_of b).shape) (ap (λ (ty : ValueType). ty.shape) (sym is) ∙ none) in
        let both_absent = λ (none : ty.shape ≡ None). neither (type_of a).shape (type_of b).shape (all_absent none).1 in
        let first = part_fitted fit_second h in
        let other = part_fitted fit_third j in
        valued (
          g.gives,
          λ none. g.shaped.kept ∙ ap is_none (all_absent (is_absent ty.shape none)).0,
          value_for ty fit_second h (λ none. (both_absent none).0),
          value_for ty fit_third j (λ none. (both_absent none).1),
          g.lowerable,
          first.lowerable,
          other.lowerable,
        ) tt
    lowers (X.operation {here = here} {a = a} {b = b} {shape = shape} left right x y at_left at_right is fit_left fit_right) s k w =
        let g = as_part refl (given program at_left (in_part here s) w.0) (lowers at_left (in_part here s) (inside_part k) w.0) in
        let h = as_part refl (given program at_right (in_part here s) w.1) (lowers at_right (in_part here s) (inside_part k) w.1) in
        let both_absent = λ (none : shape ≡ None). neither (type_of a).shape (type_of b).shape (sym is ∙ none) in
        let first = part_fitted fit_left g in
        let second = part_fitted fit_right h in
        valued
        (value_for _ fit_left g (λ none. (both_absent none).0), value_for _ fit_right h (λ none. (both_absent none).1), first.lowerable, second.lowerable) tt
    lowers (X.logical_or {here = here} left right x y at_left at_right sp) s k w =
        let g = as_part refl (given program at_left (in_part here s) w.0) (lowers at_left (in_part here s) (inside_part k) w.0) in
        let h = as_part refl (given program at_right (in_part here s) w.1) (lowers at_right (in_part here s) (inside_part k) w.1) in
        let brought = part_spread sp h in
        valued (conditions _ g h sp refl, g.lowerable, brought.lowerable) tt
    lowers (X.logical_and {here = here} left right x y at_left at_right sp) s k w =
        let g = as_part refl (given program at_left (in_part here s) w.0) (lowers at_left (in_part here s) (inside_part k) w.0) in
        let h = as_part refl (given program at_right (in_part here s) w.1) (lowers at_right (in_part here s) (inside_part k) w.1) in
        let brought = part_spread sp h in
        valued (conditions _ g h sp refl, g.lowerable, brought.lowerable) tt
    lowers (X.signed {here = here} operand x sign at conversion) s k w =
        let g = as_part refl (given program at (in_part here s) w) (lowers at (in_part here s) (inside_part k) w) in
        let q = part_converted conversion g in
        valued (q.gives, q.lowerable) tt
    lowers (X.logical_not {here = here} operand x at) s k w =
        let g = as_part refl (given program at (in_part here s) w) (lowers at (in_part here s) (inside_part k) w) in
        valued (g.gives, g.lowerable) tt
    lowers (X.reduction {here = here} operand x at parallel conversion) s k w =
        let g = as_part refl (given program at (in_part here s) w) (lowers at (in_part here s) (inside_part k) w) in
        let q = part_converted conversion g in
        valued (refl, (q.gives, q.shaped.kept ∙ ap is_none (converted_shape conversion ∙ parallel)), q.lowerable) tt
    lowers (X.step_before {here = here} operand x at is) s k w =
        let g = lowers at (in_part here s) (inside_part k) w in
        valued (no_send x.value is, g.lowerable) tt
    lowers (X.step_behind {here = here} operand x at is) s k w =
        let g = lowers at (in_part here s) (inside_part k) w in
        valued (no_send x.value is, g.lowerable) tt
    lowers (X.casts {here = here} chain operand elems x at none are) s k w =
        let g = as_part refl (given program at (in_part here s) w) (lowers at (in_part here s) (inside_part k) w) in
        valued ((g.gives, g.shaped.kept ∙ ap is_none none), g.lowerable) tt
    lowers (X.parallel_cast {here = here} {written = written} {ty = ty} operand x is at_hand at sp) s k w =
        let g = as_part refl (given program at (in_part here s) w.1) (lowers at (in_part here s) (inside_part k) w.1) in
        let brought = part_spread sp g in
        valued (brought.gives, spread_parallel sp (written_parallel here written ty w.0 is), brought.lowerable) tt
    lowers (X.call {here = here} {n = n} {f = f} {instance = instance} {placed = at} {ty = ty} arguments fs means is around leads reached types callable gives are fits) s k w =
        let gs = parts are refl (in_part here s) (inside_part k) (names_each (E.Call n arguments) arguments (items_hidden-the_row-Expr-0 arguments) w) in
        let has = k.instances instance (record { function = f; current = here.current }) at reached is in
        let given = arguments_for has.parameters fits types gs in
        record {
          lowerable = (
            record {
              callee = has.instance;
              found = has.found;
              result = result_shape has.result gives;
              given = subst (AllZip (λ (param : VarInfo) (e : TExpr). IsValueFor typed param.shape e) has.instance.params.items) (sym (items_hidden-the_row-TExpr-0 fs)) given;
            },
            list_lowerable typed (T.Call ty instance fs) fs (items_hidden-the_row-TExpr-0 fs) (lowerable_each fs.items (each_fitted fits gs)),
          );
          gives = λ value not_whole. (has.instance, has.found, has_result has.result gives value);
        }
    lowers (X.call_outside arguments ts means is around types callable gives are taken) s k w = absurd (true≢false (sym (subst IsSome around k.around)))
    lowers (X.pcoord axis current known is) s k w = valued tt tt
    lowers (X.positions_of is known) s k w = valued tt tt
    lowers (X.rank_of is known) s k w = valued tt tt
    lowers (X.dim_of axis is known among at_axis) s k w = valued tt tt
    lowers (X.scan {here = here} source axis x current known is segments at parallel conversion) s k w =
        let g = as_part refl (given program at (in_part here s) w.0) (lowers at (in_part here s) (inside_part k) w.0) in
        let q = part_converted conversion g in
        valued (refl, (q.gives, q.shaped.kept ∙ ap is_none (converted_shape conversion ∙ parallel)), q.lowerable) tt
    lowers (X.enumerate axis current known is segments) s k w = valued refl tt
    lowers (X.printf {here = here} {p = p} {text = text} arguments pieces values are none pieces_are as_many promoted) s k w =
        let gs = parts are refl (in_part here s) (inside_part k) (names_each (E.Printf p text arguments) arguments (items_hidden-the_row-Expr-0 arguments) w) in
        let same = sym (items_hidden-the_row-TExpr-0 values) in
        record {
          lowerable = (
            as_many ∙ as_many_typed are ∙ as_many_promoted promoted ∙ ap length same,
            subst (All (InRegister typed)) same (promoted_registers promoted gs none),
            list_lowerable typed (T.Printf (scalar int) pieces values) values (items_hidden-the_row-TExpr-0 values) (lowerable_each values.items (each_promoted promoted gs)),
          );
          gives = λ value not_whole. cc;
        }
    lowers X.getchar s k w = valued tt tt

    parts : {here : Here} {es : List Expr} {ts : List TExpr} → TypesEach program here es ts → here.whole ≡ false → IsSound here → IsInside program typed here → All ExpressionNamesShapes es → All (IsPart typed) ts
    parts X.no_expression not_whole s k w = All-nil (IsPart typed)
    parts (X.next_expression {e = e} {t = t} {es = es} {ts = ts} at more) not_whole s k w =
        let own = All-head ExpressionNamesShapes e es w in
        All-cons (IsPart typed) t ts (as_part not_whole (given program at s own) (lowers at s k own)) (parts more not_whole s k (All-tail ExpressionNamesShapes e es w))

    index_parts : {here : Here} {n : Name} {axis : ℕ} {es : List Expr} {ts : List TExpr} → TypesIndexes program here n axis es ts → IsSound here → IsInside program typed here → All ExpressionNamesShapes es → All (IsPart typed) ts
    index_parts X.no_index s k w = All-nil (IsPart typed)
    index_parts (X.next_index {here = here} {n = n} {axis = axis} {e = e} {t = t} {es = es} {ts = ts} at more) s k w =
        let own = All-head ExpressionNamesShapes e es w in
        let there = in_index here n.word axis s in
        All-cons (IsPart typed) t ts (as_part (index_not_whole here n.word axis) (given program at there own) (lowers at there (inside_index n.word axis k) own)) (index_parts more s k (All-tail ExpressionNamesShapes e es w))
