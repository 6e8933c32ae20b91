-- What the rules of typing give an expression of a file without shapes is of the fragment.
use Rattle.std.proofs.Common.{◌≡◌, ℕ, Bool, true, false, if◌then◌else◌, inl, inr, List, [], ◌∷◌, ◌++◌, map, slice_get, Option, Some, None, Vec, refl, ap, ap₂, ◌∙◌, sym, subst, zero, arith}
use Rattle.std.specs.declared.alloc.Global.{Global}
use Rattle.std.specs.List.{All}
use Rattle.std.proofs.lemmas.List.Elements.{All-nil, All-cons, All-head, All-tail}
use Rattle.std.proofs.lemmas.Option.{none-some, same_Some}
use mathlib.Core.Former.{Count}
use Rattle.cstar_base.specs.declared.elem.Elem.{Elem}
use Rattle.cstar_tree.specs.declared.syntax.Expr.{Expr, Row_of-Expr, end_of-Expr, more_of-Expr, items-the_row-Expr, items_hidden-the_row-Expr-0}
use Rattle.cstar_tree.specs.declared.syntax.Expr as E
use Rattle.cstar_tree.specs.declared.typed.TExpr.{TExpr, items_hidden-the_row-TExpr-0}
use Rattle.cstar_tree.specs.declared.typed.TExpr as T
use Rattle.cstar_tree.specs.declared.typed.ValueType.{ValueType}
use Rattle.cstar_tree.specs.declared.typed.Variable.{Variable}
use Rattle.cstar_tree.specs.Conversions.{either, int, promoted, scalar, unsigned}
use Rattle.cstar_tree.specs.ExpressionTypes.{Gives, IsKnownAtHand, IsPlaceOf, Types, TypesEach, callee, result_known}
use Rattle.cstar_tree.specs.ExpressionTypes as X
use Rattle.cstar_tree.specs.Headers.{Leads, Placed, Program, Reached, Returns, parameter_types, returns_of}
use Rattle.cstar_tree.specs.Operations.{many, one, target_of}
use Rattle.cstar_tree.specs.Scopes.{Here, a_variable, part}
use Rattle.cstar_tree.specs.Typed.{type_of}
use Rattle.cstar_tree.specs.TypedParts.{calls_in, concat}
use Rattle.code_follows.specs.Fragment.{IsEffect, IsIn, IsOperand, IsScalarType, IsVariable, May}
use Rattle.shape_room.proofs.CallsInParts.{assign_calls, brackets_calls, call_calls, choice_calls, list_calls, operand_calls, pair_calls, step_calls}
use Rattle.source_meaning.specs.Values.{cast_type}
use Rattle.shaped_trees.specs.Casts.{ExpressionNamesShapes}
use Rattle.shaped_trees.proofs.ExpressionShapes.{written_parallel}
use Rattle.shaped_trees.proofs.Rows.{names_each}
use Rattle.type_expressions.specs.Walks.{ArePlain, IsPlain}
use Rattle.scalar_texts.specs.Places.{AllowsCalls, IsScalarPlace, IsUsed, callee_place}
use Rattle.scalar_texts.proofs.ScalarCalls.{AreCalled, EachCalled, both_called, converted_called, each_fitted_called, each_promoted_called, fitted_called, same_called, spread_called}
use Rattle.scalar_texts.proofs.ScalarConversions.{IsScalarValue, cast_same, converted, each_fitted, each_promoted, fitted, is_given, is_word, list_in, word_operand}
use Rattle.scalar_texts.proofs.ScalarPlaces.{at_hand_scalar, goes_on, no_shape, written_scalar}
use Rattle.constant_trees.proofs.Bringing.{spread_scalar}
use Rattle.constant_trees.proofs.Words.{common_wide, left_wide, promoted_wide, result_wide, right_wide}

-- ---- lists of the text

abbrev text_row : Expr → (n : Count) × Row_of-Expr n
text_row (E.Call' _ _ row) = (_, row)
text_row (E.Printf' _ _ _ row) = (_, row)
text_row _ = (_, end_of-Expr)

row_plain : (n : Count) (row : Row_of-Expr n) → ArePlain row → All IsPlain (items-the_row-Expr n row)
unfolding ArePlain
row_plain n end_of-Expr plain = All-nil IsPlain
row_plain n (more_of-Expr e rest) plain = All-cons IsPlain e _ plain.0 (row_plain _ rest plain.1)

plain_each : (node : Expr) (list : Vec Expr Global) → items-the_row-Expr (text_row node).0 (text_row node).1 ≡ list.items → ArePlain (text_row node).1 → All IsPlain list.items
plain_each node list same plain = subst (All IsPlain) same (row_plain (text_row node).0 (text_row node).1 plain)

-- ---- types

number_wide : (u : Bool) → (if u then unsigned else int).bits ≡ 32
number_wide true = refl
number_wide false = refl

-- under no current shape calls take and give scalars
parameters_scalar : {current : Option ℕ} (types : List ValueType) → All (IsKnownAtHand current) (map Some types) → current ≡ None → All IsScalarType types
parameters_scalar [] at_hand none = All-nil IsScalarType
parameters_scalar {current = current} (ty ∷ types) at_hand none =
    All-cons IsScalarType ty types (by_type (All-head (IsKnownAtHand current) (Some ty) (map Some types) at_hand)) (parameters_scalar types (All-tail (IsKnownAtHand current) (Some ty) (map Some types) at_hand) none)
  where
    by_type : IsKnownAtHand current (Some ty) → IsScalarType ty
    by_type (X.typed known) = at_hand_scalar known none

result_scalar : {current : Option ℕ} {returns : Returns} {ty : ValueType} {has_value : Bool} → Gives returns ty has_value → IsKnownAtHand current (result_known returns) → current ≡ None → IsScalarType ty
result_scalar X.no_value at_hand none = refl
result_scalar X.value (X.typed known) none = at_hand_scalar known none

-- two scalars make one
neither : {a b : Option ℕ} → a ≡ None → b ≡ None → either a b ≡ None
neither none other = ap₂ either none other

-- what is promoted has 32 bits
promoted_words : (es : List TExpr) → All (λ (elem : Elem). elem.bits ≡ 32) (map (λ (e : TExpr). promoted (type_of e).elem) es)
promoted_words [] = All-nil (λ (elem : Elem). elem.bits ≡ 32)
promoted_words (e ∷ es) = All-cons (λ (elem : Elem). elem.bits ≡ 32) (promoted (type_of e).elem) (map (λ (e : TExpr). promoted (type_of e).elem) es) (promoted_wide (type_of e).elem) (promoted_words es)

module _ (program : Program) (shapes : List (List ℕ)) (around : ℕ) (Called : ℕ → Type 0) (may : May) (every : (x : Variable) → may.names x) (allows : AllowsCalls program shapes around Called may.calls) where
  -- ---- the forms

  no_target : {t : TExpr} {has_value : Bool} → IsScalarType (type_of t) → (has_value ≡ true → IsIn may t) → IsEffect may t → target_of t ≡ None → IsScalarValue may has_value t
  no_target scalar used effect none = record { scalar = scalar; used = used; effect = effect; target = λ which is. elim (none-some which (sym none ∙ is)) [ ] }

  place_target : {here : Here} {t : TExpr} {op : _} → IsPlaceOf here op t → IsScalarValue may true t → IsVariable may t
  place_target (X.one_place is) g = g.target one is
  place_target (X.targets {p = p} is whole sends) g = g.target (many p) is

  in_part : {here : Here} → IsScalarPlace shapes around here → IsScalarPlace shapes around (part here)
  in_part {here = here} s = goes_on false here.locals here.loop s

  -- a call that is used as its result allows
  call_allowed : {here : Here} {f other instance : ℕ} {placed : Placed} (types : List ValueType) {ty : ValueType} {has_value : Bool} → IsScalarPlace shapes around here →
      slice_get program.functions f ≡ Some placed → here.around ≡ Some other → (Leads program.calls f other → ⊥) → slice_get program.instances instance ≡ Some (record { function = f; current = here.current }) →
      parameter_types (callee here placed f) 0 placed.function.parameters.items ≡ map Some types → Gives (returns_of (callee here placed f) placed.function.result) ty has_value →
      Called instance → (used : Option Elem) → IsUsed used ty has_value → may.calls used instance (map (λ (ty : ValueType). ty.elem) types)
  call_allowed {here = here} {f = f} {other = other} {instance = instance} {placed = placed} types {ty = ty} {has_value = has_value} s is is_around no_way reached types_are gives called used is_used =
      let place : callee here placed f ≡ callee_place shapes placed f = ap₂ (λ (shapes : List (List ℕ)) (current : Option ℕ). callee (record here { shapes = shapes; current = current }) placed f) s.its_shapes s.current in
      allows f instance placed types ty has_value used is
      (subst (λ (g : ℕ). Leads program.calls f g → ⊥) (same_Some other around (sym is_around ∙ s.its_function)) no_way) called
      (reached ∙ ap (λ (current : Option ℕ). let r : Reached = record { function = f; current = current } in Some r) s.current)
      (subst (λ (at : Here). parameter_types at 0 placed.function.parameters.items ≡ map Some types) place types_are)
      (subst (λ (at : Here). Gives (returns_of at placed.function.result) ty has_value) place gives) is_used

  -- ---- the rules

  mutual
    unfolding IsIn IsEffect IsOperand IsVariable target_of IsPlain ExpressionNamesShapes

    pub expression_is : {here : Here} {e : Expr} {t : TExpr} {has_value : Bool} → IsScalarPlace shapes around here → IsPlain e → ExpressionNamesShapes e → AreCalled Called (calls_in t) → Types program here e t has_value → IsScalarValue may has_value t
    expression_is s n w c (X.number {u = u}) = no_target refl (λ has. ((refl, number_wide u), n)) ((refl, number_wide u), n) refl
    expression_is s n w c (X.name {n = name} {v = v} {ty = ty} is at_hand) =
        let scalar = s.means name.word (a_variable v (Some (record { value = ty; array = None }))) is in
        record { scalar = scalar.0; used = λ has. (scalar.0, every v); effect = (scalar.0, every v); target = λ which h. (scalar.0, every v) }
    expression_is s n w c (X.element {n = name} {v = v} {ty = ty} {length = length} index i is typed scalar_index at_hand) =
        let scalar = s.means name.word (a_variable v (Some (record { value = ty; array = Some length }))) is in
        elim (none-some length (sym scalar.1)) [ ]
    expression_is s n w c (X.dot {axis = axis} is) = elim (none-some axis (sym s.dot ∙ is)) [ ]
    expression_is s n w c (X.left_index {n = name} {v = v} {elem = elem} {of = of} indexes ss is known as_many typed spreads) =
        let scalar = s.means name.word (a_variable v (Some (record { value = record { elem = elem; shape = Some of }; array = None }))) is in
        elim (none-some of (sym scalar.0)) [ ]
    expression_is s n w c (X.brackets inner i typed) =
        let g = expression_is s n w (same_called Called (brackets_calls _ _ i refl) c) typed in
        record { scalar = g.scalar; used = λ has. (refl, g.used has); effect = g.effect; target = λ which h. (refl, g.target which h) }
    expression_is s n w c (X.assign {op = op} {v = v} target value t f typed typed_value place storable fit) =
        let calls = both_called Called (calls_in t.value) (calls_in f.value) (assign_calls _ _ _ _ t f refl) c in
        let g = expression_is (in_part s) n.0 w.0 calls.0 typed in
        let x = fitted may fit g.scalar (expression_is (in_part s) n.1 w.1 (fitted_called Called fit calls.1) typed_value) in
        let to = place_target place g in
        let given = is_given op (type_of t.value) (type_of f.value) (type_of v).elem x.scalar x.elem_is in
        no_target g.scalar (λ has. (g.scalar, refl, inl to, x.used, given)) (inl (g.scalar, refl, inl to, x.used, given)) refl
    expression_is s n w c (X.choice {a = a} {b = b} test second third u x y typed_test typed_second typed_third is fit_second fit_third) =
        let calls = both_called Called (calls_in u.value) (calls_in x.value ++ calls_in y.value) (choice_calls _ _ u x y refl) c in
        let others = both_called Called (calls_in x.value) (calls_in y.value) refl calls.1 in
        let tested = expression_is (in_part s) n.0 w.0 calls.0 typed_test in
        let g = expression_is (in_part s) n.1 w.1 (fitted_called Called fit_second others.0) typed_second in
        let h = expression_is (in_part s) n.2 w.2 (fitted_called Called fit_third others.1) typed_third in
        let scalar = ap (λ (ty : ValueType). ty.shape) is ∙ ap (λ (shape : Option ℕ). either shape (either (type_of a).shape (type_of b).shape)) tested.scalar ∙ neither g.scalar h.scalar in
        let width = ap (λ (ty : ValueType). ty.elem.bits) is ∙ common_wide (type_of a).elem (type_of b).elem in
        let v = fitted may fit_second scalar g in
        let z = fitted may fit_third scalar h in
        let one = is_word may v width in
        let other = is_word may z width in
        no_target scalar (λ has. ((scalar, width), tested.used refl, v.used, z.used, one, other)) ((scalar, width), tested.used refl, v.used, z.used, one, other) refl
    expression_is s n w c (X.operation {op = op} {a = a} {b = b} left right x y typed_left typed_right is fit_left fit_right) =
        let calls = both_called Called (calls_in x.value) (calls_in y.value) (pair_calls _ x y (inr (inr (_, _, _, refl)))) c in
        let g = expression_is (in_part s) n.0 w.0 (fitted_called Called fit_left calls.0) typed_left in
        let h = expression_is (in_part s) n.1 w.1 (fitted_called Called fit_right calls.1) typed_right in
        let scalar = is ∙ neither g.scalar h.scalar in
        let v = fitted may fit_left scalar g in
        let z = fitted may fit_right scalar h in
        let one = is_word may v (left_wide op (type_of a).elem (type_of b).elem) in
        let other = is_word may z (right_wide op (type_of a).elem (type_of b).elem) in
        let width = result_wide op (type_of a).elem (type_of b).elem in
        no_target scalar (λ has. ((scalar, width), v.used, z.used, one, other)) ((scalar, width), v.used, z.used, one, other) refl
    expression_is s n w c (X.logical_or left right x y typed_left typed_right sp) =
        let calls = both_called Called (calls_in x.value) (calls_in y.value) (pair_calls _ x y (inl (_, refl))) c in
        let g = expression_is (in_part s) n.0 w.0 calls.0 typed_left in
        let h = subst (IsScalarValue may true) (spread_scalar sp g.scalar) (expression_is (in_part s) n.1 w.1 (spread_called Called sp calls.1) typed_right) in
        no_target h.scalar (λ has. ((h.scalar, refl), g.used refl, h.used refl)) ((h.scalar, refl), g.used refl, h.used refl) refl
    expression_is s n w c (X.logical_and left right x y typed_left typed_right sp) =
        let calls = both_called Called (calls_in x.value) (calls_in y.value) (pair_calls _ x y (inr (inl (_, refl)))) c in
        let g = expression_is (in_part s) n.0 w.0 calls.0 typed_left in
        let h = subst (IsScalarValue may true) (spread_scalar sp g.scalar) (expression_is (in_part s) n.1 w.1 (spread_called Called sp calls.1) typed_right) in
        no_target h.scalar (λ has. ((h.scalar, refl), g.used refl, h.used refl)) ((h.scalar, refl), g.used refl, h.used refl) refl
    expression_is s n w c (X.signed {sign = sign} {a = a} operand x sign_is typed conversion) =
        let g = expression_is (in_part s) n w (converted_called Called conversion (same_called Called (operand_calls _ x (inl (_, _, refl))) c)) typed in
        let v = converted may conversion g in
        let word = is_word may v (promoted_wide (type_of a).elem) in
        let taken = word_operand sign (type_of x.value) word in
        no_target v.scalar (λ has. (word, v.used, taken)) (word, v.used, taken) refl
    expression_is s n w c (X.logical_not operand x typed) =
        let g = expression_is (in_part s) n w (same_called Called (operand_calls _ x (inl (_, _, refl))) c) typed in
        no_target g.scalar (λ has. ((g.scalar, refl), g.used refl, g.scalar)) ((g.scalar, refl), g.used refl, g.scalar) refl
    expression_is s n w c (X.reduction {shape = shape} operand x typed parallel conversion) =
        let g = expression_is (in_part s) n w (converted_called Called conversion (same_called Called (operand_calls _ x (inr (inl (_, _, refl)))) c)) typed in
        elim (none-some shape (sym g.scalar ∙ parallel)) [ ]
    expression_is s n w c (X.step_before operand x typed is) =
        let g = expression_is (in_part s) n w (same_called Called (step_calls _ _ _ _ x refl) c) typed in
        no_target g.scalar (λ has. (g.scalar, refl, inl (g.target one is))) (inl (g.scalar, refl, inl (g.target one is))) refl
    expression_is s n w c (X.step_behind operand x typed is) =
        let g = expression_is (in_part s) n w (same_called Called (step_calls _ _ _ _ x refl) c) typed in
        no_target g.scalar (λ has. (g.scalar, refl, inl (g.target one is))) (inl (g.scalar, refl, inl (g.target one is))) refl
    expression_is s n w c (X.casts chain operand elems x typed scalar_operand are) =
        let g = expression_is (in_part s) n w (same_called Called (operand_calls _ x (inr (inr (inl (_, elems, refl))))) c) typed in
        let elem_is = cast_same chain.items (type_of x.value).elem ∙ ap (λ (es : List Elem). cast_type es (type_of x.value).elem) (sym are) in
        no_target refl (λ has. (refl, elem_is, g.used refl)) (refl, elem_is, g.used refl) refl
    expression_is {here = here} s n w c (X.parallel_cast {written = written} {ty = ty} operand x is at_hand typed sp) =
        let scalar = written_scalar here written s.means s.current is in
        let parallel = written_parallel here written ty w.0 is in
        absurd (cc)
    expression_is s n w c (X.call {n = name} {f = f} {instance = instance} {placed = placed} {types = types} {ty = ty} arguments fs means is around_is no_way reached types_are callable gives typed fits) =
        let calls = both_called Called (concat (map calls_in fs.items)) (instance ∷ []) (call_calls _ _ instance fs refl) c in
        let gs = each_is (in_part s) (plain_each (E.Call name arguments) arguments (items_hidden-the_row-Expr-0 arguments) n) (names_each (E.Call name arguments) arguments (items_hidden-the_row-Expr-0 arguments) w) (each_fitted_called Called fits calls.0) typed in
        let node = T.Call ty instance fs in
        let given = list_in may node fs (items_hidden-the_row-TExpr-0 fs) (each_fitted may fits (parameters_scalar types callable.parameters_at_hand s.current) gs) in
        let allowed = call_allowed types s is around_is no_way reached types_are gives (calls.1 instance (zero, omega arith, refl)) in
        let scalar = result_scalar gives callable.result_at_hand s.current in
        no_target scalar (λ has. (scalar, subst (may.calls (Some ty.elem) instance) (sym given.1) (allowed (Some ty.elem) (inr (has, refl))), given.0)) (subst (may.calls None instance) (sym given.1) (allowed None (inl refl)), given.0) refl
    expression_is s n w c (X.call_outside arguments ts means is outside types callable gives typed taken) = elim (none-some around (sym outside ∙ s.its_function)) [ ]
    expression_is s n w c (X.pcoord {shape = shape} axis current known is) = elim (none-some shape (sym s.current ∙ current)) [ ]
    expression_is s n w c (X.positions_of {written = written} {shape = shape} is known) = elim (none-some shape (sym (no_shape _ written s.means s.current) ∙ is)) [ ]
    expression_is s n w c (X.rank_of {written = written} {shape = shape} is known) = elim (none-some shape (sym (no_shape _ written s.means s.current) ∙ is)) [ ]
    expression_is s n w c (X.dim_of {written = written} {shape = shape} axis is known among at_axis) = elim (none-some shape (sym (no_shape _ written s.means s.current) ∙ is)) [ ]
    expression_is s n w c (X.scan {shape = shape} source axis x current known is segments typed parallel conversion) = elim (none-some shape (sym s.current ∙ current)) [ ]
    expression_is s n w c (X.enumerate {shape = shape} axis current known is segments) = elim (none-some shape (sym s.current ∙ current)) [ ]
    expression_is s n w c (X.printf {p = p} {text = text} {given = ts} arguments pieces values typed none are as_many promotes) =
        let gs = each_is (in_part s) (plain_each (E.Printf p text arguments) arguments (items_hidden-the_row-Expr-0 arguments) n) (names_each (E.Printf p text arguments) arguments (items_hidden-the_row-Expr-0 arguments) w)
        (each_promoted_called Called promotes (same_called Called (list_calls _ values (inr (_, pieces, refl))) c)) typed in
        let given = list_in may (T.Printf (scalar int) pieces values) values (items_hidden-the_row-TExpr-0 values) (each_promoted may promotes gs) in
        no_target refl (λ has. absurd (cc)) (given.0, subst (All (λ (elem : Elem). elem.bits ≡ 32)) (sym given.1) (promoted_words ts)) refl
    expression_is s n w c X.getchar = no_target refl (λ has. (refl, refl)) (refl, refl) refl

    each_is : {here : Here} {es : List Expr} {ts : List TExpr} → IsScalarPlace shapes around here → All IsPlain es → All ExpressionNamesShapes es → EachCalled Called ts → TypesEach program here es ts → All (IsScalarValue may true) ts
    each_is s n w c X.no_expression = All-nil (IsScalarValue may true)
    each_is s n w c (X.next_expression {e = e} {t = t} {es = es} {ts = ts} typed more) =
        All-cons (IsScalarValue may true) t ts
        (expression_is s (All-head IsPlain e es n) (All-head ExpressionNamesShapes e es w) (All-head (λ (t : TExpr). AreCalled Called (calls_in t)) t ts c) typed)
        (each_is s (All-tail IsPlain e es n) (All-tail ExpressionNamesShapes e es w) (All-tail (λ (t : TExpr). AreCalled Called (calls_in t)) t ts c) more)
