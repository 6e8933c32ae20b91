-- The instances that a typed expression calls are those of the calls of its text.
use Rattle.std.proofs.Common.{◌≡◌, ℕ, zero, suc, Bool, true, List, [], ◌∷◌, ◌++◌, map, Option, Some, None, refl, sym, ap, ap₂, subst, ◌∙◌, inl, inr, arith, slice_get}
use Rattle.std.proofs.lemmas.Option.{none-some, same_Some}
use Rattle.std.specs.List.{Contains}
use Rattle.cstar_base.specs.declared.elem.Elem.{Elem}
use Rattle.cstar_tree.specs.declared.syntax.Expr.{Expr}
use Rattle.cstar_tree.specs.declared.syntax.Name.{Name}
use Rattle.cstar_tree.specs.declared.typed.TExpr.{TExpr}
use Rattle.cstar_tree.specs.declared.typed.ValueType.{ValueType}
use Rattle.cstar_tree.specs.Calls.{Call, call_of, calls_in_each}
use Rattle.cstar_tree.specs.Calls as text
use Rattle.cstar_tree.specs.Conversions.{AreFitted, ArePromoted, AreSpread, IsConverted, IsFitted, IsSpread}
use Rattle.cstar_tree.specs.Conversions as C
use Rattle.cstar_tree.specs.ExpressionTypes.{Types, TypesEach, TypesIndexes}
use Rattle.cstar_tree.specs.ExpressionTypes as X
use Rattle.cstar_tree.specs.Headers.{Leads, Program, Reached}
use Rattle.cstar_tree.specs.Instances.{function_meant}
use Rattle.cstar_tree.specs.Scopes.{Here, Meaning, a_function, a_shape, a_variable, meaning}
use Rattle.cstar_tree.specs.TypedParts.{calls_in, concat}
use Rattle.call_groups.proofs.Parts as parts
use Rattle.call_groups.proofs.Parts.{AreParts, IsCall}
use Rattle.shape_room.proofs.CallsInParts.{assign_calls, brackets_calls, call_calls, choice_calls, leaf_calls, list_calls, operand_calls, pair_calls, step_calls}
use Rattle.typed_calls.proofs.Alike.{IsAlike, alike_index, alike_part, means_alike}
use Rattle.typed_calls.proofs.Callees.{AreCallees, IsCallee, callees_both, callees_left, no_callees, same_callees}

-- ---- what brings a value to another type calls nothing itself

converted : {e f : TExpr} {elem : Elem} → IsConverted e elem f → calls_in f ≡ calls_in e
converted (C.as_it_is same) = refl
converted {e = e} (C.by_node operand is other) = operand_calls _ operand (inr (inr (inr (inr (inl (_, refl)))))) ∙ ap calls_in is

spread : {e f : TExpr} {wanted : Option ℕ} → IsSpread e wanted f → calls_in f ≡ calls_in e
spread C.none_wanted = refl
spread (C.is_parallel shape) = refl
spread (C.at_each_position operand is none) = operand_calls _ operand (inr (inr (inr (inr (inr (inl (_, refl))))))) ∙ ap calls_in is

pub fitted : {e f : TExpr} {ty : ValueType} → IsFitted e ty f → calls_in f ≡ calls_in e
fitted fit = spread fit.spread ∙ converted fit.conversion

abbrev calls_of : List TExpr → List ℕ
calls_of es = concat (map calls_in es)

each_promoted : {es fs : List TExpr} → ArePromoted es fs → calls_of fs ≡ calls_of es
unfolding concat
each_promoted C.none = refl
each_promoted (C.next c more) = ap₂ (λ (ns ms : List ℕ). ns ++ ms) (converted c) (each_promoted more)

each_spread : {shape : Option ℕ} {es fs : List TExpr} → AreSpread shape es fs → calls_of fs ≡ calls_of es
unfolding concat
each_spread C.none = refl
each_spread (C.next s more) = ap₂ (λ (ns ms : List ℕ). ns ++ ms) (spread s) (each_spread more)

each_fitted : {types : List ValueType} {es fs : List TExpr} → AreFitted types es fs → calls_of fs ≡ calls_of es
unfolding concat
each_fitted C.none = refl
each_fitted (C.next takes fit more) = ap₂ (λ (ns ms : List ℕ). ns ++ ms) (fitted fit) (each_fitted more)

-- ---- the call of a name

call_stands : (base : Here) (m : Option Meaning) (g : ℕ) → function_meant m ≡ Some g → (c : Call) × Contains (call_of base m) c × (c.function ≡ g)
call_stands base None g is = elim (none-some g is) [ ]
call_stands base (Some (a_shape s)) g is = elim (none-some g is) [ ]
call_stands base (Some (a_function h)) g is = (record { function = h; current = base.current; typed = true }, (zero, omega arith, refl), same_Some h g is)
call_stands base (Some (a_variable v t)) g is = elim (none-some g is) [ ]

module _ (program : Program) (f : ℕ) where
  -- ---- the forms

  one_called : (base : Here) {e a : Expr} {all numbers : List ℕ} → AreParts e (a ∷ []) → all ≡ numbers → AreCallees program f (text.calls_in base a) numbers → AreCallees program f (text.calls_in base e) all
  unfolding concat
  one_called base is same first = same_callees program f (is.calls base) same (callees_left program f [] first)

  two_called : (base : Here) {e a b : Expr} {all numbers others : List ℕ} → AreParts e (a ∷ b ∷ []) → all ≡ numbers ++ others → AreCallees program f (text.calls_in base a) numbers → AreCallees program f (text.calls_in base b) others → AreCallees program f (text.calls_in base e) all
  unfolding concat
  two_called base is same first second = same_callees program f (is.calls base) same (callees_both program f first (callees_left program f [] second))

  three_called : (base : Here) {e a b c : Expr} {all numbers others more : List ℕ} → AreParts e (a ∷ b ∷ c ∷ []) → all ≡ numbers ++ (others ++ more) → AreCallees program f (text.calls_in base a) numbers → AreCallees program f (text.calls_in base b) others
      → AreCallees program f (text.calls_in base c) more → AreCallees program f (text.calls_in base e) all
  unfolding concat
  three_called base is same first second third = same_callees program f (is.calls base) same (callees_both program f first (callees_both program f second (callees_left program f [] third)))

  -- of a scan the axis stands behind the source
  first_called : (base : Here) {e a b : Expr} {all numbers : List ℕ} → AreParts e (a ∷ b ∷ []) → all ≡ numbers → AreCallees program f (text.calls_in base a) numbers → AreCallees program f (text.calls_in base e) all
  unfolding concat
  first_called base {b = b} is same first = same_callees program f (is.calls base) same (callees_left program f (text.calls_in base b ++ []) first)

  none_called : (base : Here) (e : Expr) {all : List ℕ} → all ≡ [] → AreCallees program f (text.calls_in base e) all
  none_called base e same = same_callees program f refl same (no_callees program f (text.calls_in base e))

  list_called : (base : Here) {e : Expr} {es : List Expr} {all numbers : List ℕ} → AreParts e es → all ≡ numbers → AreCallees program f (calls_in_each base es) numbers → AreCallees program f (text.calls_in base e) all
  list_called base is same each = same_callees program f (is.calls base) same each

  -- the instance that is called here
  name_called : (base : Here) (m : Option Meaning) (r : Reached) (instance : ℕ) → function_meant m ≡ Some r.function → slice_get program.instances instance ≡ Some r → (Leads program.calls r.function f → ⊥) → AreCallees program f (call_of base m) (instance ∷ [])
  name_called base m r instance means is no_way = record { each = one }
    where
      one : (number : ℕ) → Contains (instance ∷ []) number → IsCallee program f (call_of base m) number
      one number (zero, within, same) =
          let c = call_stands base m r.function means in
          record {
            instance = r;
            is_instance = subst (λ n. slice_get program.instances n ≡ Some r) same is;
            no_way_back = no_way;
            call = c.0;
            stands = c.1;
            same_function = c.2;
          }
      one number (suc k, within, same) = absurd (omega (arith, within))

  call_called : (base : Here) {e : Expr} {n : Name} {es : List Expr} {all numbers own : List ℕ} → IsCall e n es → all ≡ numbers ++ own → AreCallees program f (calls_in_each base es) numbers → AreCallees program f (call_of base (meaning base n.word)) own
      → AreCallees program f (text.calls_in base e) all
  call_called base is same each own = same_callees program f (is.calls base) same (callees_both program f each own)

  -- ---- the rules

  mutual
    unfolding concat

    pub expression_called : {here : Here} {e : Expr} {t : TExpr} {has_value : Bool} (base : Here) → Types program here e t has_value → IsAlike f base here → AreCallees program f (text.calls_in base e) (calls_in t)
    expression_called base X.number k = none_called base _ (leaf_calls _ (inr (inl (_, _, refl))))
    expression_called base (X.name is at_hand) k = none_called base _ (leaf_calls _ (inl (_, _, refl)))
    expression_called base (X.element index i is typed scalar at_hand) k =
        one_called base (parts.element {index = index} refl) (operand_calls _ i (inr (inr (inr (inr (inr (inr (inl (_, _, _, refl))))))))) (expression_called base typed (alike_part k))
    expression_called base (X.dot is) k = none_called base _ (leaf_calls _ (inr (inr (inl (_, _, refl)))))
    expression_called base (X.left_index indexes ss is known as_many typed spreads) k =
        list_called base (parts.left_index indexes refl) (list_calls _ ss (inl (_, _, _, _, refl)) ∙ each_spread spreads) (indexes_called base typed k)
    expression_called base (X.brackets inner i typed) k = one_called base (parts.brackets {inner = inner} refl) (brackets_calls _ _ i refl) (expression_called base typed k)
    expression_called base (X.assign target value t g typed typed_value place storable fit) k =
        two_called base (parts.assign {target = target} {value = value} refl) (assign_calls _ _ _ _ t g refl ∙ ap (λ (ns : List ℕ). calls_in t.value ++ ns) (fitted fit)) (expression_called base typed (alike_part k)) (expression_called base typed_value (alike_part k))
    expression_called base (X.choice test second third c x y typed_test typed_second typed_third is fit_second fit_third) k =
        three_called base (parts.choice {test = test} {then = second} {otherwise = third} refl)
        (choice_calls _ _ c x y refl ∙ ap₂ (λ (ns ms : List ℕ). calls_in c.value ++ (ns ++ ms)) (fitted fit_second) (fitted fit_third))
        (expression_called base typed_test (alike_part k)) (expression_called base typed_second (alike_part k)) (expression_called base typed_third (alike_part k))
    expression_called base (X.operation left right x y typed_left typed_right is fit_left fit_right) k =
        two_called base (parts.binary {left = left} {right = right} refl) (pair_calls _ x y (inr (inr (_, _, _, refl))) ∙ ap₂ (λ (ns ms : List ℕ). ns ++ ms) (fitted fit_left) (fitted fit_right))
        (expression_called base typed_left (alike_part k)) (expression_called base typed_right (alike_part k))
    expression_called base (X.logical_or left right x y typed_left typed_right sp) k =
        two_called base (parts.binary {left = left} {right = right} refl) (pair_calls _ x y (inl (_, refl)) ∙ ap (λ (ns : List ℕ). calls_in x.value ++ ns) (spread sp))
        (expression_called base typed_left (alike_part k)) (expression_called base typed_right (alike_part k))
    expression_called base (X.logical_and left right x y typed_left typed_right sp) k =
        two_called base (parts.binary {left = left} {right = right} refl) (pair_calls _ x y (inr (inl (_, refl))) ∙ ap (λ (ns : List ℕ). calls_in x.value ++ ns) (spread sp))
        (expression_called base typed_left (alike_part k)) (expression_called base typed_right (alike_part k))
    expression_called base (X.signed operand x sign typed conversion) k =
        one_called base (parts.prefix {operand = operand} refl) (operand_calls _ x (inl (_, _, refl)) ∙ converted conversion) (expression_called base typed (alike_part k))
    expression_called base (X.logical_not operand x typed) k =
        one_called base (parts.prefix {operand = operand} refl) (operand_calls _ x (inl (_, _, refl))) (expression_called base typed (alike_part k))
    expression_called base (X.reduction operand x typed parallel conversion) k =
        one_called base (parts.prefix {operand = operand} refl) (operand_calls _ x (inr (inl (_, _, refl))) ∙ converted conversion) (expression_called base typed (alike_part k))
    expression_called base (X.step_before operand x typed is) k = one_called base (parts.prefix {operand = operand} refl) (step_calls _ _ _ _ x refl) (expression_called base typed (alike_part k))
    expression_called base (X.step_behind operand x typed is) k = one_called base (parts.postfix {operand = operand} refl) (step_calls _ _ _ _ x refl) (expression_called base typed (alike_part k))
    expression_called base (X.casts chain operand elems x typed scalar are) k =
        one_called base (parts.casts {chain = chain} {operand = operand} refl) (operand_calls _ x (inr (inr (inl (_, elems, refl))))) (expression_called base typed (alike_part k))
    expression_called base (X.parallel_cast operand x is at_hand typed sp) k =
        one_called base (parts.parallel_cast {operand = operand} refl) (operand_calls _ x (inr (inr (inr (inl (_, refl))))) ∙ spread sp) (expression_called base typed (alike_part k))
    expression_called base (X.call {here = here} {n = n} {f = g} {around = around} {instance = instance} arguments fs means is is_around no_way reached types callable gives typed fits) k =
        let stands = sym (means_alike k n.word) ∙ ap function_meant means in
        let same : around ≡ f = same_Some around f (sym is_around ∙ k.around) in
        call_called base (parts.call arguments refl) (call_calls _ _ instance fs refl ∙ ap (λ (ns : List ℕ). ns ++ (instance ∷ [])) (each_fitted fits)) (each_called base typed (alike_part k))
        (name_called base (meaning base n.word) (record { function = g; current = here.current }) instance stands reached (subst (λ h. Leads program.calls g h → ⊥) same no_way))
    expression_called base (X.call_outside arguments ts means is around types callable gives typed taken) k = elim (none-some f (sym around ∙ k.around)) [ ]
    expression_called base (X.pcoord axis current known is) k = none_called base _ (leaf_calls _ (inr (inr (inr (inl (_, _, refl))))))
    expression_called base (X.positions_of is known) k = none_called base _ (leaf_calls _ (inr (inr (inr (inr (inl (_, _, _, refl)))))))
    expression_called base (X.rank_of is known) k = none_called base _ (leaf_calls _ (inr (inr (inr (inr (inr (inl (_, _, _, refl))))))))
    expression_called base (X.dim_of axis is known among at_axis) k = none_called base _ (leaf_calls _ (inr (inr (inr (inr (inr (inr (inl (_, _, _, _, refl)))))))))
    expression_called base (X.scan source axis x current known is segments typed parallel conversion) k =
        first_called base (parts.scan {source = source} {axis = axis} refl) (operand_calls _ x (inr (inr (inr (inr (inr (inr (inr (_, _, _, _, _, _, _, refl)))))))) ∙ converted conversion) (expression_called base typed (alike_part k))
    expression_called base (X.enumerate axis current known is segments) k = none_called base _ (leaf_calls _ (inr (inr (inr (inr (inr (inr (inr (inl (_, _, _, _, _, _, refl))))))))))
    expression_called base (X.printf arguments pieces values typed none are as_many promoted) k =
        list_called base (parts.printf arguments refl) (list_calls _ values (inr (_, pieces, refl)) ∙ each_promoted promoted) (each_called base typed (alike_part k))
    expression_called base X.getchar k = none_called base _ (leaf_calls _ (inr (inr (inr (inr (inr (inr (inr (inr (_, refl))))))))))

    pub each_called : {here : Here} {es : List Expr} {ts : List TExpr} (base : Here) → TypesEach program here es ts → IsAlike f base here → AreCallees program f (calls_in_each base es) (calls_of ts)
    each_called base X.no_expression k = no_callees program f []
    each_called base (X.next_expression typed more) k = callees_both program f (expression_called base typed k) (each_called base more k)

    indexes_called : {here : Here} {n : Name} {axis : ℕ} {es : List Expr} {ts : List TExpr} (base : Here) → TypesIndexes program here n axis es ts → IsAlike f base here → AreCallees program f (calls_in_each base es) (calls_of ts)
    indexes_called base X.no_index k = no_callees program f []
    indexes_called base (X.next_index {n = n} {axis = axis} typed more) k = callees_both program f (expression_called base typed (alike_index n.word axis k)) (indexes_called base more k)
