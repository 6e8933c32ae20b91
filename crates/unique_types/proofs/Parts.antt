-- The parts of an expression that has a type have types, as values.
use Rattle.std.proofs.Common.{◌≡◌, ℕ, zero, suc, ◌+◌, Bool, List, [], ◌∷◌, map, Option, Some, None, arith, refl, sym, ap, subst, ◌∙◌}
use Rattle.std.specs.List.{slice_get}
use Rattle.std.proofs.lemmas.Option.{same_Some}
use Rattle.cstar_tree.specs.declared.syntax.Expr.{Expr}
use Rattle.cstar_tree.specs.declared.syntax.Name.{Name}
use Rattle.cstar_tree.specs.declared.typed.TExpr.{TExpr}
use Rattle.cstar_tree.specs.declared.typed.ValueType.{ValueType}
use Rattle.cstar_tree.specs.Constants.{Constant, axis_among, axis_of, constant, number_meant}
use Rattle.cstar_tree.specs.ExpressionFaults.{IsPart, IsUntold, parameters_of}
use Rattle.cstar_tree.specs.ExpressionFaults as F
use Rattle.cstar_tree.specs.ExpressionTypes.{Types, TypesEach, TypesIndexes}
use Rattle.cstar_tree.specs.ExpressionTypes as X
use Rattle.cstar_tree.specs.Headers.{Placed, Program}
use Rattle.cstar_tree.specs.Scopes.{Here, a_function, index_place, meaning, part}
use Rattle.unique_types.proofs.Constants.{in_part}
use Rattle.unique_types.proofs.Constants as Constants
use Rattle.unique_types.proofs.Judged.{OfCall, Operand, along_of, judged, judged_call, judged_index, judged_printf}
use Rattle.unique_types.proofs.Unique.{one_function, one_placed, returned}

-- ---- lists

each_at : {program : Program} {here : Here} (es : List Expr) (which : ℕ) {ts : List TExpr} {e : Expr} → TypesEach program here es ts → slice_get es which ≡ Some e → Operand program here e
each_at [] which h is = absurd (cc)
each_at {program} {here} (x ∷ es) zero (X.next_expression {t = t} h rest) is = subst (Operand program here) (same_Some x _ is) (record { tree = t; types = h })
each_at (x ∷ es) (suc which) (X.next_expression h rest) is = each_at es which rest is

index_at : {program : Program} {here : Here} {n : Name} (axis : ℕ) (es : List Expr) (which : ℕ) {ts : List TExpr} {e : Expr} → TypesIndexes program here n axis es ts → slice_get es which ≡ Some e → Operand program (index_place here n.word (axis + which)) e
index_at axis [] which h is = absurd (cc)
index_at {program} {here} {n} axis (x ∷ es) zero {e = e} (X.next_index {t = t} h rest) is =
    let place : axis ≡ axis + zero = omega arith in
    subst (λ (k : ℕ). Operand program (index_place here n.word k) e) place (subst (Operand program (index_place here n.word axis)) (same_Some x e is) (record { tree = t; types = h }))
index_at {program} {here} {n} axis (x ∷ es) (suc which) {e = e} (X.next_index h rest) is =
    let place : (axis + 1) + which ≡ axis + suc which = omega arith in
    subst (λ (k : ℕ). Operand program (index_place here n.word k) e) place (index_at (axis + 1) es which rest is)

-- ---- axes are constants

axis_constant : (extents : List ℕ) (o : Option Constant) {number : ℕ} → axis_among extents (number_meant o) ≡ Some number → (k : Constant) × (o ≡ Some k)
axis_constant extents None is = absurd (cc)
axis_constant extents (Some k) is = (k, refl)

axis_typed : (program : Program) (here : Here) (extents : List ℕ) (axis : Expr) {number : ℕ} → axis_of here extents axis ≡ Some number → Operand program (part here) axis
axis_typed program here extents axis is =
    let k = axis_constant extents (constant here axis) is in
    let c = Constants.typed program (part here) axis (in_part here axis ∙ k.1) in
    record { tree = c.tree; types = c.types }

-- ---- parts

pub part_typed : {program : Program} {here there : Here} {e x : Expr} {t : TExpr} {b : Bool} → IsPart here e there x → Types program here e t b → Operand program there x
part_typed (F.target target value) h = let j = judged h in j.stored
part_typed (F.value target value) h = let j = judged h in j.given
part_typed (F.test test second third) h = let j = judged h in j.condition
part_typed (F.second test second third) h = let j = judged h in j.left
part_typed (F.third test second third) h = let j = judged h in j.right
part_typed (F.left left right) h = let j = judged h in j.first
part_typed (F.right left right) h = let j = judged h in j.second
part_typed (F.of_prefix operand) h = let j = judged h in j.typed
part_typed (F.of_postfix operand) h = let j = judged h in j.typed
part_typed (F.of_casts chain operand) h = let j = judged h in j.typed
part_typed (F.of_cast operand) h = let j = judged h in j.typed
part_typed (F.right_index index) h = let j = judged h in j.typed
part_typed (F.argument arguments which is) h = let j = judged_call arguments h in each_at arguments.items which j.typed is
part_typed {program} {here} (F.left_index {n = n} {e = e} indexes which is) h =
    let j = judged_index indexes h in
    let place : 0 + which ≡ which = omega arith in
    subst (λ (k : ℕ). Operand program (index_place here n.word k) e) place (index_at 0 indexes.items which j.typed is)
part_typed {program} {here} (F.along {axis = axis} g) h = let a = along_of g h in axis_typed program here a.extents axis a.is_axis
part_typed {program} {here} (F.of_dim axis) h = let j = judged h in axis_typed program here j.of_shape.extents axis.value j.is_axis
part_typed (F.source source axis) h = let j = judged h in j.typed
part_typed (F.printed arguments which is) h = let j = judged_printf arguments h in each_at arguments.items which j.typed is

-- ---- calls

pub parameters_are : {program : Program} {here : Here} {n : Name} {es : List Expr} {t : TExpr} {b : Bool} {f : ℕ} {placed : Placed} (j : OfCall program here n es t b) → meaning here n.word ≡ Some (a_function f) → slice_get program.functions f ≡ Some placed → parameters_of here placed f ≡ map Some j.types
parameters_are {program} {here} {placed = placed} j means is =
    let f = one_function means j.is_function in
    let p = one_placed program.functions f is j.is_placed in
    ap (λ (k : ℕ). parameters_of here placed k) f ∙ (ap (λ (q : Placed). parameters_of here q j.f) p ∙ j.types_are)

pub result_is : {program : Program} {here : Here} {n : Name} {es : List Expr} {t : TExpr} {b : Bool} {f : ℕ} {placed : Placed} (j : OfCall program here n es t b) → meaning here n.word ≡ Some (a_function f) → slice_get program.functions f ≡ Some placed → returned here placed f ≡ returned here j.placed j.f
result_is {program} {here} {placed = placed} j means is =
    let f = one_function means j.is_function in
    let p = one_placed program.functions f is j.is_placed in
    ap (λ (k : ℕ). returned here placed k) f ∙ ap (λ (q : Placed). returned here q j.f) p

pub no_faulty_type : (types : List ValueType) (which : ℕ) → slice_get (map Some types) which ≡ Some None → ⊥
no_faulty_type [] which is = cc
no_faulty_type (ty ∷ types) zero is = cc
no_faulty_type (ty ∷ types) (suc which) is = no_faulty_type types which is

-- ---- what has a type is told

pub not_untold : {program : Program} {here : Here} {e : Expr} {t : TExpr} {b : Bool} → IsUntold program here e → Types program here e t b → ⊥
not_untold (F.faulty_call arguments which means is none _) h =
    let j = judged_call arguments h in
    no_faulty_type j.types which (ap (λ (l : List (Option ValueType)). slice_get l which) (sym (parameters_are j means is)) ∙ none)
not_untold (F.in_untold_part is untold _) h = let x = part_typed is h in not_untold untold x.types
not_untold (F.in_untold_brackets inner untold) h = let j = judged h in not_untold untold j.types
