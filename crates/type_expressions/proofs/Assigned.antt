-- Assignments of typed sides: what they are stored in, and the faults at them.
use Rattle.std.proofs.Common.{◌≡◌, ℕ, Bool, true, false, inl, inr, Option, Some, None, Box, refl, subst}
use Rattle.std.specs.declared.alloc.Global.{Global}
use Rattle.cstar_base.specs.declared.operators.Place.{Place}
use Rattle.cstar_tree.specs.declared.syntax.AssignOp.{AssignOp}
use Rattle.cstar_tree.specs.declared.syntax.Expr.{Expr}
use Rattle.cstar_tree.specs.declared.syntax.Expr as E
use Rattle.cstar_tree.specs.declared.typed.TExpr.{TExpr}
use Rattle.cstar_tree.specs.ExpressionTypes.{IsPlaceOf, IsStorable, Types}
use Rattle.cstar_tree.specs.ExpressionTypes as X
use Rattle.cstar_tree.specs.Conversions.{shape_among}
use Rattle.cstar_tree.specs.Headers.{Program}
use Rattle.cstar_tree.specs.Operations.{Target, folds, left_target, many, one, target_of}
use Rattle.cstar_tree.specs.Scopes.{Here, part}
use Rattle.cstar_tree.specs.Typed.{type_of}
use Rattle.type_expressions.specs.Answers.{storable}
use Rattle.typed_nodes.specs.Operators.{IsAssignment}

-- a target of many is parallel
abbrev ParallelIfMany : Option Target → Option ℕ → Type 0
ParallelIfMany (Some (many p)) shape = (s : ℕ) × (shape ≡ Some s)
ParallelIfMany target shape = Unit {0}

left_index : (p : Place) (shape : Option ℕ) → ParallelIfMany (Some (left_target p shape)) shape
left_index p None = tt
left_index p (Some s) = (s, refl)

parallel_if_many : {program : Program} {here : Here} {e : Expr} {t : TExpr} {b : Bool} → Types program here e t b → ParallelIfMany (target_of t) (type_of t).shape
unfolding target_of
parallel_if_many (X.left_index {p = p} {given = given} indexes spread v extents length types h) = left_index p (shape_among given)
parallel_if_many (X.brackets inner i h) = parallel_if_many h
parallel_if_many other = tt

pub many_is_parallel : {program : Program} {here : Here} {e : Expr} {t : TExpr} {b : Bool} {p : Place} → Types program here e t b → target_of t ≡ Some (many p) → (s : ℕ) × ((type_of t).shape ≡ Some s)
many_is_parallel {t = t} h is = subst (λ (k : Option Target). ParallelIfMany k (type_of t).shape) is (parallel_if_many h)

-- what a scalar value is stored in is one place
pub scalar_is_one : {program : Program} {here there : Here} {e : Expr} {t : TExpr} {b : Bool} {op : AssignOp} → Types program there e t b → IsPlaceOf here op t → (type_of t).shape ≡ None → target_of t ≡ Some one
scalar_is_one h (X.one_place is) none = is
scalar_is_one h (X.targets is whole can) none = absurd (let k = many_is_parallel h is in let s = k.1 in cc)

pub is_storable : (op : AssignOp) (target value : Option ℕ) → storable op target value ≡ true → IsStorable op target value
is_storable op None None is = λ none. inl refl
is_storable op None (Some v) is = λ none. inr is
is_storable op (Some t) value is = λ none. absurd (cc)

pub not_storable : (op : AssignOp) (target value : Option ℕ) → storable op target value ≡ false → (s : ℕ) × (target ≡ None) × (value ≡ Some s) × (folds op ≡ false)
not_storable op None None is = absurd (cc)
not_storable op None (Some v) is = (v, refl, refl, is)
not_storable op (Some t) value is = absurd (cc)

pub assign_types : {program : Program} {here : Here} {p : Place} {op : AssignOp} (target : Box TExpr Global) {v t : TExpr} (e f : Box Expr Global) → IsAssignment p op target v t → IsPlaceOf here op target.value → IsStorable op (type_of target.value).shape (type_of v).shape → Types program (part here) e.value target.value true → Types program (part here) f.value v true → Types program here (E.Assign p op e f) t true
assign_types target e f a place stored h k = rw a.node (X.assign e f target a.x h k place stored a.value)
