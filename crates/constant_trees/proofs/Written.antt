-- The typed tree of an expression is the constant that the expression is by its form.
use Rattle.std.proofs.Common.{◌≡◌, ℕ, ℤ, Bool, if◌then◌else◌, Option, Some, None, refl, sym, ap, subst, ◌∙◌}
use Rattle.std.specs.Option.{option_map}
use Rattle.cstar_base.specs.Numbers.{number_of}
use Rattle.cstar_base.specs.declared.elem.Elem.{Elem}
use Rattle.cstar_tree.specs.declared.syntax.Expr.{Expr}
use Rattle.cstar_tree.specs.declared.syntax.Expr as E
use Rattle.cstar_tree.specs.declared.typed.TExpr.{TExpr}
use Rattle.cstar_tree.specs.Constants.{Constant, about_shape, cast_through, combined, constant, extent_at, extents_meant, axis_among, number, number_meant, over_one, over_three, over_two, prefixed, selected}
use Rattle.cstar_tree.specs.ExpressionTypes.{Types}
use Rattle.cstar_tree.specs.ExpressionTypes as X
use Rattle.cstar_tree.specs.Headers.{Program}
use Rattle.cstar_tree.specs.Scopes.{Here, extents_of, meaning, part, shape_of}
use Rattle.cstar_tree.specs.Typed.{type_of}
use Rattle.source_meaning.specs.Constants.{constant_of, is_constant, value_of}
use Rattle.constant_trees.specs.Laws.{IsAsWritten}
use Rattle.constant_trees.specs.Words.{HasFewPositions, HasWords}
use Rattle.constant_trees.proofs.Casts as Casts
use Rattle.constant_trees.proofs.Leaves as Leaves
use Rattle.constant_trees.proofs.Nodes as Nodes

-- the number of a word of a type
abbrev in_type : Elem → Option ℕ → Option ℤ
in_type elem word = option_map (number_of elem.bits elem.signed) word

pub number_read : (k : Option Constant) (t : TExpr) → IsAsWritten k t → number_meant k ≡ in_type (type_of t).elem (constant_of t)
unfolding constant_of number
number_read None t h = ap (λ (b : Bool). in_type (type_of t).elem (if b then value_of t else None)) (sym h)
number_read (Some k) t g =
    ap (λ (e : Elem). in_type e k.word) (sym g.elem) ∙ (ap (in_type (type_of t).elem) (sym g.value) ∙ ap (λ (b : Bool). in_type (type_of t).elem (if b then value_of t else None)) (sym g.form))

-- what an expression is as a constant does not hang on whether it is a whole statement
pub in_part : (here : Here) (e : Expr) → constant (part here) e ≡ constant here e
unfolding constant extents_of meaning
in_part here (E.Brackets' p _ inner) = in_part here inner
in_part here (E.Casts' casts _ operand) = ap (option_map (cast_through casts.items)) (in_part here operand)
in_part here (E.Prefix' p op _ operand) = ap (over_one (prefixed op)) (in_part here operand)
in_part here (E.Binary' p op _ left _ right) =
    ap (λ (k : Option Constant). over_two (combined op) k (constant (part here) right)) (in_part here left) ∙ ap (over_two (combined op) (constant here left)) (in_part here right)
in_part here (E.Choice' p _ test _ second _ third) =
    ap (λ (k : Option Constant). over_three selected k (constant (part here) second) (constant (part here) third)) (in_part here test)
    ∙ (ap (λ (k : Option Constant). over_three selected (constant here test) k (constant (part here) third)) (in_part here second)
    ∙ ap (over_three selected (constant here test) (constant here second)) (in_part here third))
in_part here (E.DimOf' p shape _ axis) = ap (over_one (λ k. about_shape (λ ns. extent_at ns (axis_among ns (number k))) (extents_meant here (shape_of here shape)))) (in_part here axis)
in_part here _ = refl

of_part : (here : Here) (e : Expr) (t : TExpr) → IsAsWritten (constant (part here) e) t → IsAsWritten (constant here e) t
of_part here e t h = subst (λ (k : Option Constant). IsAsWritten k t) (in_part here e) h

module _ (program : Program) where
  pub written : {here : Here} {e : Expr} {t : TExpr} {has_value : Bool} → Types program here e t has_value → HasFewPositions here → HasWords e → IsAsWritten (constant here e) t
  unfolding constant is_constant HasWords over_one prefixed
  written (X.number {value = value} {u = u}) few w = Leaves.a_number value u w
  written (X.name is at_hand) few w = refl
  written (X.element index i is typed scalar at_hand) few w = refl
  written (X.dot is) few w = refl
  written (X.left_index indexes ss is known as_many typed spreads) few w = refl
  written (X.brackets {here = here} inner i typed) few w = Nodes.brackets (constant here inner.value) i (written typed few w)
  written (X.assign target value t f typed typed_value place storable fit) few w = refl
  written (X.choice {here = here} test second third c x y typed_test typed_second typed_third is fit_second fit_third) few w =
      Nodes.choice (constant here test.value) (constant here second.value) (constant here third.value) c x y is fit_second fit_third
      (of_part here test.value c.value (written typed_test few w.0)) (of_part here second.value _ (written typed_second few w.1)) (of_part here third.value _ (written typed_third few w.2))
  written (X.operation {here = here} {p = p} {op = op} left right x y typed_left typed_right is fit_left fit_right) few w =
      Nodes.operation p op (constant here left.value) (constant here right.value) x y is fit_left fit_right
      (of_part here left.value _ (written typed_left few w.0)) (of_part here right.value _ (written typed_right few w.1))
  written (X.logical_or {here = here} left right x y typed_left typed_right spread) few w =
      Nodes.logical_or (constant here left.value) (constant here right.value) x y spread
      (of_part here left.value _ (written typed_left few w.0)) (of_part here right.value _ (written typed_right few w.1))
  written (X.logical_and {here = here} left right x y typed_left typed_right spread) few w =
      Nodes.logical_and (constant here left.value) (constant here right.value) x y spread
      (of_part here left.value _ (written typed_left few w.0)) (of_part here right.value _ (written typed_right few w.1))
  written (X.signed {here = here} {op = op} {sign = sign} operand x is typed conversion) few w = Nodes.signed op sign (constant here operand.value) x is conversion (of_part here operand.value _ (written typed few w))
  written (X.logical_not {here = here} operand x typed) few w = Nodes.logical_not (constant here operand.value) x (of_part here operand.value _ (written typed few w))
  written (X.reduction {here = here} {op = op} operand x typed parallel conversion) few w = Nodes.reduction op (constant here operand.value) _ refl
  written (X.step_before {here = here} {op = op} operand x typed is) few w = Nodes.step op (constant here operand.value) _ refl
  written (X.step_behind operand x typed is) few w = refl
  written (X.casts {here = here} chain operand elems x typed scalar are) few w = Casts.casts chain elems (constant here operand.value) x are (of_part here operand.value _ (written typed few w))
  written (X.parallel_cast operand x is at_hand typed spread) few w = refl
  written (X.call arguments fs means is around leads reached types callable gives typed fits) few w = refl
  written (X.call_outside arguments ts means is around types callable gives typed taken) few w = refl
  written (X.pcoord axis current known is) few w = refl
  written (X.positions_of {here = here} {written = shape} is known) few w = Leaves.positions here shape few is known
  written (X.rank_of {here = here} {written = shape} is known) few w = Leaves.rank here shape few is known
  written (X.dim_of {here = here} {written = shape} axis is known among at_axis) few w = Leaves.along here shape (constant here axis.value) few is known among at_axis
  written (X.scan source axis x current known is segments typed parallel conversion) few w = refl
  written (X.enumerate axis current known is segments) few w = refl
  written (X.printf arguments pieces values typed none are as_many promoted) few w = refl
  written X.getchar few w = refl
