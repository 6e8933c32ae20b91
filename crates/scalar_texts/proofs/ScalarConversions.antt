-- What a scalar value of the fragment is brought to is of the fragment, and has 32 bits where an operator takes it.
use Rattle.std.proofs.Common.{◌≡◌, Bool, true, List, [], ◌∷◌, inl, map, Some, None, Vec, refl, ap, ap₂, ◌∙◌, sym, subst}
use Rattle.std.specs.declared.alloc.Global.{Global}
use Rattle.std.specs.List.{All}
use Rattle.std.proofs.lemmas.List.Elements.{All-nil, All-cons, All-head, All-tail}
use mathlib.Core.Former.{Count}
use Rattle.cstar_base.specs.declared.elem.Elem.{Elem}
use Rattle.cstar_tree.specs.declared.syntax.AssignOp.{AssignOp}
use Rattle.cstar_tree.specs.declared.syntax.AssignOp.TheVariants as A
use Rattle.cstar_tree.specs.declared.syntax.Cast.{Cast}
use Rattle.cstar_tree.specs.declared.typed.TExpr.{TExpr, Row_of-TExpr, end_of-TExpr, more_of-TExpr, items-the_row-TExpr}
use Rattle.cstar_tree.specs.declared.typed.TExpr as T
use Rattle.cstar_tree.specs.declared.typed.UnaryOp.{UnaryOp}
use Rattle.cstar_tree.specs.declared.typed.UnaryOp.TheVariants as U
use Rattle.cstar_tree.specs.declared.typed.ValueType.{ValueType}
use Rattle.cstar_tree.specs.Conversions.{AreFitted, ArePromoted, IsConverted, IsFitted, IsSpread, promoted}
use Rattle.cstar_tree.specs.Conversions as C
use Rattle.cstar_tree.specs.ExpressionTypes.{cast_elem}
use Rattle.cstar_tree.specs.Operations.{Target, assigned_elem, target_of}
use Rattle.cstar_tree.specs.Typed.{type_of}
use Rattle.code_follows.specs.Fragment.{AreIn, elems_of, IsEffect, IsGiven, IsIn, IsOperand, IsScalarType, IsVariable, IsWord, May}
use Rattle.constant_trees.proofs.Bringing.{spread_scalar}
use Rattle.constant_trees.proofs.Words.{common_wide, promoted_wide}
use Rattle.source_meaning.specs.Values.{cast_type}

-- ---- the operators' types

wide : {a b : Elem} → a ≡ b → b.bits ≡ 32 → a.bits ≡ 32
wide same bits = ap (λ (e : Elem). e.bits) same ∙ bits

-- any operand of 32 bits will do
pub word_operand : (op : UnaryOp) (ty : ValueType) → IsWord ty → IsOperand op ty
unfolding IsOperand
word_operand U.Plus ty word = word
word_operand U.Minus ty word = word
word_operand U.Complement ty word = word
word_operand U.Not ty word = word.0

-- what is brought to the type of an assignment can be assigned
pub is_given : (op : AssignOp) (to value : ValueType) (elem : Elem) → value.shape ≡ None → value.elem ≡ assigned_elem op to.elem elem → IsGiven op to value
unfolding IsGiven assigned_elem
is_given A.Set to value elem scalar is = inl is
is_given A.Add to value elem scalar is = (scalar, wide is (common_wide to.elem elem))
is_given A.Sub to value elem scalar is = (scalar, wide is (common_wide to.elem elem))
is_given A.Mul to value elem scalar is = (scalar, wide is (common_wide to.elem elem))
is_given A.Div to value elem scalar is = (scalar, wide is (common_wide to.elem elem))
is_given A.Rem to value elem scalar is = (scalar, wide is (common_wide to.elem elem))
is_given A.Mod to value elem scalar is = (scalar, wide is (common_wide to.elem elem))
is_given A.And to value elem scalar is = (scalar, wide is (common_wide to.elem elem))
is_given A.Or to value elem scalar is = (scalar, wide is (common_wide to.elem elem))
is_given A.Xor to value elem scalar is = (scalar, wide is (common_wide to.elem elem))
is_given A.Shl to value elem scalar is = (scalar, wide is (promoted_wide elem))
is_given A.Shr to value elem scalar is = (scalar, wide is (promoted_wide elem))
is_given A.Min to value elem scalar is = (scalar, wide is (common_wide to.elem elem))
is_given A.Max to value elem scalar is = (scalar, wide is (common_wide to.elem elem))

-- a chain of casts gives the outermost type in the rules and in the meaning
pub cast_same : (chain : List Cast) (elem : Elem) → cast_elem chain elem ≡ cast_type (map (λ (c : Cast). c.elem) chain) elem
unfolding cast_type
cast_same [] elem = refl
cast_same (c ∷ chain) elem = refl

-- ---- values

module _ (may : May) where
  -- What an expression becomes is scalar. It may be used where it has a value, run for its effect, and assigned to
  -- where it is a target.
  pub record IsScalarValue (has_value : Bool) (t : TExpr) : Type 0 where
    pub scalar : IsScalarType (type_of t)
    pub used : has_value ≡ true → IsIn may t
    pub effect : IsEffect may t
    pub target : (which : Target) → target_of t ≡ Some which → IsVariable may t

  -- a value of this element type
  pub record IsValueOf (elem : Elem) (t : TExpr) : Type 0 where
    pub scalar : IsScalarType (type_of t)
    pub elem_is : (type_of t).elem ≡ elem
    pub used : IsIn may t

  pub is_word : {elem : Elem} {t : TExpr} → IsValueOf elem t → elem.bits ≡ 32 → IsWord (type_of t)
  is_word v bits = (v.scalar, wide v.elem_is bits)

  pub converted : {e f : TExpr} {elem : Elem} → IsConverted e elem f → IsScalarValue true e → IsValueOf elem f
  unfolding IsIn
  converted (C.as_it_is same) v = record { scalar = v.scalar; elem_is = same; used = v.used refl }
  converted (C.by_node operand is other) v = record { scalar = v.scalar; elem_is = refl; used = (v.scalar, subst (IsIn may) (sym is) (v.used refl)) }

-- the expressions that stand in a row in a node
abbrev typed_row : TExpr → (k : Count) × Row_of-TExpr k
typed_row (T.Call' _ _ _ row) = (_, row)
typed_row (T.Printf' _ _ _ row) = (_, row)
typed_row _ = (_, end_of-TExpr)

module _ (may : May) where
  pub fitted : {e f : TExpr} {ty : ValueType} → IsFitted e ty f → IsScalarType ty → IsScalarValue may true e → IsValueOf may ty.elem f
  fitted {ty = ty} fit scalar v =
      let c = converted may fit.conversion v in
      subst (IsValueOf may ty.elem) (spread_scalar fit.spread scalar) c

  -- ---- lists

  -- values of these element types
  pub record AreValuesOf (elems : List Elem) (ts : List TExpr) : Type 0 where
    pub used : All (IsIn may) ts
    pub elems_are : map (λ (t : TExpr). (type_of t).elem) ts ≡ elems

  next_value : {elem : Elem} {elems : List Elem} {t : TExpr} {ts : List TExpr} → IsValueOf may elem t → AreValuesOf elems ts → AreValuesOf (elem ∷ elems) (t ∷ ts)
  next_value {t = t} {ts = ts} v vs = record { used = All-cons (IsIn may) t ts v.used vs.used; elems_are = ap₂ (λ (e : Elem) (es : List Elem). e ∷ es) v.elem_is vs.elems_are }

  pub each_fitted : {types : List ValueType} {es fs : List TExpr} → AreFitted types es fs → All IsScalarType types → All (IsScalarValue may true) es → AreValuesOf (map (λ (ty : ValueType). ty.elem) types) fs
  each_fitted C.none scalars vs = record { used = All-nil (IsIn may); elems_are = refl }
  each_fitted (C.next {ty = ty} {e = e} {types = types} {es = es} takes fit more) scalars vs =
      next_value (fitted fit (All-head IsScalarType ty types scalars) (All-head (IsScalarValue may true) e es vs)) (each_fitted more (All-tail IsScalarType ty types scalars) (All-tail (IsScalarValue may true) e es vs))

  pub each_promoted : {es fs : List TExpr} → ArePromoted es fs → All (IsScalarValue may true) es → AreValuesOf (map (λ (e : TExpr). promoted (type_of e).elem) es) fs
  each_promoted C.none vs = record { used = All-nil (IsIn may); elems_are = refl }
  each_promoted (C.next {e = e} {es = es} c more) vs = next_value (converted may c (All-head (IsScalarValue may true) e es vs)) (each_promoted more (All-tail (IsScalarValue may true) e es vs))

  -- in a node
  row_in : (k : Count) (row : Row_of-TExpr k) → All (IsIn may) (items-the_row-TExpr k row) → AreIn may row
  unfolding AreIn
  row_in k end_of-TExpr all = tt
  row_in k (more_of-TExpr e rest) all = (All-head (IsIn may) e _ all, row_in _ rest (All-tail (IsIn may) e _ all))

  pub list_in : {elems : List Elem} (node : TExpr) (list : Vec TExpr Global) → items-the_row-TExpr (typed_row node).0 (typed_row node).1 ≡ list.items → AreValuesOf elems list.items → AreIn may (typed_row node).1 × (elems_of (typed_row node).1 ≡ elems)
  list_in node list same vs =
      (row_in (typed_row node).0 (typed_row node).1 (subst (All (IsIn may)) (sym same) vs.used), ap (map (λ (t : TExpr). (type_of t).elem)) same ∙ vs.elems_are)
