-- Where a value stands that is brought to a type and a shape.
use Rattle.std.proofs.Common.{◌≡◌, ℕ, Bool, true, false, is_none, is_some, List, [], ◌∷◌, length, map, suc, Option, Some, None, IfSome, IsSome, refl, ap, ◌∙◌, sym, subst}
use Rattle.std.specs.List.{All, AllZip}
use Rattle.std.proofs.lemmas.List.Elements.{All-nil, All-cons, All-head, All-tail, All-weaker}
use Rattle.std.proofs.lemmas.Option.{none-some}
use Rattle.cstar_base.specs.declared.elem.Elem.{Elem}
use Rattle.cstar_tree.specs.declared.syntax.Expr.{Expr}
use Rattle.cstar_tree.specs.declared.syntax.Parameter.{Parameter}
use Rattle.cstar_tree.specs.declared.typed.TExpr.{TExpr}
use Rattle.cstar_tree.specs.declared.typed.TExpr as T
use Rattle.cstar_tree.specs.declared.typed.Typed.{Typed}
use Rattle.cstar_tree.specs.declared.typed.ValueType.{ValueType}
use Rattle.cstar_tree.specs.declared.typed.VarInfo.{VarInfo}
use Rattle.cstar_tree.specs.Conversions.{AreFitted, ArePromoted, AreSpread, IsConverted, IsFitted, IsSpread, either, shape_among}
use Rattle.cstar_tree.specs.Conversions as C
use Rattle.cstar_tree.specs.ExpressionTypes.{Gives, TypesEach, TypesIndexes}
use Rattle.cstar_tree.specs.ExpressionTypes as X
use Rattle.cstar_tree.specs.Headers.{Program, Returns, parameter_types}
use Rattle.cstar_tree.specs.Operations.{left_target, one, target_of}
use Rattle.cstar_tree.specs.ProgramTypes.{TypesParameters, TypesResult}
use Rattle.cstar_tree.specs.ProgramTypes as P
use Rattle.cstar_tree.specs.Scopes.{Here}
use Rattle.cstar_tree.specs.Typed.{type_of}
use Rattle.lower_expr.specs.Lengths.{bare, is_send, is_sent}
use Rattle.lower_expr.specs.Steps.{is_kept}
use Rattle.code_lengths.specs.Shaped.{HasNoShape, HasShape}
use Rattle.shaped_trees.specs.Laws.{IsLowerableValue, IsShapedValue}
use Rattle.code_lengths.specs.Lowerable.{GivesValue, InRegister, IsLowerable, IsValueFor}
use Rattle.shaped_trees.proofs.Bringing.{converted, converted_shape, spread_parallel}

-- a part of an expression, whose value is wanted
pub record IsPart (t : Typed) (e : TExpr) : Type 0 where
  pub shaped : IsShapedValue e
  pub gives : GivesValue t e
  pub lowerable : IsLowerable t e

-- what such a part is brought to
pub record IsBrought (t : Typed) (e : TExpr) : Type 0 where
  pub gives : GivesValue t e
  pub lowerable : IsLowerable t e

pub as_part : {t : Typed} {whole : Bool} {e : TExpr} → whole ≡ false → IsShapedValue e → IsLowerableValue t whole true e → IsPart t e
as_part not_whole shaped value = record { shaped = shaped; gives = value.gives refl not_whole; lowerable = value.lowerable }

pub part_converted : {t : Typed} {e f : TExpr} {elem : Elem} → IsConverted e elem f → IsPart t e → IsPart t f
unfolding GivesValue IsLowerable
part_converted (C.as_it_is same) p = p
part_converted {t = t} (C.by_node operand is other) p =
    let q = subst (IsPart t) (sym is) p in
    record { shaped = converted (C.by_node operand is other) p.shaped; gives = tt; lowerable = (q.gives, q.lowerable) }

pub part_spread : {t : Typed} {e f : TExpr} {wanted : Option ℕ} → IsSpread e wanted f → IsPart t e → IsBrought t f
unfolding GivesValue IsLowerable
part_spread C.none_wanted p = record { gives = p.gives; lowerable = p.lowerable }
part_spread (C.is_parallel shape) p = record { gives = p.gives; lowerable = p.lowerable }
part_spread {t = t} (C.at_each_position operand is scalar) p =
    let q = subst (IsPart t) (sym is) p in
    record { gives = tt; lowerable = (q.gives, q.lowerable) }

pub part_fitted : {t : Typed} {e f : TExpr} {ty : ValueType} → IsFitted e ty f → IsPart t e → IsBrought t f
part_fitted fit p = part_spread fit.spread (part_converted fit.conversion p)

-- ---- registers

pub is_absent : (shape : Option ℕ) → is_none shape ≡ true → shape ≡ None
is_absent None none = refl
is_absent (Some s) none = cc

pub neither : (a b : Option ℕ) → either a b ≡ None → (a ≡ None) × (b ≡ None)
neither None b is = (refl, is)
neither (Some s) b is = elim (none-some s (sym is)) [ ]

-- what comes from a scalar stands in a register, and so does what is scalar
spread_kept : {e f : TExpr} {wanted : Option ℕ} → IsSpread e wanted f → IsShapedValue e → (type_of e).shape ≡ None → is_kept f ≡ true
unfolding is_kept
spread_kept C.none_wanted p scalar = p.kept ∙ ap is_none scalar
spread_kept (C.is_parallel shape) p scalar = p.kept ∙ ap is_none scalar
spread_kept (C.at_each_position operand is s) p scalar = refl

pub scalar_kept : {e f : TExpr} {wanted : Option ℕ} → IsSpread e wanted f → IsShapedValue e → HasNoShape (type_of f) → is_kept f ≡ true
unfolding is_kept
scalar_kept C.none_wanted p scalar = p.kept ∙ scalar
scalar_kept (C.is_parallel shape) p scalar = p.kept ∙ scalar
scalar_kept (C.at_each_position operand is s) p scalar = refl

-- what stays as it is, since no shape is wanted, stands in a field where it is parallel
pub parallel_not_kept : {e f : TExpr} {wanted : Option ℕ} → IsSpread e wanted f → IsShapedValue e → is_none wanted ≡ true → HasShape (type_of f) → is_kept f ≡ false
parallel_not_kept C.none_wanted p none has = p.kept ∙ has
parallel_not_kept (C.is_parallel shape) p none has = p.kept ∙ has
parallel_not_kept (C.at_each_position operand is s) p none has = cc

-- what is scalar in the end is so since no shape is wanted
pub unspread : {e f : TExpr} {wanted : Option ℕ} → IsSpread e wanted f → HasNoShape (type_of f) → is_none wanted ≡ true
unspread C.none_wanted scalar = refl
unspread (C.is_parallel shape) scalar = elim (none-some _ (sym (is_absent _ scalar) ∙ shape)) [ ]
unspread (C.at_each_position operand is s) scalar = cc

pub fitted_kept : {e f : TExpr} {ty : ValueType} → IsFitted e ty f → IsShapedValue e → (type_of e).shape ≡ None → is_kept f ≡ true
fitted_kept fit p scalar = spread_kept fit.spread (converted fit.conversion p) (converted_shape fit.conversion ∙ scalar)

pub value_for : {t : Typed} {e f : TExpr} (ty : ValueType) → IsFitted e ty f → IsPart t e → (ty.shape ≡ None → (type_of e).shape ≡ None) → IsValueFor t ty.shape f
value_for ty fit p takes =
    let brought = part_fitted fit p in
    record {
      gives = brought.gives;
      in_register = λ none. fitted_kept fit p.shaped (takes (is_absent ty.shape none));
      parallel = λ has. spread_parallel fit.spread has;
    }

-- ---- targets

-- what is one place is no target of a send
one_place : (place : _) (shape : Option ℕ) → Some (left_target place shape) ≡ Some one → is_some shape ≡ false
one_place place None is = refl
one_place place (Some s) is = cc

pub no_send : (e : TExpr) → target_of e ≡ Some one → is_send e ≡ false
unfolding is_send is_sent bare target_of
no_send (T.Brackets' ty p inner) is = no_send inner is
no_send (T.LeftIndex' ty place p indexes x of) is = one_place place ty.shape is
no_send _ is = refl

-- ---- lists

pub gives_each : {t : Typed} (es : List TExpr) → All (IsBrought t) es → All (GivesValue t) es
gives_each {t = t} es all = All-weaker (IsBrought t) (GivesValue t) (λ e (b : IsBrought t e). b.gives) es all

pub lowerable_each : {t : Typed} (es : List TExpr) → All (IsBrought t) es → All (IsLowerable t) es
lowerable_each {t = t} es all = All-weaker (IsBrought t) (IsLowerable t) (λ e (b : IsBrought t e). b.lowerable) es all

pub each_promoted : {t : Typed} {es fs : List TExpr} → ArePromoted es fs → All (IsPart t) es → All (IsBrought t) fs
each_promoted {t = t} C.none ps = All-nil (IsBrought t)
each_promoted {t = t} (C.next {e = e} {p = f} {es = es} {ps = fs} c more) ps =
    let q = part_converted c (All-head (IsPart t) e es ps) in
    All-cons (IsBrought t) f fs (record { gives = q.gives; lowerable = q.lowerable }) (each_promoted more (All-tail (IsPart t) e es ps))

pub each_spread : {t : Typed} {shape : Option ℕ} {es fs : List TExpr} → AreSpread shape es fs → All (IsPart t) es → All (IsBrought t) fs
each_spread {t = t} C.none ps = All-nil (IsBrought t)
each_spread {t = t} (C.next {e = e} {p = f} {es = es} {ps = fs} s more) ps =
    All-cons (IsBrought t) f fs (part_spread s (All-head (IsPart t) e es ps)) (each_spread more (All-tail (IsPart t) e es ps))

pub each_fitted : {t : Typed} {types : List ValueType} {es fs : List TExpr} → AreFitted types es fs → All (IsPart t) es → All (IsBrought t) fs
each_fitted {t = t} C.none ps = All-nil (IsBrought t)
each_fitted {t = t} (C.next {e = e} {f = f} {es = es} {fs = fs} takes fit more) ps =
    All-cons (IsBrought t) f fs (part_fitted fit (All-head (IsPart t) e es ps)) (each_fitted more (All-tail (IsPart t) e es ps))

pub promoted_registers : {t : Typed} {es fs : List TExpr} → ArePromoted es fs → All (IsPart t) es → shape_among es ≡ None → All (InRegister t) fs
promoted_registers {t = t} C.none ps none = All-nil (InRegister t)
promoted_registers {t = t} (C.next {e = e} {p = f} {es = es} {ps = fs} c more) ps none =
    let q = part_converted c (All-head (IsPart t) e es ps) in
    let absent = neither (type_of e).shape (shape_among es) none in
    All-cons (InRegister t) f fs (q.gives, q.shaped.kept ∙ ap is_none (converted_shape c ∙ absent.0)) (promoted_registers more (All-tail (IsPart t) e es ps) absent.1)

pub spread_registers : {t : Typed} {shape : Option ℕ} {es fs : List TExpr} → AreSpread shape es fs → All (IsPart t) es → shape_among es ≡ None → All (InRegister t) fs
spread_registers {t = t} C.none ps none = All-nil (InRegister t)
spread_registers {t = t} (C.next {e = e} {p = f} {es = es} {ps = fs} s more) ps none =
    let p = All-head (IsPart t) e es ps in
    let brought = part_spread s p in
    let absent = neither (type_of e).shape (shape_among es) none in
    All-cons (InRegister t) f fs (brought.gives, spread_kept s p.shaped absent.0) (spread_registers more (All-tail (IsPart t) e es ps) absent.1)

-- as many values as expressions
pub as_many_typed : {program : Program} {here : Here} {es : List Expr} {ts : List TExpr} → TypesEach program here es ts → length es ≡ length ts
as_many_typed X.no_expression = refl
as_many_typed (X.next_expression typed more) = ap suc (as_many_typed more)

pub as_many_promoted : {es fs : List TExpr} → ArePromoted es fs → length es ≡ length fs
as_many_promoted C.none = refl
as_many_promoted (C.next c more) = ap suc (as_many_promoted more)

pub as_many_spread : {shape : Option ℕ} {es fs : List TExpr} → AreSpread shape es fs → length es ≡ length fs
as_many_spread C.none = refl
as_many_spread (C.next s more) = ap suc (as_many_spread more)

pub as_many_indexes : {program : Program} {here : Here} {name : _} {axis : ℕ} {es : List Expr} {ts : List TExpr} → TypesIndexes program here name axis es ts → length es ≡ length ts
as_many_indexes X.no_index = refl
as_many_indexes (X.next_index typed more) = ap suc (as_many_indexes more)

-- ---- calls

type_or : ValueType → Option ValueType → ValueType
type_or other None = other
type_or other (Some ty) = ty

first_or : Option ValueType → List (Option ValueType) → Option ValueType
first_or other [] = other
first_or other (o ∷ os) = o

behind_first : List (Option ValueType) → List (Option ValueType)
behind_first [] = []
behind_first (o ∷ os) = os

pub arguments_for : {t : Typed} {here : Here} {number : ℕ} {ps : List Parameter} {infos : List VarInfo} {types : List ValueType} {es fs : List TExpr} →
    TypesParameters here number ps infos → AreFitted types es fs → parameter_types here number ps ≡ map Some types → All (IsPart t) es → AllZip (λ (param : VarInfo) (e : TExpr). IsValueFor t param.shape e) infos fs
unfolding parameter_types type_or first_or behind_first
arguments_for P.no_parameter C.none same all = tt
arguments_for P.no_parameter (C.next takes fit more) same all = cc
arguments_for (P.next_parameter is typed) C.none same all = cc
arguments_for {t = t} (P.next_parameter {ty = own} is typed) (C.next {ty = ty} {e = e} {f = f} {es = es} takes fit more) same all =
    let its_own : own ≡ ty = ap (type_or own) (sym is ∙ ap (first_or None) same) in (
      subst (λ (known : ValueType). IsValueFor t known.shape f) (sym its_own) (value_for ty fit (All-head (IsPart t) e es all) takes),
      arguments_for typed more (ap behind_first same) (All-tail (IsPart t) e es all),
    )

pub result_shape : {word : List ℕ} {r : Returns} {info : Option VarInfo} {ty : ValueType} {has_value : Bool} → TypesResult word r info → Gives r ty has_value → IfSome info (λ (info : VarInfo). info.shape ≡ ty.shape)
result_shape P.no_result X.no_value = tt
result_shape P.result X.value = refl

pub has_result : {word : List ℕ} {r : Returns} {info : Option VarInfo} {ty : ValueType} {has_value : Bool} → TypesResult word r info → Gives r ty has_value → has_value ≡ true → IsSome info
has_result P.no_result X.no_value has = cc
has_result P.result X.value has = refl
