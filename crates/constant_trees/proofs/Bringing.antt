-- A constant that is brought to a type is the constant converted to it, and what is none stays none.
use Rattle.std.proofs.Common.{◌≡◌, ℕ, ◌<◌, ◌^◌, Bool, true, false, ◌&&◌, Option, Some, None, is_none, IfSome, Box, refl, sym, ap, subst, ◌∙◌}
use Rattle.std.specs.Option.{option_map}
use Rattle.std.specs.declared.alloc.Global.{Global}
use Rattle.cstar_base.specs.declared.elem.Elem.{Elem}
use Rattle.cstar_base.specs.Numbers.{converted}
use Rattle.cstar_tree.specs.declared.typed.TExpr.{TExpr}
use Rattle.cstar_tree.specs.declared.typed.TExpr as T
use Rattle.cstar_tree.specs.declared.typed.ValueType.{ValueType}
use Rattle.cstar_tree.specs.Constants.{Constant, cast_to}
use Rattle.cstar_tree.specs.Conversions.{IsConverted, IsFitted, IsSpread}
use Rattle.cstar_tree.specs.Conversions as C
use Rattle.cstar_tree.specs.Typed.{type_of}
use Rattle.source_meaning.specs.Constants.{is_constant, value_of}
use Rattle.constant_trees.specs.Laws.{IsConstant}
use Rattle.constant_trees.proofs.Words.{converted_below, converted_same, then_mapped}

pub both_true : (a b : Bool) → a ≡ true → b ≡ true → (a && b) ≡ true
both_true true b g h = h
both_true false b g h = g

pub right_false : (a b : Bool) → b ≡ false → (a && b) ≡ false
right_false true b h = h
right_false false b h = refl

pub left_false : (a b : Bool) → a ≡ false → (a && b) ≡ false
left_false a b h = ap (λ (x : Bool). x && b) h

-- ---- conversions

-- a value that has the type already
kept_word : (elem from : Elem) (word : Option ℕ) → from ≡ elem → elem.bits ≡ 32 → IfSome word (λ w. w < 2 ^ from.bits) → word ≡ option_map (converted elem from) word
kept_word elem from None same wide fits = refl
kept_word elem from (Some w) same wide fits =
    let here : converted elem elem w ≡ w = converted_same elem w wide (subst (λ (e : Elem). w < 2 ^ e.bits) same fits) in
    ap Some (sym (subst (λ (e : Elem). converted elem e w ≡ w) (sym same) here))

pub converted_fits : (elem from : Elem) (word : Option ℕ) → IfSome (option_map (converted elem from) word) (λ w. w < 2 ^ elem.bits)
converted_fits elem from None = tt
converted_fits elem from (Some w) = converted_below elem from w

node : (operand : Box TExpr Global) (elem : Elem) (k : Constant) → IsConstant operand.value k → IsConstant (T.Convert (record { elem = elem; shape = (type_of operand.value).shape }) operand) (cast_to elem k)
unfolding is_constant value_of cast_to
node operand elem k g = record {
  form = both_true _ _ (ap is_none g.scalar) g.form;
  scalar = g.scalar;
  elem = refl;
  value =
      then_mapped (converted elem (type_of operand.value).elem) (value_of operand.value)
      ∙ (ap (λ (e : Elem). option_map (converted elem e) (value_of operand.value)) g.elem ∙ ap (option_map (converted elem k.elem)) g.value);
  fits = converted_fits elem k.elem k.word;
}

pub converted_constant : {e t : TExpr} {elem : Elem} {k : Constant} → elem.bits ≡ 32 → IsConverted e elem t → IsConstant e k → IsConstant t (cast_to elem k)
unfolding cast_to
converted_constant {elem = elem} {k = k} wide (C.as_it_is is) g =
    let same : k.elem ≡ elem = sym g.elem ∙ is in
    record { form = g.form; scalar = g.scalar; elem = is; value = g.value ∙ kept_word elem k.elem k.word same wide g.fits; fits = converted_fits elem k.elem k.word }
converted_constant {e = e} {elem = elem} {k = k} wide (C.by_node operand is other) g =
    subst (λ (x : TExpr). IsConstant x k → IsConstant (T.Convert (record { elem = elem; shape = (type_of x).shape }) operand) (cast_to elem k)) is (node operand elem k) g

pub converted_none : {e t : TExpr} {elem : Elem} → IsConverted e elem t → is_constant e ≡ false → is_constant t ≡ false
unfolding is_constant
converted_none (C.as_it_is is) h = h
converted_none (C.by_node operand is other) h = right_false _ (is_constant operand.value) (ap is_constant is ∙ h)

-- ---- spreading

pub spread_scalar : {e t : TExpr} {wanted : Option ℕ} → IsSpread e wanted t → wanted ≡ None → e ≡ t
spread_scalar C.none_wanted h = refl
spread_scalar (C.is_parallel is) h = refl
spread_scalar (C.at_each_position operand is scalar) h = absurd (cc)

pub spread_none : {e t : TExpr} {wanted : Option ℕ} → IsSpread e wanted t → is_constant e ≡ false → is_constant t ≡ false
unfolding is_constant
spread_none C.none_wanted h = h
spread_none (C.is_parallel is) h = h
spread_none (C.at_each_position operand is scalar) h = refl

-- ---- both

pub fitted_constant : {e t : TExpr} {ty : ValueType} {k : Constant} (elem : Elem) → ty.elem ≡ elem → ty.shape ≡ None → elem.bits ≡ 32 → IsFitted e ty t → IsConstant e k → IsConstant t (cast_to elem k)
fitted_constant {e = e} {k = k} elem is scalar wide fit g =
    let conversion = subst (λ (d : Elem). IsConverted e d fit.converted) is fit.conversion in
    subst (λ (x : TExpr). IsConstant x (cast_to elem k)) (spread_scalar fit.spread scalar) (converted_constant wide conversion g)

pub fitted_none : {e t : TExpr} {ty : ValueType} → IsFitted e ty t → is_constant e ≡ false → is_constant t ≡ false
fitted_none fit h = spread_none fit.spread (converted_none fit.conversion h)
