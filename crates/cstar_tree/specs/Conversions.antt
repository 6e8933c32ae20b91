-- Promotions and conversions: the types of operands, and the nodes that bring a value to a type.
use Rattle.std.specs.Prelude.{◌≡◌, refl, ℕ, true, false, ◌&&◌, nat_lt, Option, Some, None, List, [], ◌∷◌, Box, if◌then◌else◌}
use Rattle.std.specs.declared.alloc.Global.{Global}
use Rattle.cstar_base.specs.declared.elem.Elem.{Elem}
use Rattle.cstar_tree.specs.declared.typed.TExpr.{TExpr}
use Rattle.cstar_tree.specs.declared.typed.TExpr as T
use Rattle.cstar_tree.specs.declared.typed.ValueType.{ValueType}
use Rattle.cstar_tree.specs.Typed.{type_of}

abbrev pub int : Elem
int = record { bits = 32; signed = true; kind = refl }

abbrev pub unsigned : Elem
unsigned = record { bits = 32; signed = false; kind = refl }

-- the type of a scalar, and of a parallel value
abbrev pub scalar : Elem → ValueType
scalar elem = record { elem = elem; shape = None }

abbrev pub parallel : Elem → ℕ → ValueType
parallel elem shape = record { elem = elem; shape = Some shape }

-- ANSI C's promotion: what is narrower than an `int` becomes one, the unsigned types too, since an
-- `int` holds all their values
unfoldable pub promoted : Elem → Elem
promoted elem = if nat_lt elem.bits 32 then int else elem

-- ANSI C's usual conversions: of two promoted operands, unsigned if either is
unfoldable pub common : Elem → Elem → Elem
common a b = if (promoted a).signed && (promoted b).signed then int else unsigned

-- the shape of what two operands make: parallel if either is
abbrev pub either : Option ℕ → Option ℕ → Option ℕ
either None b = b
either (Some a) b = Some a

-- a value brought to an element type: a node where that is not its own
pub data IsConverted (e : TExpr) (elem : Elem) : TExpr → Type 0 where
  as_it_is : (type_of e).elem ≡ elem → IsConverted e elem e
  by_node : (operand : Box TExpr Global) → operand.value ≡ e → ((type_of e).elem ≡ elem → ⊥) → IsConverted e elem (T.Convert (record { elem = elem; shape = (type_of e).shape }) operand)

-- C*'s promotion of a scalar to every position of a shape: a node where the value is scalar and a
-- shape is wanted
pub data IsSpread (e : TExpr) : Option ℕ → TExpr → Type 0 where
  none_wanted : IsSpread e None e
  is_parallel : {wanted : Option ℕ} {shape : ℕ} → (type_of e).shape ≡ Some shape → IsSpread e wanted e
  at_each_position : {shape : ℕ} (operand : Box TExpr Global) → operand.value ≡ e → (type_of e).shape ≡ None → IsSpread e (Some shape) (T.Promote (record { elem = (type_of e).elem; shape = Some shape }) operand)

-- a value brought to a type: first converted, then at every position
pub record IsFitted (e : TExpr) (wanted : ValueType) (fitted : TExpr) : Type 0 where
  pub converted : TExpr
  pub conversion : IsConverted e wanted.elem converted
  pub spread : IsSpread converted wanted.shape fitted

-- each value of a list converted to its promoted type
pub data ArePromoted : List TExpr → List TExpr → Type 0 where
  none : ArePromoted [] []
  next : {e p : TExpr} {es ps : List TExpr} → IsConverted e (promoted (type_of e).elem) p → ArePromoted es ps → ArePromoted (e ∷ es) (p ∷ ps)

-- each value of a list at every position of a shape, where one is wanted
pub data AreSpread (shape : Option ℕ) : List TExpr → List TExpr → Type 0 where
  none : AreSpread shape [] []
  next : {e p : TExpr} {es ps : List TExpr} → IsSpread e shape p → AreSpread shape es ps → AreSpread shape (e ∷ es) (p ∷ ps)

-- each value of a list brought to its type; a parallel one has no scalar type to be brought to
pub data AreFitted : List ValueType → List TExpr → List TExpr → Type 0 where
  none : AreFitted [] [] []
  next : {ty : ValueType} {e f : TExpr} {types : List ValueType} {es fs : List TExpr} → (ty.shape ≡ None → (type_of e).shape ≡ None) → IsFitted e ty f → AreFitted types es fs → AreFitted (ty ∷ types) (e ∷ es) (f ∷ fs)

-- the shape of the first parallel value of a list
abbrev pub shape_among : List TExpr → Option ℕ
shape_among [] = None
shape_among (e ∷ es) = either (type_of e).shape (shape_among es)
