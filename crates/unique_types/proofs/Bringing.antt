-- A value can be converted to any element type.
use Rattle.std.proofs.Common.{◌≡◌, ◌<◌, ◌^◌, ◌⊎◌, inl, inr, ℕ, Bool, true, false, List, map, length, Box, Vec, refl, ap, subst, arith}
use Rattle.std.specs.declared.alloc.Global.{Global}
use Rattle.std.proofs.Math.Bool.{Bool-set}
use Rattle.std.proofs.lemmas.Bool.Decides.{eqb_tells}
use Rattle.std.proofs.lemmas.List.{length-map}
use denote.RawPtr.{null_ptr}
use Rattle.cstar_base.specs.Kinds.{is_kind}
use Rattle.cstar_base.specs.declared.elem.Elem.{Elem}
use Rattle.cstar_tree.specs.declared.syntax.Cast.{Cast}
use Rattle.cstar_tree.specs.declared.typed.TExpr.{TExpr}
use Rattle.cstar_tree.specs.declared.typed.TExpr as T
use Rattle.cstar_tree.specs.Conversions.{AreFitted, ArePromoted, AreSpread, IsConverted, IsFitted, IsSpread, promoted, scalar}
use Rattle.cstar_tree.specs.Conversions as C
use Rattle.cstar_tree.specs.Typed.{type_of}

-- ---- element types

same_elem : (a b : Elem) → a.bits ≡ b.bits → a.signed ≡ b.signed → a ≡ b
same_elem a b p q =
    subst (λ (n : ℕ). (k : is_kind n b.signed ≡ true) → a ≡ record { bits = n; signed = b.signed; kind = k }) p
    (subst (λ (s : Bool). (k : is_kind a.bits s ≡ true) → a ≡ record { bits = a.bits; signed = s; kind = k }) q
    (λ k. ap (λ (h : is_kind a.bits a.signed ≡ true). let e : Elem = record { bits = a.bits; signed = a.signed; kind = h } in e) (Bool-set _ _ a.kind k))) b.kind

one_sign : (a b : Bool) → (a ≡ b) ⊎ (a ≡ b → ⊥)
one_sign true true = inl refl
one_sign false false = inl refl
one_sign true false = inr (λ is. cc)
one_sign false true = inr (λ is. cc)

one_elem : (a b : Elem) → (a ≡ b) ⊎ (a ≡ b → ⊥)
one_elem a b = elim (eqb_tells a.bits b.bits) [
  | inl bits ↦ elim (one_sign a.signed b.signed) [
    | inl sign ↦ inl (same_elem a b bits.1 sign)
    | inr sign ↦ inr (λ is. sign (ap (λ (e : Elem). e.signed) is))
  ]
  | inr bits ↦ inr (λ is. bits.1 (ap (λ (e : Elem). e.bits) is))
]

-- ---- boxes and lists as trees hold them

abbrev pub boxed : Global → TExpr → Box TExpr Global
boxed heap t = record { ptr = null_ptr; alloc = heap; value = t }

abbrev pub vec_below : {A : Type 0} → Global → (items : List A) → length items < 2 ^ 63 → Vec A Global
vec_below heap items few = record { items = items; ptr = null_ptr; len = length items; cap = length items; alloc = heap; ok = (refl, omega arith); small = few }

-- ---- a value brought to a type

pub record Converted (e : TExpr) (elem : Elem) : Type 0 where
  pub box : Box TExpr Global
  pub conversion : IsConverted e elem box.value

pub converted : Global → (e : TExpr) (elem : Elem) → Converted e elem
converted heap e elem = elim (one_elem (type_of e).elem elem) [
  | inl is ↦ record { box = boxed heap e; conversion = C.as_it_is is }
  | inr other ↦ record { box = boxed heap (T.Convert (record { elem = elem; shape = (type_of e).shape }) (boxed heap e)); conversion = C.by_node (boxed heap e) refl other }
]

pub scalar_fit : {e f : TExpr} {elem : Elem} → IsConverted e elem f → IsFitted e (scalar elem) f
scalar_fit {f = f} h = record { converted = f; conversion = h; spread = C.none_wanted }

abbrev pub cast_elems : Global → (chain : Vec Cast Global) → Vec Elem Global
cast_elems heap chain = vec_below heap (map (λ (c : Cast). c.elem) chain.items) (let few = chain.small in omega (arith, length-map chain.items (λ (c : Cast). c.elem), chain.ok))
