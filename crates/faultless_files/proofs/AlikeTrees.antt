-- Typed trees that differ only in where their parts lie in memory have one type, need the same room and
-- call the same instances.
use Rattle.std.proofs.Common.{◌≡◌, ℕ, ◌+◌, max, is_some, List, [], ◌∷◌, map, Option, Some, Box, refl, sym, ap, ap₂, ◌∙◌, subst, if◌then◌else◌}
use Rattle.std.proofs.lemmas.Option.{none-some}
use Rattle.std.specs.List.{AllZip}
use Rattle.std.specs.declared.alloc.Global.{Global}
use Rattle.cstar_base.specs.declared.elem.Elem.{Elem}
use Rattle.cstar_tree.specs.declared.typed.TExpr.{TExpr, map-TExpr, roll-TExpr}
use Rattle.cstar_tree.specs.declared.typed.TExpr as T
use Rattle.cstar_tree.specs.declared.typed.TExpr.TheFolds.{fold-TExpr, fold-roll-TExpr}
use Rattle.cstar_tree.specs.declared.typed.TExpr.TheOpen.{TExpr-F}
use Rattle.cstar_tree.specs.declared.typed.TExpr.TheVariants as rolled
use Rattle.cstar_tree.specs.declared.typed.ValueType.{ValueType}
use Rattle.cstar_tree.specs.Conversions.{AreFitted, ArePromoted, AreSpread, IsConverted, IsFitted, IsSpread, promoted}
use Rattle.cstar_tree.specs.Conversions as C
use Rattle.cstar_tree.specs.Room.{ExpressionRoom, beside, greatest_part, of_shape, room_step, same_room}
use Rattle.cstar_tree.specs.Typed.{type_of}
use Rattle.cstar_tree.specs.TypedParts.{call_step, calls_in, concat}
use Rattle.faultless_files.proofs.ValueTypes.{elem_is, shape_is}

abbrev pub room_of : ℕ → TExpr → ExpressionRoom
room_of shape = fold-TExpr ExpressionRoom (room_step shape)

pub record AreAlike (t u : TExpr) : Type 0 where
  pub type_is : type_of t ≡ type_of u
  pub rooms : (shape : ℕ) → room_of shape t ≡ room_of shape u
  pub calls : calls_in t ≡ calls_in u

-- ---- the room and the calls of a node, from those of its parts

abbrev pub Rooms : Type 0
Rooms = ℕ → ValueType → List ExpressionRoom → ExpressionRoom

abbrev pub Calls : Type 0
Calls = List (List ℕ) → List ℕ

pub record IsNode (t : TExpr) (rooms : Rooms) (calls : Calls) (parts : List TExpr) : Type 0 where
  pub rooms_are : (shape : ℕ) → room_of shape t ≡ rooms shape (type_of t) (map (room_of shape) parts)
  pub calls_are : calls_in t ≡ calls (map calls_in parts)

-- 33 bits beside the greatest of the parts
abbrev pub plain_room : Rooms
plain_room shape ty rooms = same_room (of_shape shape ty.shape 33 + greatest_part 0 rooms)

abbrev pub assign_room : Rooms
assign_room shape ty (target ∷ value ∷ rest) = same_room (of_shape shape ty.shape (if target.sends then 99 else 33) + max target.target (beside 1 value.value))
assign_room shape ty rest = same_room 0

abbrev pub step_room : Rooms
step_room shape ty (target ∷ rest) = same_room (of_shape shape ty.shape 33 + target.target)
step_room shape ty [] = same_room 0

abbrev pub brackets_room : Rooms
brackets_room shape ty (inner ∷ rest) = record { value = of_shape shape ty.shape 33 + inner.value; target = of_shape shape ty.shape 33 + inner.target; sends = inner.sends }
brackets_room shape ty [] = same_room 0

abbrev pub index_room : Rooms
index_room shape ty rooms = record { value = of_shape shape ty.shape 99 + greatest_part 0 rooms; target = of_shape shape ty.shape 33 + greatest_part 0 rooms; sends = is_some ty.shape }

abbrev pub brought_room : Rooms
brought_room shape ty (operand ∷ rest) = same_room operand.value
brought_room shape ty [] = same_room 0

abbrev pub scan_room : Rooms
scan_room shape ty (source ∷ rest) = same_room (of_shape shape ty.shape 99 + source.value)
scan_room shape ty [] = same_room (of_shape shape ty.shape 99)

pub by_node : (shape : ℕ) (x : TExpr-F TExpr) {e : TExpr} → roll-TExpr x ≡ e → room_of shape e ≡ room_step shape (map-TExpr TExpr ExpressionRoom (room_of shape) x)
by_node shape x is = ap (room_of shape) (sym is) ∙ fold-roll-TExpr ExpressionRoom (room_step shape) x

pub calls_by : (x : TExpr-F TExpr) {e : TExpr} → roll-TExpr x ≡ e → calls_in e ≡ call_step (map-TExpr TExpr (List ℕ) calls_in x)
calls_by x is = ap calls_in (sym is) ∙ fold-roll-TExpr (List ℕ) call_step x

-- ---- nodes of alike parts

parts_rooms : (shape : ℕ) (ts us : List TExpr) → AllZip AreAlike ts us → map (room_of shape) ts ≡ map (room_of shape) us
parts_rooms shape [] [] all = refl
parts_rooms shape [] (u ∷ us) all = absurd all
parts_rooms shape (t ∷ ts) [] all = absurd all
parts_rooms shape (t ∷ ts) (u ∷ us) all = ap₂ (λ (r : ExpressionRoom) (rs : List ExpressionRoom). r ∷ rs) (all.0.rooms shape) (parts_rooms shape ts us all.1)

pub parts_calls : (ts us : List TExpr) → AllZip AreAlike ts us → map calls_in ts ≡ map calls_in us
parts_calls [] [] all = refl
parts_calls [] (u ∷ us) all = absurd all
parts_calls (t ∷ ts) [] all = absurd all
parts_calls (t ∷ ts) (u ∷ us) all = ap₂ (λ (c : List ℕ) (cs : List (List ℕ)). c ∷ cs) all.0.calls (parts_calls ts us all.1)

pub node_alike : {t u : TExpr} {rooms : Rooms} {calls : Calls} {ts us : List TExpr} → type_of t ≡ type_of u → IsNode t rooms calls ts → IsNode u rooms calls us → AllZip AreAlike ts us → AreAlike t u
node_alike {t = t} {u = u} {rooms = rooms} {calls = calls} {ts = ts} {us = us} same a b all = record {
  type_is = same;
  rooms = λ shape. a.rooms_are shape ∙ ap₂ (λ (ty : ValueType) (rs : List ExpressionRoom). rooms shape ty rs) same (parts_rooms shape ts us all) ∙ sym (b.rooms_are shape);
  calls = a.calls_are ∙ ap calls (parts_calls ts us all) ∙ sym b.calls_are;
}

-- ---- values that are brought to a type

abbrev of_parts : Elem → Option ℕ → ValueType
of_parts elem shape = record { elem = elem; shape = shape }

brought : (ty : ValueType) (operand : Box TExpr Global) (e : TExpr) → operand.value ≡ e → IsNode (T.Convert ty operand) brought_room concat (e ∷ [])
unfolding room_step concat
brought ty operand e is = subst (λ (x : TExpr). IsNode (T.Convert ty operand) brought_room concat (x ∷ [])) is
    (record { rooms_are = λ shape. by_node shape (TExpr-F.Convert ty operand) (rolled.rolls-Convert ty operand); calls_are = calls_by (TExpr-F.Convert ty operand) (rolled.rolls-Convert ty operand) })

promoted_node : (ty : ValueType) (operand : Box TExpr Global) (e : TExpr) → operand.value ≡ e → IsNode (T.Promote ty operand) brought_room concat (e ∷ [])
unfolding room_step concat
promoted_node ty operand e is = subst (λ (x : TExpr). IsNode (T.Promote ty operand) brought_room concat (x ∷ [])) is
    (record { rooms_are = λ shape. by_node shape (TExpr-F.Promote ty operand) (rolled.rolls-Promote ty operand); calls_are = calls_by (TExpr-F.Promote ty operand) (rolled.rolls-Promote ty operand) })

pub converted_alike : {t u x y : TExpr} {elem other : Elem} → elem ≡ other → AreAlike t u → IsConverted t elem x → IsConverted u other y → AreAlike x y
converted_alike same a (C.as_it_is h) (C.as_it_is k) = a
converted_alike same a (C.as_it_is h) (C.by_node operand is differs) = absurd (differs (sym (elem_is a.type_is) ∙ h ∙ same))
converted_alike same a (C.by_node operand is differs) (C.as_it_is k) = absurd (differs (elem_is a.type_is ∙ k ∙ sym same))
converted_alike {t = t} {u = u} same a (C.by_node operand is differs) (C.by_node operator is_too differs_too) =
    node_alike (ap₂ of_parts same (shape_is a.type_is)) (brought _ operand t is) (brought _ operator u is_too) (a, tt)

spread_by : {wanted : Option ℕ} {t u x y : TExpr} → AreAlike t u → IsSpread t wanted x → IsSpread u wanted y → AreAlike x y
spread_by a C.none_wanted C.none_wanted = a
spread_by a C.none_wanted (C.is_parallel k) = a
spread_by a (C.is_parallel h) C.none_wanted = a
spread_by a (C.is_parallel h) (C.is_parallel k) = a
spread_by a (C.is_parallel {shape = s} h) (C.at_each_position operand is none) = absurd (none-some s (sym none ∙ (sym (shape_is a.type_is) ∙ h)))
spread_by a (C.at_each_position operand is none) (C.is_parallel {shape = s} k) = absurd (none-some s (sym none ∙ (shape_is a.type_is ∙ k)))
spread_by {t = t} {u = u} a (C.at_each_position {shape = s} operand is none) (C.at_each_position operator is_too none_too) =
    node_alike (ap (λ (e : Elem). of_parts e (Some s)) (elem_is a.type_is)) (promoted_node _ operand t is) (promoted_node _ operator u is_too) (a, tt)

pub spread_alike : {wanted other : Option ℕ} {t u x y : TExpr} → wanted ≡ other → AreAlike t u → IsSpread t wanted x → IsSpread u other y → AreAlike x y
spread_alike {u = u} {y = y} same a h k = spread_by a h (subst (λ (s : Option ℕ). IsSpread u s y) (sym same) k)

pub fitted_alike : {v w : ValueType} {t u x y : TExpr} → v ≡ w → AreAlike t u → IsFitted t v x → IsFitted u w y → AreAlike x y
fitted_alike same a h k = spread_alike (shape_is same) (converted_alike (elem_is same) a h.conversion k.conversion) h.spread k.spread

-- ---- lists of them

pub each_promoted : {ts us xs ys : List TExpr} → AllZip AreAlike ts us → ArePromoted ts xs → ArePromoted us ys → AllZip AreAlike xs ys
each_promoted all C.ArePromoted.none C.ArePromoted.none = tt
each_promoted all C.ArePromoted.none (C.ArePromoted.next k others) = absurd all
each_promoted all (C.ArePromoted.next h more) C.ArePromoted.none = absurd all
each_promoted all (C.ArePromoted.next h more) (C.ArePromoted.next k others) = (converted_alike (ap promoted (elem_is all.0.type_is)) all.0 h k, each_promoted all.1 more others)

pub each_spread : {wanted other : Option ℕ} {ts us xs ys : List TExpr} → wanted ≡ other → AllZip AreAlike ts us → AreSpread wanted ts xs → AreSpread other us ys → AllZip AreAlike xs ys
each_spread same all C.AreSpread.none C.AreSpread.none = tt
each_spread same all C.AreSpread.none (C.AreSpread.next k others) = absurd all
each_spread same all (C.AreSpread.next h more) C.AreSpread.none = absurd all
each_spread same all (C.AreSpread.next h more) (C.AreSpread.next k others) = (spread_alike same all.0 h k, each_spread same all.1 more others)

pub each_fitted : {types : List ValueType} {ts us xs ys : List TExpr} → AllZip AreAlike ts us → AreFitted types ts xs → AreFitted types us ys → AllZip AreAlike xs ys
each_fitted all C.AreFitted.none C.AreFitted.none = tt
each_fitted all (C.AreFitted.next takes h more) (C.AreFitted.next takes_too k others) = (fitted_alike refl all.0 h k, each_fitted all.1 more others)
