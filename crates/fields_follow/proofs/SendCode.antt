-- The code of a send: that of its indexes, their check and the address, that of its value, and the send itself.
use denote.Hole.Carrier
use Rattle.std.proofs.Common.{◌≡◌, ◌∙◌, ℕ, ◌+◌, Bool, true, false, List, [], map, Option, Some, None, refl, sym, ap, if◌then◌else◌}
use Rattle.std.specs.Prelude.{is_some, unwrap_or}
use Rattle.cstar_base.specs.declared.elem.Elem.{Elem}
use Rattle.cstar_base.specs.declared.operators.Op.{Op}
use Rattle.cstar_base.specs.declared.operators.Op.TheVariants as P
use Rattle.lower_base.specs.Drafts.{with_instr, Draft, Fails, Made, Makes, an_entry, fresh_for, from, in_field, then_make}
use Rattle.lower_base.specs.Operators.{fold_of, assign_op_of, is_signed}
use Rattle.lower_comm.specs.Messages.{sent_value, all_somewhere, assigned, communicated, each_located, index_coordinate, indexed, indexed_field, located, located_at, part_field, sent, sent_to}
use Rattle.paris_code.specs.declared.instr.Instr.TheVariants as I
use Rattle.code_follows.proofs.Following.{Extends, extends_then}
use Rattle.code_follows.proofs.Growing.{as_it_was, extended, then_three}
use Rattle.code_follows.proofs.Settings.{and_one, Setting, layout}
use Rattle.fields_follow.proofs.Values.{and_entry, next_field, with_entry}
use Rattle.cstar_base.specs.declared.operators.Place.{Place}
use Rattle.cstar_tree.specs.declared.syntax.AssignOp.{AssignOp}
use Rattle.cstar_tree.specs.declared.typed.TExpr.{TExpr, Row_of-TExpr, items-the_row-TExpr, items_shown-the_row-TExpr-0, out-TExpr}
use Rattle.cstar_tree.specs.declared.typed.TExpr as T
use Rattle.cstar_tree.specs.declared.typed.Typed.{Typed}
use Rattle.cstar_tree.specs.declared.typed.ValueType.{ValueType}
use Rattle.cstar_tree.specs.declared.typed.Variable.{Variable}
use Rattle.cstar_tree.specs.Typed.{type_of}
use Rattle.lower_base.specs.declared.emit.Out.{Out}
use Rattle.lower_base.specs.declared.emit.Out.TheVariants as O
use Rattle.lower_base.specs.Constants.{word_in}
use Rattle.lower_base.specs.Layouts.{Layout, field_of}
use Rattle.lower_expr.specs.declared.operands.Own.{Own}
use Rattle.lower_expr.specs.declared.spots.Spot.{Spot}
use Rattle.lower_expr.specs.declared.spots.Spot.TheVariants as S
use Rattle.lower_expr.specs.Effects.{assignment_effect, effect_of, variable_assigned, whole_of, writes_itself}
use Rattle.lower_expr.specs.Lengths.{bare, is_send, is_sent}
use Rattle.lower_expr.specs.Operands.{are_quiet, own_of}
use Rattle.lower_expr.specs.Spots.{stored}
use Rattle.lower_expr.specs.Values.{assign_by, assigned_by, indexed_spot, lowest, sent_by, spot_of, spread_by, taken_bits, value_of, values_of}
use Rattle.paris_code.specs.declared.operands.Field.{Field}
use Rattle.paris_code.specs.declared.program.Owner.TheVariants as W
use Rattle.source_meaning.specs.Expressions.{located as located_in}
use Rattle.source_meaning.specs.State.{State}
use Rattle.source_meaning.specs.Values.{Active, Scope}
use Rattle.source_meaning.proofs.ConstantLaws.{Boxed}
use Rattle.fields_follow.proofs.RouterCode.{unknown}

-- a target, maybe in brackets, is that of another expression
pub record IsLike (t : Typed) (l : Layout) (target left : TExpr) : Type 0 where
  pub type : type_of target ≡ type_of left
  pub spot : (d : Draft) → spot_of t l target d ≡ spot_of t l left d
  pub means : (scope : Scope) (active : Active) (st : State) → located_in scope target active st ≡ located_in scope left active st
  pub indexed : indexed target ≡ indexed left
  pub sends : is_send target ≡ is_send left
  pub own : own_of 1 target ≡ own_of 1 left

abbrev pub itself : (t : Typed) (l : Layout) (target : TExpr) → IsLike t l target target
itself t l target = record { type = refl; spot = λ d. refl; means = λ scope active st. refl; indexed = refl; sends = refl; own = refl }

-- so it is of what stands within brackets
pub like_inner : (t : Typed) (l : Layout) (target : TExpr) (ty : ValueType) (p : Boxed) (inner : TExpr) → ty ≡ type_of inner → IsLike t l target (T.Brackets' ty p inner) → IsLike t l target inner
unfolding spot_of located_in indexed is_send own_of bare
like_inner t l target ty p inner same h = record { type = h.type ∙ same; spot = h.spot; means = h.means; indexed = h.indexed; sends = h.sends; own = h.own }

module _ (g : Setting) where
  -- the send itself, to this address, behind the value and the field of the variable
  abbrev pub send_at : ValueType → AssignOp → TExpr → Field → Field → Field → Draft → Made Out
  send_at ty op value at f dest d = then_make (sent_to (assign_op_of op) (is_signed (type_of value).elem) ty.elem dest at f d) (λ _ last. Makes O.Nothing last)

  -- what is sent of a value in a field
  unfoldable pub sends_out : Variable → ValueType → AssignOp → TExpr → Field → Out → Draft → Made Out
  sends_out x ty op value at (O.Field f) d = then_make (field_of g.typed (layout g) x 0 d) (λ dest after. send_at ty op value at f dest after)
  sends_out x ty op value at out d = Fails

  sent_value_extends : (o : Op) (f : Field) (d : Draft) → Extends g d (sent_value o f d)
  unfolding Extends sent_value an_entry then_make
  sent_value_extends P.Sub f d = (0 + 1, extended d (with_entry f.set 32 W.Own d) (with_instr (I.Negate (next_field f.set 32 d) f) (with_entry f.set 32 W.Own d)) 0 1 (and_entry f.set 32 W.Own d) (and_one g (I.Negate (next_field f.set 32 d) f) (with_entry f.set 32 W.Own d)))
  sent_value_extends _ f d = (0, as_it_was d)

  sent_to_extends : (o : Option Op) (signed : Bool) (kind : Elem) (dest at f : Field) (d : Draft) → Extends g d (sent_to o signed kind dest at f d)
  unfolding Extends sent_to
  sent_to_extends None signed kind dest there f d = (1, and_one g (I.SendWithOverwrite dest kind there f) d)
  sent_to_extends (Some o) signed kind dest there f d =
      extends_then g d (sent_value o f d) (λ source after. Makes O.Nothing (with_instr (I.SendWithCombiner (fold_of o signed) dest kind there source) after)) (sent_value_extends o f d) (λ source after. (1, and_one g (I.SendWithCombiner (fold_of o signed) dest kind there source) after))

  -- it goes on from where it stands
  pub sends_extend : (x : Variable) (ty : ValueType) (op : AssignOp) (value : TExpr) (at : Field) (out : Out) (d : Draft) → Extends g d (field_of g.typed (layout g) x 0 d) → Extends g d (sends_out x ty op value at out d)
  unfolding Extends sends_out
  sends_extend x ty op value there (O.Field f) d found =
      extends_then g d (field_of g.typed (layout g) x 0 d) (λ dest after. send_at ty op value there f dest after) found
      (λ dest after. extends_then g after (sent_to (assign_op_of op) (is_signed (type_of value).elem) ty.elem dest there f after) (λ _ last. Makes O.Nothing last) (sent_to_extends (assign_op_of op) (is_signed (type_of value).elem) ty.elem dest there f after) (λ _ last. (0, as_it_was last)))
  sends_extend x ty op value there (O.Scalar r) d found = tt
  sends_extend x ty op value there O.Nothing d found = tt

  -- what follows the address
  abbrev behind_spot : (Draft → Made Out) → TExpr → Spot → Draft → Made Out
  behind_spot code e there d = then_make (code d) (λ v after. then_make (stored g.typed (layout g) e there v after) (λ _ last. Makes O.Nothing last))

  abbrev pub spot_at : ℕ → Place → List TExpr → Field → List Out → Draft → Made Spot
  spot_at set place items at parts d = if all_somewhere parts then Makes (S.Indexed (O.Field at)) (each_located place set items (map index_coordinate parts) at d) else Fails

  -- it is what is stored there
  stored_is : (ty : ValueType) (place : Place) (op : AssignOp) (p q : Boxed) (target value : TExpr) (x : Variable) (at : Field) (out : Out) (d : Draft) → indexed target ≡ Some x → ty ≡ type_of target
      → then_make (stored g.typed (layout g) (T.Assign' ty place op p target q value) (S.Indexed (O.Field at)) out d) (λ _ last. Makes O.Nothing last) ≡ sends_out x ty op value at out d
  unfolding stored communicated out-TExpr Carrier.out assigned sent then_make in_field from indexed_field part_field sends_out
  stored_is ty place op p q target value x at out d of same =
      ap (λ (o : Option Variable). then_make (then_make (then_make (from o (λ y. field_of g.typed (layout g) y 0 d)) (sending out (type_of target))) (λ _ after. Makes out after)) finally) of
      ∙ ap (λ (y : ValueType). then_make (then_make (then_make (field_of g.typed (layout g) x 0 d) (sending out y)) (λ _ after. Makes out after)) finally) (sym same) ∙ by out
    where
      sending : Out → ValueType → Field → Draft → Made Out
      sending out y dest after = in_field out (λ f. sent_to (assign_op_of op) (is_signed (type_of value).elem) y.elem dest at f after)

      finally : Out → Draft → Made Out
      finally _ last = Makes O.Nothing last

      to_field : (f : Field) (made : Made Field) → then_make (then_make (then_make made (sending (O.Field f) ty)) (λ _ after. Makes (O.Field f) after)) finally ≡ then_make made (λ dest after. send_at ty op value at f dest after)
      to_field f (Makes dest after) = then_three (sent_to (assign_op_of op) (is_signed (type_of value).elem) ty.elem dest at f after) (λ _ last. Makes (O.Field f) last) finally
      to_field f Fails = refl

      none : Field → Draft → Made Out
      none dest after = Fails

      nowhere : (out : Out) (made : Made Field) → then_make (then_make (then_make made none) (λ _ after. Makes out after)) finally ≡ Fails
      nowhere out (Makes dest after) = refl
      nowhere out Fails = refl

      by : (out : Out) → then_make (then_make (then_make (field_of g.typed (layout g) x 0 d) (sending out ty)) (λ _ after. Makes out after)) finally ≡ sends_out x ty op value at out d
      by (O.Field f) = to_field f (field_of g.typed (layout g) x 0 d)
      by (O.Scalar r) = nowhere (O.Scalar r) (field_of g.typed (layout g) x 0 d)
      by O.Nothing = nowhere O.Nothing (field_of g.typed (layout g) x 0 d)

  spot_is : (ty : ValueType) (place : Place) (r : _) (indexes : Row_of-TExpr _) (x : Variable) (of : ℕ) (at : Field) (parts : List Out) (d : Draft)
      → then_make (located (T.LeftIndex' ty place r indexes x of) parts (O.Field at) d) (λ out after. Makes (S.Indexed out) after) ≡ spot_at of place (items-the_row-TExpr _ indexes) at parts d
  unfolding located out-TExpr Carrier.out located_at then_make
  spot_is ty place r indexes x of at parts d =
      ap (λ (xs : List TExpr). then_make (located_at place of xs parts (O.Field at) d) (λ out after. Makes (S.Indexed out) after)) (items_shown-the_row-TExpr-0 r indexes)
      ∙ by (all_somewhere parts)
    where
      by : (b : Bool) → then_make (if b then Makes (O.Field at) (each_located place of (items-the_row-TExpr _ indexes) (map index_coordinate parts) at d) else Fails) (λ out after. Makes (S.Indexed out) after) ≡ (if b then Makes (S.Indexed (O.Field at)) (each_located place of (items-the_row-TExpr _ indexes) (map index_coordinate parts) at d) else Fails)
      by true = refl
      by false = refl

  -- the code of its value, and then the send
  abbrev pub value_sent : ℕ → ℕ → Variable → ValueType → AssignOp → TExpr → Field → Draft → Made Out
  value_sent bits set x ty op value at d = then_make (spread_by (λ y. value_of g.typed (layout g) bits value y) value set bits d) (λ out after. sends_out x ty op value at out after)

  -- all of it
  pub send_code : (aty ty : ValueType) (place_of place : Place) (op : AssignOp) (p q : Boxed) (r : _) (indexes : Row_of-TExpr _) (target value : TExpr) (x : Variable) (set of bits : ℕ) (d : Draft) → IsLike g.typed (layout g) target (T.LeftIndex' ty place_of r indexes x of) → ty.shape ≡ Some set → aty ≡ type_of target
      → taken_bits aty.elem.bits op target value ≡ bits
      → effect_of g.typed (layout g) (T.Assign' aty place op p target q value) d
      ≡ then_make (values_of g.typed (layout g) false (are_quiet indexes) indexes [] (with_entry set 32 W.Own d)) (λ parts between. then_make (spot_at of place_of (items-the_row-TExpr _ indexes) (next_field set 32 d) parts between)
      (λ _ after. value_sent bits set x aty op value (next_field set 32 d) after))
  unfolding effect_of assignment_effect value_of assign_by sent_by spot_of indexed_spot fresh_for an_entry then_make own_of is_send is_sent bare indexed
  send_code aty ty place_of place op p q r indexes target value x set of bits d like shaped same taken =
      ap (λ (o : Option Own). elim (elim o as (λ _. Option Own) [ Some own ↦ if writes_itself own op (type_of target).elem value then Some own else None | None ↦ None ]) as (λ _. Made Out) [ Some own ↦ then_make (whole_of g.typed (layout g) target own d) (λ dest after. variable_assigned g.typed (layout g) op place target value dest after) | None ↦ value_of g.typed (layout g) aty.elem.bits e d ]) like.own
      ∙ ap (λ (b : Bool). if b then sent_by g.typed (layout g) e (λ y. spot_of g.typed (layout g) target y) (λ z. spread_by (code took) value (unwrap_or (type_of target).shape 0) took z) d else lowest aty.elem.bits (assigned_by g.typed (layout g) e took (assign_op_of op) place target value (type_of target).shape (λ y. spot_of g.typed (layout g) target y) (code took) d)) (like.sends ∙ ap is_some shaped)
      ∙ ap (λ (y : ValueType). then_make (spot_of g.typed (layout g) target d) (λ there after. behind_spot (λ z. spread_by (code took) value (unwrap_or y.shape 0) took z) e there after)) like.type
      ∙ ap (λ (o : Option ℕ). then_make (spot_of g.typed (layout g) target d) (λ there after. behind_spot (λ z. spread_by (code took) value (unwrap_or o 0) took z) e there after)) shaped
      ∙ ap (λ (m : ℕ). then_make (spot_of g.typed (layout g) target d) (λ there after. behind_spot (λ z. spread_by (code m) value set m z) e there after)) taken
      ∙ ap (λ (m : Made Spot). then_make m next) (like.spot d)
      ∙ ap (λ (o : Option ℕ). then_make (elim o as (λ _. Made Spot) [ Some position ↦ then_make (word_in (layout g) position d) (λ r after. Makes (S.Indexed (O.Scalar r)) after) | None ↦ then_make (fresh_for ty.shape 32 d) (λ at begun. then_make (codes [] begun) (λ parts between. then_make (located left parts at between) (λ out after. Makes (S.Indexed out) after))) ]) next) (unknown g.typed ty place_of r indexes x set of shaped)
      ∙ ap (λ (o : Option ℕ). then_make (then_make (fresh_for o 32 d) (λ at begun. then_make (codes [] begun) (λ parts between. then_make (located left parts at between) (λ out after. Makes (S.Indexed out) after)))) next) shaped
      ∙ then_three (codes [] (with_entry set 32 W.Own d)) (λ parts between. then_make (located left parts (O.Field at) between) (λ out after. Makes (S.Indexed out) after)) next
      ∙ ap (λ (f : List Out → Draft → Made Spot). then_make (codes [] (with_entry set 32 W.Own d)) (λ parts between. then_make (f parts between) next)) (λ j parts between. spot_is ty place_of r indexes x of at parts between j)
      ∙ ap (λ (f : List Out → Draft → Made Out). then_make (codes [] (with_entry set 32 W.Own d)) f) (λ j parts between. by (all_somewhere parts) (each_located place_of of items (map index_coordinate parts) at between) j)
    where
      e : TExpr
      e = T.Assign' aty place op p target q value

      left : TExpr
      left = T.LeftIndex' ty place_of r indexes x of

      items : List TExpr
      items = items-the_row-TExpr _ indexes

      at : Field
      at = next_field set 32 d

      took : ℕ
      took = taken_bits aty.elem.bits op target value

      code : ℕ → Draft → Made Out
      code m y = value_of g.typed (layout g) m value y

      codes : List Out → Draft → Made (List Out)
      codes outs y = values_of g.typed (layout g) false (are_quiet indexes) indexes outs y

      next : Spot → Draft → Made Out
      next there after = behind_spot (λ z. spread_by (code bits) value set bits z) e there after

      by : (b : Bool) (y : Draft) → then_make (if b then Makes (S.Indexed (O.Field at)) y else Fails) next ≡ then_make (if b then Makes (S.Indexed (O.Field at)) y else Fails) (λ _ after. value_sent bits set x aty op value at after)
      by true y = ap (λ (f : Out → Draft → Made Out). then_make (spread_by (code bits) value set bits y) f) (λ j v after. stored_is aty place op p q target value x at v after like.indexed same j)
      by false y = refl
