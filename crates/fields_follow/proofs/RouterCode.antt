-- The code of a get by the router: that of its indexes, their check, the address, and the get itself.
use denote.Hole.Carrier
use Rattle.std.proofs.Common.{◌≡◌, ◌∙◌, ℕ, ◌&&◌, Bool, true, false, List, [], map, Option, Some, None, refl, ap, if◌then◌else◌}
use Rattle.std.specs.Prelude.{is_none, is_some, nat_lt}
use Rattle.constant_trees.proofs.Bringing.{right_false}
use Rattle.cstar_base.specs.declared.elem.Elem.{Elem}
use Rattle.cstar_base.specs.declared.operators.Place.{Place}
use Rattle.cstar_tree.specs.declared.typed.TExpr.{TExpr, Row_of-TExpr, items-the_row-TExpr, items_shown-the_row-TExpr-0, out-TExpr}
use Rattle.cstar_tree.specs.declared.typed.TExpr as T
use Rattle.cstar_tree.specs.declared.typed.Typed.{Typed}
use Rattle.cstar_tree.specs.declared.typed.ValueType.{ValueType}
use Rattle.cstar_tree.specs.declared.typed.Variable.{Variable}
use Rattle.lower_base.specs.declared.emit.Out.{Out}
use Rattle.lower_base.specs.declared.emit.Out.TheVariants as O
use Rattle.lower_base.specs.Drafts.{Draft, Fails, Made, Makes, an_entry, first_bits, fresh_for, in_field, then_make, with_instr}
use Rattle.lower_base.specs.Constants.{word_in}
use Rattle.lower_base.specs.Layouts.{field_of}
use Rattle.lower_comm.specs.Messages.{all_somewhere, communicated, each_located, index_coordinate, is_extended, located, located_at, read_at}
use Rattle.lower_comm.specs.News.{all_go_by_news, goes_by_news}
use Rattle.lower_expr.specs.declared.spots.Spot.{Spot}
use Rattle.lower_expr.specs.declared.spots.Spot.TheVariants as S
use Rattle.lower_expr.specs.Lengths.{bare}
use Rattle.lower_expr.specs.Positions.{known_position, position_in}
use Rattle.lower_expr.specs.Spots.{loaded}
use Rattle.lower_expr.specs.Values.{Codes, index_read_to, indexed_spot, news_to, read_to}
use Rattle.paris_code.specs.declared.instr.Instr.TheVariants as I
use Rattle.paris_code.specs.declared.operands.Field.{Field}
use Rattle.paris_code.specs.declared.program.Owner.TheVariants as W
use Rattle.code_follows.proofs.Growing.{then_three}
use Rattle.code_follows.proofs.Settings.{Setting, layout}
use Rattle.fields_follow.proofs.Values.{next_field, with_entry}

-- it goes by the router where an index does not go by NEWS
routed : (ty : ValueType) (place : Place) (p : _) (indexes : Row_of-TExpr _) (x : Variable) (of : ℕ) → all_go_by_news of 0 (items-the_row-TExpr _ indexes) ≡ false → goes_by_news (T.LeftIndex' ty place p indexes x of) ≡ false
unfolding goes_by_news out-TExpr Carrier.out
routed ty place p indexes x of goes = ap (λ (xs : List TExpr). is_some ty.shape && all_go_by_news of 0 xs) (items_shown-the_row-TExpr-0 p indexes) ∙ right_false (is_some ty.shape) (all_go_by_news of 0 (items-the_row-TExpr _ indexes)) goes

-- no position of a parallel one is known
pub unknown : (t : Typed) (ty : ValueType) (place : Place) (p : _) (indexes : Row_of-TExpr _) (x : Variable) (set of : ℕ) → ty.shape ≡ Some set → known_position t (T.LeftIndex' ty place p indexes x of) ≡ None
unfolding known_position out-TExpr Carrier.out
unknown t ty place p indexes x set of shaped = ap (λ (xs : List TExpr). if is_none ty.shape then position_in t of xs else None) (items_shown-the_row-TExpr-0 p indexes) ∙ ap (λ (o : Option ℕ). if is_none o then position_in t of (items-the_row-TExpr _ indexes) else None) shaped

-- the get of a field, straight to the destination, or to a field as long as it, from which it is extended
abbrev pub plain_get : Field → Field → Field → Draft → Draft
plain_get dest at source d = with_instr (I.Get dest at (first_bits dest.len source)) d

abbrev pub for_got : Field → Field → Draft → Draft
for_got dest source d = with_entry dest.set source.len W.Own d

abbrev pub got_field : Field → Field → Draft → Field
got_field dest source d = next_field dest.set source.len d

abbrev pub wide_get : Field → Field → Field → Draft → Draft
wide_get dest at source d = with_instr (I.Get (got_field dest source d) at source) (for_got dest source d)

unfoldable pub got : Elem → Field → Field → Field → Draft → Draft
got elem dest at source d = if nat_lt elem.bits dest.len then with_instr (I.Move elem.signed dest (got_field dest source d)) (wide_get dest at source d) else plain_get dest at source d

module _ (g : Setting) where
  -- of the field of a variable: that is the code behind the address
  abbrev pub got_from : Variable → Elem → Field → Field → Draft → Made Out
  got_from x elem dest at d = then_make (field_of g.typed (layout g) x 0 d) (λ source after. Makes (O.Field dest) (got elem dest at source after))

  got_is : (ty : ValueType) (place : Place) (p : _) (indexes : Row_of-TExpr _) (x : Variable) (of : ℕ) (dest at : Field) (d : Draft) → loaded g.typed (layout g) (T.LeftIndex' ty place p indexes x of) (S.Indexed (O.Field at)) (O.Field dest) d ≡ got_from x ty.elem dest at d
  unfolding loaded bare communicated out-TExpr Carrier.out then_make read_at in_field an_entry is_extended got
  got_is ty place p indexes x of dest at d =
      ap (λ (xs : List TExpr). then_make (then_make (field_of g.typed (layout g) x 0 d) (λ source after. read_at of xs ty.elem source (O.Field at) (O.Field dest) after)) (λ _ after. Makes (O.Field dest) after)) (items_shown-the_row-TExpr-0 p indexes)
      ∙ by (field_of g.typed (layout g) x 0 d)
    where
      each : (source : Field) (e : Draft) (b : Bool) → then_make (if b then then_make (an_entry dest.set source.len W.Own e) (λ h after. Makes (O.Field dest) (with_instr (I.Move ty.elem.signed dest h) (with_instr (I.Get h at source) after))) else Makes (O.Field dest) (plain_get dest at source e)) (λ _ after. Makes (O.Field dest) after)
          ≡ Makes (O.Field dest) (if b then with_instr (I.Move ty.elem.signed dest (got_field dest source e)) (wide_get dest at source e) else plain_get dest at source e)
      each source e true = refl
      each source e false = refl

      by : (m : Made Field) → then_make (then_make m (λ source after. read_at of (items-the_row-TExpr _ indexes) ty.elem source (O.Field at) (O.Field dest) after)) (λ _ after. Makes (O.Field dest) after) ≡ then_make m (λ source after. Makes (O.Field dest) (got ty.elem dest at source after))
      by (Makes source e) = each source e (nat_lt ty.elem.bits dest.len)
      by Fails = refl

  -- behind its indexes
  abbrev pub behind_indexes : Variable → ℕ → ValueType → Place → List TExpr → Field → Field → List Out → Draft → Made Out
  behind_indexes x of ty place items dest at parts d = if all_somewhere parts then got_from x ty.elem dest at (each_located place of items (map index_coordinate parts) at d) else Fails

  behind_is : (ty : ValueType) (place : Place) (p : _) (indexes : Row_of-TExpr _) (x : Variable) (of : ℕ) (dest at : Field) (parts : List Out) (d : Draft)
      → then_make (then_make (located (T.LeftIndex' ty place p indexes x of) parts (O.Field at) d) (λ out after. Makes (S.Indexed out) after)) (λ there after. loaded g.typed (layout g) (T.LeftIndex' ty place p indexes x of) there (O.Field dest) after)
      ≡ behind_indexes x of ty place (items-the_row-TExpr _ indexes) dest at parts d
  unfolding located out-TExpr Carrier.out located_at then_make
  behind_is ty place p indexes x of dest at parts d =
      ap (λ (xs : List TExpr). then_make (then_make (located_at place of xs parts (O.Field at) d) (λ out after. Makes (S.Indexed out) after)) (λ there after. loaded g.typed (layout g) e there (O.Field dest) after)) (items_shown-the_row-TExpr-0 p indexes)
      ∙ by (all_somewhere parts)
    where
      e : TExpr
      e = T.LeftIndex' ty place p indexes x of

      by : (b : Bool) → then_make (then_make (if b then Makes (O.Field at) (each_located place of (items-the_row-TExpr _ indexes) (map index_coordinate parts) at d) else Fails) (λ out after. Makes (S.Indexed out) after)) (λ there after. loaded g.typed (layout g) e there (O.Field dest) after)
          ≡ (if b then got_from x ty.elem dest at (each_located place of (items-the_row-TExpr _ indexes) (map index_coordinate parts) at d) else Fails)
      by true = got_is ty place p indexes x of dest at (each_located place of (items-the_row-TExpr _ indexes) (map index_coordinate parts) at d)
      by false = refl

  -- all of it
  pub router_code : (ty : ValueType) (place : Place) (p : _) (indexes : Row_of-TExpr _) (x : Variable) (set of : ℕ) (dest : Field) (codes : Codes) (spot : Draft → Made Spot) (d : Draft) → ty.shape ≡ Some set → all_go_by_news of 0 (items-the_row-TExpr _ indexes) ≡ false
      → spot d ≡ indexed_spot g.typed (layout g) (T.LeftIndex' ty place p indexes x of) codes d
      → index_read_to g.typed (layout g) (T.LeftIndex' ty place p indexes x of) spot (O.Field dest) d
      ≡ then_make (codes [] (with_entry set 32 W.Own d)) (λ parts between. behind_indexes x of ty place (items-the_row-TExpr _ indexes) dest (next_field set 32 d) parts between)
  unfolding index_read_to read_to indexed_spot fresh_for an_entry then_make
  router_code ty place p indexes x set of dest codes spot d shaped goes spot_is =
      ap (λ (b : Bool). if b then news_to g.typed (layout g) e (O.Field dest) d else read_to g.typed (layout g) e spot (O.Field dest) d) (routed ty place p indexes x of goes)
      ∙ ap (λ (m : Made Spot). then_make m next) spot_is
      ∙ ap (λ (o : Option ℕ). then_make (elim o as (λ _. Made Spot) [ Some position ↦ then_make (word_in (layout g) position d) (λ r after. Makes (S.Indexed (O.Scalar r)) after) | None ↦ then_make (fresh_for ty.shape 32 d) (λ at begun. then_make (codes [] begun) (λ parts between. then_make (located e parts at between) (λ out after. Makes (S.Indexed out) after))) ]) next) (unknown g.typed ty place p indexes x set of shaped)
      ∙ ap (λ (o : Option ℕ). then_make (then_make (fresh_for o 32 d) (λ at begun. then_make (codes [] begun) (λ parts between. then_make (located e parts at between) (λ out after. Makes (S.Indexed out) after)))) next) shaped
      ∙ then_three (codes [] (with_entry set 32 W.Own d)) (λ parts between. then_make (located e parts (O.Field at) between) (λ out after. Makes (S.Indexed out) after)) next
      ∙ ap (λ (f : List Out → Draft → Made Out). then_make (codes [] (with_entry set 32 W.Own d)) f) (λ j parts between. behind_is ty place p indexes x of dest at parts between j)
    where
      e : TExpr
      e = T.LeftIndex' ty place p indexes x of

      at : Field
      at = next_field set 32 d

      next : Spot → Draft → Made Out
      next there after = loaded g.typed (layout g) e there (O.Field dest) after
