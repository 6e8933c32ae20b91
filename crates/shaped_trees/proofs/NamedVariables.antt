-- What the rules of typing give an expression names the variables that its place knows.
use Rattle.std.proofs.Common.{◌≡◌, ℕ, Bool, List, length, slice_get, Option, Some, None, refl, ap, ◌∙◌, sym, subst}
use Rattle.std.specs.List.{All}
use Rattle.std.proofs.lemmas.List.Elements.{All-nil, All-cons, All-head, All-tail}
use Rattle.cstar_base.specs.declared.elem.Elem.{Elem}
use Rattle.cstar_base.specs.declared.operators.SegmentMode.{SegmentMode}
use Rattle.cstar_tree.specs.declared.syntax.Expr.{Expr}
use Rattle.cstar_tree.specs.declared.syntax.Name.{Name}
use Rattle.cstar_tree.specs.declared.typed.Instance.{Instance}
use Rattle.cstar_tree.specs.declared.typed.TExpr.{TExpr, items_hidden-the_row-TExpr-0}
use Rattle.cstar_tree.specs.declared.typed.TExpr as T
use Rattle.cstar_tree.specs.declared.typed.Typed.{Typed}
use Rattle.cstar_tree.specs.declared.typed.ValueType.{ValueType}
use Rattle.cstar_tree.specs.declared.typed.Variable.{Variable}
use Rattle.cstar_tree.specs.Conversions.{AreFitted, ArePromoted, AreSpread, IsConverted, IsFitted, IsSpread, int, parallel, scalar, shape_among}
use Rattle.cstar_tree.specs.Conversions as C
use Rattle.cstar_tree.specs.ExpressionTypes.{IsBit, Types, TypesEach, TypesIndexes}
use Rattle.cstar_tree.specs.ExpressionTypes as X
use Rattle.cstar_tree.specs.Headers.{Program}
use Rattle.cstar_tree.specs.Scopes.{Here, extents_of, index_place, meaning}
use Rattle.code_lengths.specs.Naming.{HasAxes, HasBits, HasVariable, Knows, NamesVariables, extents_in}
use Rattle.shaped_trees.proofs.Rows.{list_names_variables}
use Rattle.shaped_trees.proofs.Standing.{as_many_indexes, as_many_spread}

module _ (t : Typed) (i : Instance) (n : ℕ) where
  converted : {e f : TExpr} {elem : Elem} → IsConverted e elem f → NamesVariables t i n e → NamesVariables t i n f
  unfolding NamesVariables
  converted (C.as_it_is same) names = names
  converted (C.by_node operand is other) names = subst (NamesVariables t i n) (sym is) names

  spread : {e f : TExpr} {wanted : Option ℕ} → IsSpread e wanted f → NamesVariables t i n e → NamesVariables t i n f
  unfolding NamesVariables
  spread C.none_wanted names = names
  spread (C.is_parallel shape) names = names
  spread (C.at_each_position operand is none) names = subst (NamesVariables t i n) (sym is) names

  pub fitted : {e f : TExpr} {ty : ValueType} → IsFitted e ty f → NamesVariables t i n e → NamesVariables t i n f
  fitted fit names = spread fit.spread (converted fit.conversion names)

  each_promoted : {es fs : List TExpr} → ArePromoted es fs → All (NamesVariables t i n) es → All (NamesVariables t i n) fs
  each_promoted C.none ns = All-nil (NamesVariables t i n)
  each_promoted (C.next {e = e} {p = f} {es = es} {ps = fs} c more) ns =
      All-cons (NamesVariables t i n) f fs (converted c (All-head (NamesVariables t i n) e es ns)) (each_promoted more (All-tail (NamesVariables t i n) e es ns))

  each_spread : {shape : Option ℕ} {es fs : List TExpr} → AreSpread shape es fs → All (NamesVariables t i n) es → All (NamesVariables t i n) fs
  each_spread C.none ns = All-nil (NamesVariables t i n)
  each_spread (C.next {e = e} {p = f} {es = es} {ps = fs} s more) ns =
      All-cons (NamesVariables t i n) f fs (spread s (All-head (NamesVariables t i n) e es ns)) (each_spread more (All-tail (NamesVariables t i n) e es ns))

  each_fitted : {types : List ValueType} {es fs : List TExpr} → AreFitted types es fs → All (NamesVariables t i n) es → All (NamesVariables t i n) fs
  each_fitted C.none ns = All-nil (NamesVariables t i n)
  each_fitted (C.next {e = e} {f = f} {es = es} {fs = fs} takes fit more) ns =
      All-cons (NamesVariables t i n) f fs (fitted fit (All-head (NamesVariables t i n) e es ns)) (each_fitted more (All-tail (NamesVariables t i n) e es ns))

  bits : {here : Here} {mode : SegmentMode} {name : Option Name} {v : Option Variable} → IsBit here mode name v → Knows t i n here → HasBits t i n v
  bits X.no_bit k = tt
  bits (X.bit {n = name} {v = v} {elem = elem} {shape = shape} segments is one current) k = (parallel elem shape, refl, k.0 name.word v (record { value = parallel elem shape; array = None }) is)

  -- a shape that a place knows has these extents
  extents_known : (here : Here) (shape : ℕ) (extents : List ℕ) → Knows t i n here → extents_of here shape ≡ Some extents → slice_get (extents_in t) shape ≡ Some extents
  unfolding extents_of
  extents_known here shape extents k known = subst (λ (shapes : List (List ℕ)). slice_get shapes shape ≡ Some extents) k.1 known

  module _ (program : Program) where
    -- the same names are known at the place of an index
    in_index : (here : Here) (word : List ℕ) (axis : ℕ) → Knows t i n here → Knows t i n (index_place here word axis)
    unfolding index_place meaning
    in_index here word axis k = k

    mutual
      unfolding NamesVariables meaning

      pub named : {here : Here} {e : Expr} {f : TExpr} {has_value : Bool} → Types program here e f has_value → Knows t i n here → NamesVariables t i n f
      named X.number k = tt
      named (X.name {n = name} {v = v} {ty = ty} is at_hand) k = k.0 name.word v (record { value = ty; array = None }) is
      named (X.element {n = name} {v = v} {ty = ty} {length = length} index j is at none at_hand) k = ((length, k.0 name.word v (record { value = ty; array = Some length }) is), named at k)
      named (X.dot is) k = tt
      named (X.left_index {here = here} {p = p} {n = name} {v = v} {elem = elem} {of = of} {extents = extents} {given = ts} indexes ss is known as_many are spreads) k = (
        k.0 name.word v (record { value = parallel elem of; array = None }) is,
        list_names_variables t i n (T.LeftIndex (record { elem = elem; shape = shape_among ts }) p ss v of) ss (items_hidden-the_row-TExpr-0 ss) (each_spread spreads (named_indexes are k)),
        (extents, extents_known here of extents k known, ap length (items_hidden-the_row-TExpr-0 ss) ∙ (sym (as_many_spread spreads) ∙ (sym (as_many_indexes are) ∙ as_many))),
      )
      named (X.brackets inner j at) k = named at k
      named (X.assign target value u f at at_value place storable fit) k = (named at k, fitted fit (named at_value k))
      named (X.choice test second third c x y at_test at_second at_third is fit_second fit_third) k = (named at_test k, fitted fit_second (named at_second k), fitted fit_third (named at_third k))
      named (X.operation left right x y at_left at_right is fit_left fit_right) k = (fitted fit_left (named at_left k), fitted fit_right (named at_right k))
      named (X.logical_or left right x y at_left at_right sp) k = (named at_left k, spread sp (named at_right k))
      named (X.logical_and left right x y at_left at_right sp) k = (named at_left k, spread sp (named at_right k))
      named (X.signed operand x sign at conversion) k = converted conversion (named at k)
      named (X.logical_not operand x at) k = named at k
      named (X.reduction operand x at parallel conversion) k = converted conversion (named at k)
      named (X.step_before operand x at is) k = named at k
      named (X.step_behind operand x at is) k = named at k
      named (X.casts chain operand elems x at none are) k = named at k
      named (X.parallel_cast operand x is at_hand at sp) k = spread sp (named at k)
      named (X.call {instance = instance} {ty = ty} arguments fs means is around leads reached types callable gives are fits) k =
          list_names_variables t i n (T.Call ty instance fs) fs (items_hidden-the_row-TExpr-0 fs) (each_fitted fits (named_each are k))
      named (X.call_outside {ty = ty} arguments ts means is around types callable gives are taken) k =
          list_names_variables t i n (T.Call ty 0 ts) ts (items_hidden-the_row-TExpr-0 ts) (named_each are k)
      named (X.pcoord axis current known is) k = tt
      named (X.positions_of is known) k = tt
      named (X.rank_of is known) k = tt
      named (X.dim_of {here = here} {shape = shape} {extents = extents} axis is known among at_axis) k = (extents, extents_known here shape extents k known, at_axis)
      named (X.scan source axis x current known is segments at parallel conversion) k = (bits segments k, converted conversion (named at k))
      named (X.enumerate axis current known is segments) k = bits segments k
      named (X.printf arguments pieces values are none pieces_are as_many promoted) k =
          list_names_variables t i n (T.Printf (scalar int) pieces values) values (items_hidden-the_row-TExpr-0 values) (each_promoted promoted (named_each are k))
      named X.getchar k = tt

      named_each : {here : Here} {es : List Expr} {ts : List TExpr} → TypesEach program here es ts → Knows t i n here → All (NamesVariables t i n) ts
      named_each X.no_expression k = All-nil (NamesVariables t i n)
      named_each (X.next_expression {t = f} {ts = ts} at more) k = All-cons (NamesVariables t i n) f ts (named at k) (named_each more k)

      named_indexes : {here : Here} {name : Name} {axis : ℕ} {es : List Expr} {ts : List TExpr} → TypesIndexes program here name axis es ts → Knows t i n here → All (NamesVariables t i n) ts
      named_indexes X.no_index k = All-nil (NamesVariables t i n)
      named_indexes (X.next_index {here = here} {n = name} {axis = axis} {t = f} {ts = ts} at more) k =
          All-cons (NamesVariables t i n) f ts (named at (in_index here name.word axis k)) (named_indexes more k)
