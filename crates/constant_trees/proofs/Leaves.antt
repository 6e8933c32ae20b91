-- The constants that have no parts in the typed tree: numbers, and what is asked of shapes.
use Rattle.std.proofs.Common.{◌≡◌, ℕ, ◌<◌, ◌^◌, Bool, true, false, if◌then◌else◌, List, length, slice_get, Option, Some, None, refl, sym, ap, subst, ◌∙◌}
use Rattle.std.specs.List.{All}
use Rattle.std.specs.Option.{option_map}
use Rattle.std.proofs.lemmas.List.Elements.{All-get_or}
use Rattle.std.proofs.lemmas.Option.{get_or_from_slice_get, slice_get_within}
use Rattle.cstar_tree.specs.declared.syntax.ShapeRef.{ShapeRef}
use Rattle.cstar_tree.specs.declared.typed.TExpr as T
use Rattle.cstar_tree.specs.Constants.{Constant, about_shape, an_int, axis_among, extent_at, extents_meant, number, number_meant, over_one, product}
use Rattle.cstar_tree.specs.Conversions.{int, scalar, unsigned}
use Rattle.cstar_tree.specs.Scopes.{Here, extents_of, shape_of}
use Rattle.source_meaning.specs.Constants.{is_constant, value_of}
use Rattle.constant_trees.specs.Laws.{IsAsWritten, IsConstant}
use Rattle.constant_trees.specs.Words.{HasFewPositions, IsCounted}
use Rattle.constant_trees.proofs.Words.{word_fits}

pub a_number : (value : ℕ) (u : Bool) → value < 2 ^ 32 → IsConstant (T.Number (scalar (if u then unsigned else int)) value) (record { elem = (if u then unsigned else int); word = Some value })
unfolding is_constant value_of
a_number value true few = record { form = word_fits value few; scalar = refl; elem = refl; value = refl; fits = few }
a_number value false few = record { form = word_fits value few; scalar = refl; elem = refl; value = refl; fits = few }

element : {X : Type 0} (P : X → Type 0) (xs : List X) (i : ℕ) (x : X) → All P xs → slice_get xs i ≡ Some x → P x
element P xs i x all is = subst P (get_or_from_slice_get xs i x x is) (All-get_or P xs i x (slice_get_within xs i x is) all)

counted : (here : Here) (shape : ℕ) (extents : List ℕ) → HasFewPositions here → extents_of here shape ≡ Some extents → IsCounted extents
unfolding extents_of
counted here shape extents few known = element IsCounted here.shapes shape extents few known

meant : (here : Here) (written : ShapeRef) {shape : ℕ} {extents : List ℕ} → shape_of here written ≡ Some shape → extents_of here shape ≡ Some extents → extents_meant here (shape_of here written) ≡ Some extents
meant here written is known = ap (extents_meant here) is ∙ known

pub positions : (here : Here) (written : ShapeRef) {shape : ℕ} {extents : List ℕ} → HasFewPositions here → shape_of here written ≡ Some shape → extents_of here shape ≡ Some extents →
    IsAsWritten (about_shape (λ ns. Some (product ns)) (extents_meant here (shape_of here written))) (T.PositionsOf (scalar int) shape (product extents))
unfolding is_constant value_of
positions here written {shape = shape} {extents = extents} few is known =
    let c = counted here shape extents few known in
    subst (λ (o : Option (List ℕ)). IsAsWritten (about_shape (λ ns. Some (product ns)) o) (T.PositionsOf (scalar int) shape (product extents))) (sym (meant here written is known))
    (record { form = word_fits (product extents) c.positions; scalar = refl; elem = refl; value = refl; fits = c.positions })

pub rank : (here : Here) (written : ShapeRef) {shape : ℕ} {extents : List ℕ} → HasFewPositions here → shape_of here written ≡ Some shape → extents_of here shape ≡ Some extents →
    IsAsWritten (about_shape (λ ns. Some (length ns)) (extents_meant here (shape_of here written))) (T.RankOf (scalar int) shape (length extents))
unfolding is_constant value_of
rank here written {shape = shape} {extents = extents} few is known =
    let c = counted here shape extents few known in
    subst (λ (o : Option (List ℕ)). IsAsWritten (about_shape (λ ns. Some (length ns)) o) (T.RankOf (scalar int) shape (length extents))) (sym (meant here written is known))
    (record { form = word_fits (length extents) c.rank; scalar = refl; elem = refl; value = refl; fits = c.rank })

-- the axis of a shape is a constant, since it has a number
extent_named : (axis : Option Constant) (of : Option (List ℕ)) (extents : List ℕ) (n extent : ℕ) → of ≡ Some extents → axis_among extents (number_meant axis) ≡ Some n → slice_get extents n ≡ Some extent →
    over_one (λ k. about_shape (λ ns. extent_at ns (axis_among ns (number k))) of) axis ≡ Some (an_int extent)
unfolding over_one
extent_named None of extents n extent is among at_axis = absurd (cc)
extent_named (Some k) of extents n extent is among at_axis =
    ap (about_shape (λ ns. extent_at ns (axis_among ns (number k)))) is ∙ (ap (λ (o : Option ℕ). option_map an_int (extent_at extents o)) among ∙ ap (option_map an_int) at_axis)

pub along : (here : Here) (written : ShapeRef) (axis : Option Constant) {shape n extent : ℕ} {extents : List ℕ} → HasFewPositions here → shape_of here written ≡ Some shape → extents_of here shape ≡ Some extents →
    axis_among extents (number_meant axis) ≡ Some n → slice_get extents n ≡ Some extent →
    IsAsWritten (over_one (λ k. about_shape (λ ns. extent_at ns (axis_among ns (number k))) (extents_meant here (shape_of here written))) axis) (T.DimOf (scalar int) shape n extent)
unfolding is_constant value_of
along here written axis {shape = shape} {n = n} {extent = extent} {extents = extents} few is known among at_axis =
    let c = counted here shape extents few known in
    let small = element (λ (m : ℕ). m < 2 ^ 32) extents n extent c.each at_axis in
    subst (λ (o : Option Constant). IsAsWritten o (T.DimOf (scalar int) shape n extent)) (sym (extent_named axis (extents_meant here (shape_of here written)) extents n extent (meant here written is known) among at_axis))
    (record { form = word_fits extent small; scalar = refl; elem = refl; value = refl; fits = small })
