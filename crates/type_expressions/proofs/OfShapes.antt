-- What is asked of shapes: the trees that the questions become.
use Rattle.std.proofs.Common.{◌≡◌, ◌<◌, ◌≤◌, ◌-◌, ◌^◌, ℕ, ℤ, pos, negsuc, Bool, true, false, List, length, get_or, Option, Some, None, Box, refl, sym, ap, subst, ◌∙◌, arith}
use Rattle.std.specs.List.{slice_get}
use Rattle.std.specs.Option.{option_map, unwrap_or}
use Rattle.std.specs.Prelude.{min, if◌then◌else◌}
use Rattle.std.specs.declared.alloc.Global.{Global}
use Rattle.std.proofs.Math.Nat.{min-eq_left}
use Rattle.std.proofs.lemmas.Bool.{lt-ltb, ltb-true}
use Rattle.std.proofs.lemmas.Option.{slice_get-get_or, slice_get-map}
use Rattle.cstar_base.specs.declared.elem.Elem.{Elem}
use Rattle.cstar_base.specs.declared.operators.Place.{Place}
use Rattle.cstar_tree.specs.declared.syntax.Expr.{Expr}
use Rattle.cstar_tree.specs.declared.syntax.Expr as E
use Rattle.cstar_tree.specs.declared.syntax.ShapeRef.{ShapeRef}
use Rattle.cstar_tree.specs.declared.typed.ShapeInfo.{ShapeInfo}
use Rattle.cstar_tree.specs.declared.typed.TExpr as T
use Rattle.cstar_tree.specs.Constants.{axis_among, axis_of, constant_number, product}
use Rattle.cstar_tree.specs.Conversions.{int}
use Rattle.cstar_tree.specs.ExpressionTypes.{Types}
use Rattle.cstar_tree.specs.ExpressionTypes as X
use Rattle.cstar_tree.specs.Headers.{Program}
use Rattle.cstar_tree.specs.Scopes.{Here, extents_of, shape_of}
use Rattle.type_scopes.specs.Shapes.{rank_of}
use Rattle.type_expressions.specs.Along.{extent_along, positions_in}
use Rattle.type_expressions.specs.Answers.{HasShapes}
use Rattle.type_expressions.specs.declared.intrinsics.Axis.{Axis}
use Rattle.type_expressions.specs.declared.intrinsics.Axis.TheVariants as A

abbrev extents_in : ShapeInfo → List ℕ
extents_in info = info.extents.items

info_in : (o : Option ShapeInfo) {extents : List ℕ} → option_map extents_in o ≡ Some extents → (info : ShapeInfo) × (o ≡ Some info) × (extents_in info ≡ extents)
info_in None is = absurd (cc)
info_in (Some info) is = (info, refl, cc)

-- the shape with these extents, as the file has it
info_of : (shapes : List ShapeInfo) (here : Here) (shape : ℕ) {extents : List ℕ} → HasShapes shapes here → extents_of here shape ≡ Some extents → (info : ShapeInfo) × (slice_get shapes shape ≡ Some info) × (extents_in info ≡ extents)
unfolding extents_of
info_of shapes here shape has is = info_in (slice_get shapes shape) (sym (slice_get-map extents_in shapes shape) ∙ (ap (λ (all : List (List ℕ)). slice_get all shape) (sym has) ∙ is))

counted : (info : ShapeInfo) → length (extents_in info) < 2 ^ 32 → rank_of (Some info) ≡ Some (length (extents_in info))
counted info few = subst (λ (b : Bool). (if b then Some (length (extents_in info)) else None) ≡ Some (length (extents_in info))) (sym (lt-ltb (length (extents_in info)) (2 ^ 32) few)) refl

pub rank_is : (shapes : List ShapeInfo) (here : Here) (shape : ℕ) {extents : List ℕ} → HasShapes shapes here → extents_of here shape ≡ Some extents → length extents < 2 ^ 32 → rank_of (slice_get shapes shape) ≡ Some (length extents)
rank_is shapes here shape has is few =
    let info = info_of shapes here shape has is in
    let fits = subst (λ (all : List ℕ). length all < 2 ^ 32) (sym info.2) few in
    ap rank_of info.1 ∙ (counted info.0 fits ∙ ap (λ (all : List ℕ). Some (length all)) info.2)

pub rank_types : (elem : Elem) (shapes : List ShapeInfo) {program : Program} {here : Here} {p : Place} {written : ShapeRef} {shape value : ℕ} {extents : List ℕ} → elem ≡ int → HasShapes shapes here → shape_of here written ≡ Some shape → extents_of here shape ≡ Some extents → length extents < 2 ^ 32 → value ≡ unwrap_or (rank_of (slice_get shapes shape)) 0 → Types program here (E.RankOf p written) (T.RankOf (record { elem = elem; shape = None }) shape value) true
rank_types elem shapes {here = here} {shape = shape} {value = value} {extents = extents} elem_is has named is few value_is =
    let rank : value ≡ length extents = value_is ∙ ap (λ (o : Option ℕ). unwrap_or o 0) (rank_is shapes here shape has is few) in
    rw (elem_is, rank) (X.rank_of named is)

pub positions_types : (elem : Elem) (shapes : List ShapeInfo) {program : Program} {here : Here} {p : Place} {written : ShapeRef} {shape value : ℕ} {extents : List ℕ} → elem ≡ int → HasShapes shapes here → shape_of here written ≡ Some shape → extents_of here shape ≡ Some extents → product extents < 2 ^ 32 → value ≡ positions_in (slice_get shapes shape) → Types program here (E.PositionsOf p written) (T.PositionsOf (record { elem = elem; shape = None }) shape value) true
positions_types elem shapes {here = here} {shape = shape} {value = value} {extents = extents} elem_is has named is few value_is =
    let info = info_of shapes here shape has is in
    let counted : product extents ≤ 2 ^ 32 - 1 = omega (arith, few) in
    let count : value ≡ product extents = value_is ∙ (ap positions_in info.1 ∙ (ap (λ (all : List ℕ). min (product all) (2 ^ 32 - 1)) info.2 ∙ min-eq_left counted)) in
    rw (elem_is, count) (X.positions_of named is)

within : (b : Bool) {m n : ℕ} → (if b then Some m else None) ≡ Some n → (b ≡ true) × (m ≡ n)
within true is = (refl, cc)
within false is = absurd (cc)

-- an axis is within the rank
axis_within : (extents : List ℕ) (number : Option ℤ) {axis : ℕ} → axis_among extents number ≡ Some axis → axis < length extents
axis_within extents None is = absurd (cc)
axis_within extents (Some (pos n)) is = let w = within _ is in subst (λ (k : ℕ). k < length extents) w.1 (ltb-true n (length extents) w.0)
axis_within extents (Some (negsuc n)) is = absurd (cc)

pub dim_types : (elem : Elem) (shapes : List ShapeInfo) {program : Program} {here : Here} {p : Place} {written : ShapeRef} {axis : Axis} {shape number k value : ℕ} {extents : List ℕ} (along : Box Expr Global) → elem ≡ int → HasShapes shapes here → shape_of here written ≡ Some shape → extents_of here shape ≡ Some extents → axis_of here extents along.value ≡ Some number → axis ≡ A.Number number → axis ≡ A.Number k → value ≡ extent_along (slice_get shapes shape) k → Types program here (E.DimOf p written along) (T.DimOf (record { elem = elem; shape = None }) shape k value) true
dim_types elem shapes {here = here} {shape = shape} {number = number} {k = k} {value = value} {extents = extents} along elem_is has named is axis_is number_is k_is value_is =
    let info = info_of shapes here shape has is in
    let same : k ≡ number = cc in
    let extent = slice_get-get_or extents number 0 (axis_within extents (constant_number here along.value) axis_is) in
    let value_of : value ≡ get_or extents number 0 = value_is ∙ (ap (λ (o : Option ShapeInfo). extent_along o k) info.1 ∙ (ap (λ (all : List ℕ). unwrap_or (slice_get all k) 0) info.2 ∙ (ap (λ (n : ℕ). unwrap_or (slice_get extents n) 0) same ∙ ap (λ (o : Option ℕ). unwrap_or o 0) extent))) in
    rw (elem_is, same, value_of) (X.dim_of along named is axis_is extent)
