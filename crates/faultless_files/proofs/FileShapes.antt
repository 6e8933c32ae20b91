-- Typed shapes of a file have no fault, where their names are new and few come before them.
use Rattle.std.proofs.Common.{◌≡◌, ◌≤◌, ◌<◌, ◌+◌, ◌^◌, ℕ, zero, suc, ℤ, pos, negsuc, Bool, true, false, ◌&&◌, nat_le, List, [], ◌∷◌, ◌++◌, length, slice_get, is_some, Option, Some, None, refl, sym, ap, ap₂, subst, ◌∙◌, arith, length-append, if◌then◌else◌}
use Rattle.std.proofs.lemmas.Bool.{leb-true}
use Rattle.std.proofs.lemmas.Option.{none-some, same_Some}
use Rattle.cstar_base.specs.declared.faults.Fault.{Fault}
use Rattle.cstar_base.specs.declared.operators.Place.{Place}
use Rattle.cstar_tree.specs.declared.syntax.Expr.{Expr}
use Rattle.cstar_tree.specs.declared.syntax.ShapeDefinition.{ShapeDefinition}
use Rattle.cstar_tree.specs.declared.typed.ShapeInfo.{ShapeInfo}
use Rattle.cstar_tree.specs.Constants.{constant_number, product}
use Rattle.cstar_tree.specs.FileFaults.{ExtentFault, ShapeFault, ShapesFault}
use Rattle.cstar_tree.specs.FileFaults as W
use Rattle.cstar_tree.specs.FileScopes.{Known, behind_shape, behind_shapes, bounded, defined_extents, extent_of, extents_from, file_place, kept_extent, kept_extents, next_extent, with_name}
use Rattle.cstar_tree.specs.Headers.{Program}
use Rattle.cstar_tree.specs.ProgramTypes.{TypesShapes}
use Rattle.cstar_tree.specs.ProgramTypes as Y
use Rattle.cstar_tree.specs.Scopes.{Binding, Here, a_shape, find}
use Rattle.faultless_files.proofs.NewNames.{NewShapes}
use Rattle.faultless_files.proofs.Lengths.{sound_length}

-- ---- extents

-- the first extent and the others
record IsNext (n : Option ℤ) (rest : Option (List ℕ)) (all : List ℕ) : Type 0 where
  extent : ℕ
  others : List ℕ
  number : n ≡ Some (pos extent)
  extent_is : extent_of n ≡ Some extent
  rest_is : rest ≡ Some others
  all_is : all ≡ extent ∷ others

next_is : (n : Option ℤ) (rest : Option (List ℕ)) (all : List ℕ) → next_extent (extent_of n) rest ≡ Some all → IsNext n rest all
next_is None rest all is = elim (none-some all is) [ ]
next_is (Some (pos zero)) rest all is = elim (none-some all is) [ ]
next_is (Some (negsuc n)) rest all is = elim (none-some all is) [ ]
next_is (Some (pos (suc n))) None all is = elim (none-some all is) [ ]
next_is (Some (pos (suc n))) (Some rest) all is = record { extent = suc n; others = rest; number = refl; extent_is = refl; rest_is = refl; all_is = sym (same_Some (suc n ∷ rest) all is) }

-- those that the definition gives are those that the shape keeps
kept_are : (here : Here) (es : List Expr) (all : List ℕ) → extents_from here es ≡ Some all → kept_extents here es ≡ all
unfolding extents_from kept_extents
kept_are here [] all is = same_Some [] all is
kept_are here (e ∷ es) all is =
    let it = next_is (constant_number here e) (extents_from here es) all is in
    ap₂ (λ (n : ℕ) (ns : List ℕ). n ∷ ns) (ap kept_extent it.number) (kept_are here es it.others it.rest_is) ∙ sym it.all_is

as_many : (here : Here) (es : List Expr) (all : List ℕ) → extents_from here es ≡ Some all → length all ≡ length es
unfolding extents_from
as_many here [] all is = ap (λ (ns : List ℕ). length ns) (sym (same_Some [] all is))
as_many here (e ∷ es) all is =
    let it = next_is (constant_number here e) (extents_from here es) all is in
    ap (λ (ns : List ℕ). length ns) it.all_is ∙ ap suc (as_many here es it.others it.rest_is)

extent_known : (here : Here) (es : List Expr) (all : List ℕ) → extents_from here es ≡ Some all → (which : ℕ) (e : Expr) → slice_get es which ≡ Some e → (n : ℕ) × (constant_number here e ≡ Some (pos n)) × (extent_of (Some (pos n)) ≡ Some n)
unfolding extents_from
extent_known here [] all is which e stands = elim (none-some e stands) [ ]
extent_known here (x ∷ es) all is zero e stands =
    let it = next_is (constant_number here x) (extents_from here es) all is in
    let same = same_Some x e stands in
    (it.extent, subst (λ (y : Expr). constant_number here y ≡ Some (pos it.extent)) same it.number, sym (ap extent_of it.number) ∙ it.extent_is)
extent_known here (x ∷ es) all is (suc which) e stands =
    let it = next_is (constant_number here x) (extents_from here es) all is in
    extent_known here es it.others it.rest_is which e stands

record IsBounded (given : Option (List ℕ)) (all : List ℕ) : Type 0 where
  given_is : given ≡ Some all
  few : length all ≤ 4
  small : product all ≤ 2 ^ 20

chosen_extents : (few small : Bool) (given all : List ℕ) → (if few && small then Some given else None) ≡ Some all → (few ≡ true) × (small ≡ true) × (given ≡ all)
chosen_extents true true given all is = (refl, refl, same_Some given all is)
chosen_extents true false given all is = elim (none-some all is) [ ]
chosen_extents false small given all is = elim (none-some all is) [ ]

bounds : (given : Option (List ℕ)) (all : List ℕ) → bounded given ≡ Some all → IsBounded given all
bounds None all is = elim (none-some all is) [ ]
bounds (Some given) all is =
    let it = chosen_extents (nat_le (length given) 4) (nat_le (product given) (2 ^ 20)) given all is in
    record {
      given_is = ap Some it.2;
      few = subst (λ (ns : List ℕ). length ns ≤ 4) it.2 (leb-true (length given) 4 it.0);
      small = subst (λ (ns : List ℕ). product ns ≤ 2 ^ 20) it.2 (leb-true (product given) (2 ^ 20) it.1);
    }

extents_bounded : (here : Here) (s : ShapeDefinition) (all : List ℕ) → defined_extents here s ≡ Some all → IsBounded (extents_from here s.extents.items) all
unfolding defined_extents
extents_bounded here s all is = bounds (extents_from here s.extents.items) all is

sound_extents : {here : Here} {s : ShapeDefinition} → ExtentFault here s → (all : List ℕ) → defined_extents here s ≡ Some all → ⊥
sound_extents {here = here} {s = s} (W.ExtentFault.too_many many) all is =
    let b = extents_bounded here s all is in
    let same : length all ≡ length s.extents.items = as_many here s.extents.items all b.given_is in
    absurd (omega (arith, many, same, b.few))
sound_extents {here = here} {s = s} (W.ExtentFault.below_one {e = e} {n = n} which stands number none) all is =
    let b = extents_bounded here s all is in
    let it = extent_known here s.extents.items all b.given_is which e stands in
    none-some it.0 (sym none ∙ (ap extent_of (sym number ∙ it.1) ∙ it.2))
sound_extents {here = here} {s = s} (W.ExtentFault.too_large large) all is =
    let b = extents_bounded here s all is in
    let same : product (kept_extents here s.extents.items) ≡ product all = ap product (kept_are here s.extents.items all b.given_is) in
    let small : product all ≤ 2 ^ 20 = b.small in
    let large : 2 ^ 20 < product all = subst (λ (n : ℕ). 2 ^ 20 < n) same large in
    absurd (omega (arith, small, large))

-- ---- how many shapes are known

-- either of two numbers of shapes is at most this
pub either_most : (b : Bool) (known other : Known) (n : ℕ) → length known.shapes ≤ n → length other.shapes ≤ n → length (if b then known else other).shapes ≤ n
either_most true known other n first second = first
either_most false known other n first second = second

-- a shape adds one at most
one_more : (functions : List Binding) (known : Known) (s : ShapeDefinition) → length (behind_shape functions known s).shapes ≤ length known.shapes + 1
unfolding behind_shape
one_more functions known s =
    let extents = kept_extents (file_place functions known) s.extents.items in
    either_most (is_some (find known.names s.name.word)) known
    (record {
      names = with_name known s.name.word (a_shape (length known.shapes));
      shapes = known.shapes ++ extents ∷ [];
      variables = known.variables;
      functions = known.functions;
    })
    (length known.shapes + 1) (omega arith) (omega (arith, length-append known.shapes (extents ∷ [])))

pub more_shapes : (functions : List Binding) {known : Known} {ss : List ShapeDefinition} {infos : List ShapeInfo} → TypesShapes functions known ss infos → length (behind_shapes functions known ss).shapes ≤ length known.shapes + length infos
unfolding behind_shapes
more_shapes functions Y.no_shape = omega arith
more_shapes functions (Y.next_shape {known = known} {s = s} {ss = ss} named is more) = omega (arith, one_more functions known s, more_shapes functions more)

module _ (program : Program) (functions : List Binding) where
  abbrev AreShapes : Known → List ShapeDefinition → ℕ → Type 0
  AreShapes known [] number = Unit {0}
  AreShapes known (s ∷ ss) number =
      (all : List ℕ) × (rest : List ShapeInfo) × (defined_extents (file_place functions known) s ≡ Some all) × TypesShapes functions (behind_shape functions known s) ss rest × (number ≡ 1 + length rest)

  shapes_typed : {known : Known} {ss : List ShapeDefinition} {infos : List ShapeInfo} → TypesShapes functions known ss infos → AreShapes known ss (length infos)
  shapes_typed Y.no_shape = tt
  shapes_typed (Y.next_shape {info = info} {rest = rest} named is more) = (info.extents.items, rest, is, more, omega arith)

  sound_shape_definition : {known : Known} {s : ShapeDefinition} {fault : Fault} {p : Place} → ShapeFault program functions known s fault p → (all : List ℕ) → defined_extents (file_place functions known) s ≡ Some all → find known.names s.name.word ≡ None → length known.shapes < 64 → ⊥
  sound_shape_definition (W.ShapeFault.redeclared {m = m} stands) all is new few = none-some m (sym new ∙ stands)
  sound_shape_definition {known = known} {s = s} (W.ShapeFault.in_extent {e = e} which stands f) all is new few =
      let here = file_place functions known in
      let b = extents_bounded here s all is in
      let it = extent_known here s.extents.items all b.given_is which e stands in
      sound_length program here e (pos it.0) it.1 f
  sound_shape_definition (W.ShapeFault.extents f) all is new few = sound_extents f all is
  sound_shape_definition (W.ShapeFault.one_too_many absent many) all is new few = absurd (omega (arith, many, few))

  pub sound_shapes : {known : Known} {ss : List ShapeDefinition} {fault : Fault} {p : Place} → ShapesFault program functions known ss fault p → (infos : List ShapeInfo) → TypesShapes functions known ss infos → NewShapes functions known ss → length known.shapes + length infos ≤ 64 → ⊥
  unfolding NewShapes
  sound_shapes (W.ShapesFault.first f) infos typed new few =
      let all = shapes_typed typed in
      sound_shape_definition f all.0 all.2 new.0 (omega (arith, few, all.4))
  sound_shapes {known = known} (W.ShapesFault.later {s = s} f) infos typed new few =
      let all = shapes_typed typed in
      sound_shapes f all.1 all.3 new.1 (omega (arith, few, all.4, one_more functions known s))
