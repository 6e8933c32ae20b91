use Rattle.std.proofs.Common.{◌≡◌, [], map, ℕ, ◌+◌, List, ◌∷◌, ◌++◌, length, get_or, ap, sym, subst, ◌∙◌, arith}
use Rattle.paris_code.specs.declared.program.Unit.{Unit as CodeUnit}
use Rattle.field_alloc.specs.Placed.{ArePlacedUnits, IsPlacedUnit}
use Rattle.field_alloc.specs.Places.{items_of}
use Rattle.field_alloc.proofs.Rows.{ArePlacedUnits-snoc}
use Rattle.field_alloc.proofs.placing.placed_units.Goals as goal

pub loop-unit-init : goal.loop-unit-init
unfolding ArePlacedUnits
loop-unit-init c = subst (λ (os : List CodeUnit). ArePlacedUnits (map items_of c.args.places.now) 0 [] os) (sym c.new-over.ensures.items) tt

pub loop-unit-preserved : goal.loop-unit-preserved
loop-unit-preserved c =
    let rows = map items_of c.args.places.now in
    let over = c.loop-unit.over.items in
    let number : c.len.result ≡ 0 + length over = omega arith in
    let same = c.row.ensures ∙ ap (λ n. get_or rows n []) number in
    let last = subst (λ (p : List ℕ). IsPlacedUnit p c.in-Some.unit c.place_unit.new.unit) same c.place_unit.ensures in
    subst (λ (os : List CodeUnit). ArePlacedUnits rows 0 (c.loop-unit.yielded ++ c.in-Some.unit ∷ []) os)
    (sym c.in_ok-push.ensures.items)
    (ArePlacedUnits-snoc rows 0 c.loop-unit.yielded over c.in-Some.unit c.place_unit.new.unit c.loop-unit.invariant last)
