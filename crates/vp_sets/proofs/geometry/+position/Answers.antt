use Rattle.std.proofs.Common.{arith, ap, ◌≡◌, ◌*◌, ◌<◌}
use Rattle.vp_sets.specs.Positions.{position_count, number_at}
use Rattle.vp_sets.proofs.PositionLaws.{FirstOf, first_of, none_needed, outside_first, outside_later, outside_many, outside_few, inside_first, number_first, number_below}
use Rattle.vp_sets.proofs.geometry.+position.Goals as goal

pub position-requires : goal.position-requires
position-requires t c =
    let parts : FirstOf c.args.extents.now c.in-Some-Some.extent.now c.in-Some-Some.later.now = first_of c.args.extents.now c.in-Some-Some.extent.now c.in-Some-Some.later.now c.in-Some-Some.ensures.cases.0 c.requires.positive in
    (omega (arith, c.in-Some-Some.ensures.cases.1), (parts.positive, omega (arith, parts.fewer, c.requires.bound)))

pub returns-in_default-position : goal.returns-in_default-position
returns-in_default-position t c = outside_later c.args.extents.now c.in-Some-Some.extent.now c.in-Some-Some.later.now c.args.coords.now c.in-Some-Some.coord.now c.in-Some-Some.others.now c.in-Some-Some.ensures.cases.0 c.in-Some-Some.ensures'.cases.0 c.in_default-position.ensures

pub product-requires-clause-positive : goal.product-requires-clause-positive
product-requires-clause-positive t c = (first_of c.args.extents.now c.in-Some-Some.extent.now c.in-Some-Some.later.now c.in-Some-Some.ensures.cases.0 c.requires.positive).positive

pub product-requires-clause-bound : goal.product-requires-clause-bound
product-requires-clause-bound t c =
    omega (arith, (first_of c.args.extents.now c.in-Some-Some.extent.now c.in-Some-Some.later.now c.in-Some-Some.ensures.cases.0 c.requires.positive).fewer, c.requires.bound)

pub overflow_mul-result : goal.overflow_mul-result
overflow_mul-result t c =
    let whole : c.in-Some-Some.coord.now * c.product.result ≡ c.in-Some-Some.coord.now * position_count c.in-Some-Some.later.now = ap (λ n. c.in-Some-Some.coord.now * n) c.product.ensures in
    let below : number_at c.args.extents.now c.args.coords.now < position_count c.args.extents.now = number_below _ _ (inside_first c.args.extents.now c.in-Some-Some.extent.now c.in-Some-Some.later.now c.args.coords.now c.in-Some-Some.coord.now c.in-Some-Some.others.now c.in-Some-Some.ensures.cases.0 c.in-Some-Some.ensures'.cases.0 c.if-coord-extent.true c.in-Some.ensures.0) in
    omega (arith, number_first c.args.extents.now c.in-Some-Some.extent.now c.in-Some-Some.later.now c.args.coords.now c.in-Some-Some.coord.now c.in-Some-Some.others.now c.in-Some-Some.ensures.cases.0 c.in-Some-Some.ensures'.cases.0, c.requires.bound)

pub overflow_add-result : goal.overflow_add-result
overflow_add-result t c =
    let whole : c.in-Some-Some.coord.now * c.product.result ≡ c.in-Some-Some.coord.now * position_count c.in-Some-Some.later.now = ap (λ n. c.in-Some-Some.coord.now * n) c.product.ensures in
    let below : number_at c.args.extents.now c.args.coords.now < position_count c.args.extents.now = number_below _ _ (inside_first c.args.extents.now c.in-Some-Some.extent.now c.in-Some-Some.later.now c.args.coords.now c.in-Some-Some.coord.now c.in-Some-Some.others.now c.in-Some-Some.ensures.cases.0 c.in-Some-Some.ensures'.cases.0 c.if-coord-extent.true c.in-Some.ensures.0) in
    omega (arith, number_first c.args.extents.now c.in-Some-Some.extent.now c.in-Some-Some.later.now c.args.coords.now c.in-Some-Some.coord.now c.in-Some-Some.others.now c.in-Some-Some.ensures.cases.0 c.in-Some-Some.ensures'.cases.0, c.in-Some.ensures.1, c.requires.bound)

pub returns-in-Some : goal.returns-in-Some
returns-in-Some t c =
    let whole : c.in-Some-Some.coord.now * c.product.result ≡ c.in-Some-Some.coord.now * position_count c.in-Some-Some.later.now = ap (λ n. c.in-Some-Some.coord.now * n) c.product.ensures in (
      inside_first c.args.extents.now c.in-Some-Some.extent.now c.in-Some-Some.later.now c.args.coords.now c.in-Some-Some.coord.now c.in-Some-Some.others.now c.in-Some-Some.ensures.cases.0 c.in-Some-Some.ensures'.cases.0 c.if-coord-extent.true c.in-Some.ensures.0,
      omega (arith, number_first c.args.extents.now c.in-Some-Some.extent.now c.in-Some-Some.later.now c.args.coords.now c.in-Some-Some.coord.now c.in-Some-Some.others.now c.in-Some-Some.ensures.cases.0 c.in-Some-Some.ensures'.cases.0, c.in-Some.ensures.1),
    )

pub returns-in-None-None : goal.returns-in-None-None
returns-in-None-None t c = none_needed c.args.extents.now c.args.coords.now c.in-None-None.ensures.cases c.in-None-None.ensures'.cases

pub returns-in_default : goal.returns-in_default
returns-in_default t c = outside_many c.args.extents.now c.args.coords.now _ _ c.in_default.ensures.cases c.in_default.ensures'.cases.0

pub returns-in_default-2 : goal.returns-in_default-2
returns-in_default-2 t c = outside_first c.args.extents.now c.in-Some-Some.extent.now c.in-Some-Some.later.now c.args.coords.now c.in-Some-Some.coord.now c.in-Some-Some.others.now c.in-Some-Some.ensures.cases.0 c.in-Some-Some.ensures'.cases.0 (omega arith)

pub returns-in_default-3 : goal.returns-in_default-3
returns-in_default-3 t c = outside_few c.args.extents.now _ _ c.args.coords.now c.in_default.ensures.cases.0 c.in_default.ensures'.cases
