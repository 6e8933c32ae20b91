use Rattle.std.proofs.Common.{arith, sym, ap, ◌∙◌, ◌≡◌, ◌*◌}
use Rattle.vp_sets.specs.Positions.{position_count}
use Rattle.vp_sets.proofs.PositionLaws.{FirstOf, first_of, count_of_none}
use Rattle.vp_sets.proofs.geometry.+product.Goals as goal

pub product-requires : goal.product-requires
product-requires t c =
    let parts : FirstOf c.args.extents.now c.in-Some.first.now c.in-Some.later.now = first_of _ _ _ c.in-Some.ensures.cases.0 c.requires.positive in
    (omega (arith, c.in-Some.ensures.cases.1), (parts.positive, omega (arith, parts.fewer, c.requires.bound)))

pub overflow_mul-result : goal.overflow_mul-result
overflow_mul-result t c =
    let parts : FirstOf c.args.extents.now c.in-Some.first.now c.in-Some.later.now = first_of _ _ _ c.in-Some.ensures.cases.0 c.requires.positive in
    let whole : c.in-Some.first.now * c.product.result ≡ position_count c.args.extents.now = ap (λ n. c.in-Some.first.now * n) c.product.ensures ∙ sym parts.count in
    omega (arith, c.requires.bound)

pub returns-in-None : goal.returns-in-None
returns-in-None t c = count_of_none _ c.in-None.ensures.cases

pub returns-in-Some : goal.returns-in-Some
returns-in-Some t c =
    let parts : FirstOf c.args.extents.now c.in-Some.first.now c.in-Some.later.now = first_of _ _ _ c.in-Some.ensures.cases.0 c.requires.positive in
    ap (λ n. c.in-Some.first.now * n) c.product.ensures ∙ sym parts.count
