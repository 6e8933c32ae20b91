use Rattle.std.proofs.Common.{arith, ap, ◌∙◌, w32}
use Rattle.std.proofs.lemmas.Int.{to_z-of_z}
use Rattle.std.specs.Prelude.{slice_set, slice_index}
use Rattle.vp_sets.specs.Positions.{shifted, moved, number_at, coordinates}
use Rattle.vp_sets.proofs.PositionLaws.{Step, step_of, geometry_parts}
use Rattle.vp_sets.proofs.geometry.Geometry.shift.Goals as goal

pub overflow_mul-result : goal.overflow_mul-result
overflow_mul-result c =
    let step : Step c.args.self.now c.args.n c.args.axis c.coord-own.result c.moved-there.result c.stride-stride.result =
    step_of c.args.self.now c.args.n c.args.axis c.coord-own.result c.moved-there.result c.stride-stride.result
    (geometry_parts c.args.self.now c.extent.ensures.valid).2 c.requires.position c.requires.axis c.coord-own.ensures.value c.stride-stride.ensures.value
    (omega (arith, c.moved-there.ensures.inside, c.extent.ensures.value)) in
    omega (arith, step.part)

pub overflow_sub-result : goal.overflow_sub-result
overflow_sub-result c =
    let step : Step c.args.self.now c.args.n c.args.axis c.coord-own.result c.moved-there.result c.stride-stride.result =
    step_of c.args.self.now c.args.n c.args.axis c.coord-own.result c.moved-there.result c.stride-stride.result
    (geometry_parts c.args.self.now c.extent.ensures.valid).2 c.requires.position c.requires.axis c.coord-own.ensures.value c.stride-stride.ensures.value
    (omega (arith, c.moved-there.ensures.inside, c.extent.ensures.value)) in
    step.part

pub overflow_mul-result-2 : goal.overflow_mul-result-2
overflow_mul-result-2 c =
    let step : Step c.args.self.now c.args.n c.args.axis c.coord-own.result c.moved-there.result c.stride-stride.result =
    step_of c.args.self.now c.args.n c.args.axis c.coord-own.result c.moved-there.result c.stride-stride.result
    (geometry_parts c.args.self.now c.extent.ensures.valid).2 c.requires.position c.requires.axis c.coord-own.ensures.value c.stride-stride.ensures.value
    (omega (arith, c.moved-there.ensures.inside, c.extent.ensures.value)) in
    omega (arith, step.room, (geometry_parts c.args.self.now c.extent.ensures.valid).3)

pub overflow_add-result : goal.overflow_add-result
overflow_add-result c =
    let step : Step c.args.self.now c.args.n c.args.axis c.coord-own.result c.moved-there.result c.stride-stride.result =
    step_of c.args.self.now c.args.n c.args.axis c.coord-own.result c.moved-there.result c.stride-stride.result
    (geometry_parts c.args.self.now c.extent.ensures.valid).2 c.requires.position c.requires.axis c.coord-own.ensures.value c.stride-stride.ensures.value
    (omega (arith, c.moved-there.ensures.inside, c.extent.ensures.value)) in
    omega (arith, step.value, step.bound, (geometry_parts c.args.self.now c.extent.ensures.valid).3)

pub returns-clause-value : goal.returns-clause-value
unfolding shifted
returns-clause-value c =
    let step : Step c.args.self.now c.args.n c.args.axis c.coord-own.result c.moved-there.result c.stride-stride.result =
    step_of c.args.self.now c.args.n c.args.axis c.coord-own.result c.moved-there.result c.stride-stride.result
    (geometry_parts c.args.self.now c.extent.ensures.valid).2 c.requires.position c.requires.axis c.coord-own.ensures.value c.stride-stride.ensures.value
    (omega (arith, c.moved-there.ensures.inside, c.extent.ensures.value)) in
    step.value
    ∙ ap (λ there. number_at c.args.self.now (slice_set (coordinates c.args.self.now c.args.n) c.args.axis there))
    (c.moved-there.ensures.value
    ∙ ap (moved c.extent.result c.coord-own.result) (to_z-of_z w32 c.args.k c.ranges.k)
    ∙ ap (λ extent. moved extent c.coord-own.result c.args.k) c.extent.ensures.value
    ∙ ap (λ own. moved (slice_index c.args.self.now c.args.axis) own c.args.k) c.coord-own.ensures.value)

pub returns-clause-bound : goal.returns-clause-bound
returns-clause-bound c =
    let step : Step c.args.self.now c.args.n c.args.axis c.coord-own.result c.moved-there.result c.stride-stride.result =
    step_of c.args.self.now c.args.n c.args.axis c.coord-own.result c.moved-there.result c.stride-stride.result
    (geometry_parts c.args.self.now c.extent.ensures.valid).2 c.requires.position c.requires.axis c.coord-own.ensures.value c.stride-stride.ensures.value
    (omega (arith, c.moved-there.ensures.inside, c.extent.ensures.value)) in
    omega (arith, step.value, step.bound)

pub returns-clause-coords : goal.returns-clause-coords
returns-clause-coords c =
    let step : Step c.args.self.now c.args.n c.args.axis c.coord-own.result c.moved-there.result c.stride-stride.result =
    step_of c.args.self.now c.args.n c.args.axis c.coord-own.result c.moved-there.result c.stride-stride.result
    (geometry_parts c.args.self.now c.extent.ensures.valid).2 c.requires.position c.requires.axis c.coord-own.ensures.value c.stride-stride.ensures.value
    (omega (arith, c.moved-there.ensures.inside, c.extent.ensures.value)) in
    ap (coordinates c.args.self.now) step.value
    ∙ step.coords
    ∙ ap (slice_set (coordinates c.args.self.now c.args.n) c.args.axis)
    (c.moved-there.ensures.value
    ∙ ap (moved c.extent.result c.coord-own.result) (to_z-of_z w32 c.args.k c.ranges.k)
    ∙ ap (λ extent. moved extent c.coord-own.result c.args.k) c.extent.ensures.value
    ∙ ap (λ own. moved (slice_index c.args.self.now c.args.axis) own c.args.k) c.coord-own.ensures.value)
