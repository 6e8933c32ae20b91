use Rattle.std.proofs.Common.{◌≡◌, ℕ, suc, ◌+◌, ◌-◌, ◌*◌, ◌≤◌, List, drop, ◌∙◌, ap, arith}
use Rattle.std.specs.Prelude.{slice_index}
use Rattle.std.proofs.Math.Nat.{mul-le-mul_right}
use Rattle.vp_sets.specs.Positions.{position_count, coordinate}
use Rattle.vp_sets.proofs.PositionLaws.{axis_count, geometry_parts}
use Rattle.news_grid.proofs.Steps.{step_to_end, all_from_none}
use Rattle.news_grid.proofs.step.lanes_from.Goals as goal

-- the turn of the axis
turn_is : (xs : List ℕ) (axis e s : ℕ) → e ≡ slice_index xs axis → s ≡ position_count (drop (suc axis) xs) → e * s ≡ slice_index xs axis * position_count (drop (suc axis) xs)
turn_is xs axis e s is at = ap (λ n. n * s) is ∙ ap (λ n. slice_index xs axis * n) at

ahead_is : (xs : List ℕ) (axis from e s : ℕ) → e ≡ slice_index xs axis → s ≡ position_count (drop (suc axis) xs) → (e - from) * s ≡ (slice_index xs axis - from) * position_count (drop (suc axis) xs)
ahead_is xs axis from e s is at = ap (λ n. (n - from) * s) is ∙ ap (λ n. (slice_index xs axis - from) * n) at

pub overflow_mul-to_end : goal.overflow_mul-to_end
overflow_mul-to_end c =
    let xs : List ℕ = c.args.geometry.now in
    let parts = geometry_parts xs c.extent-extent.ensures.valid in
    record { fits = omega (arith, turn_is xs c.args.axis c.extent-extent.result c.stride-stride.result c.extent-extent.ensures.value c.stride-stride.ensures.value, axis_count xs c.args.axis parts.2 c.requires.axis, parts.3) }

pub overflow_mul-to_end-2 : goal.overflow_mul-to_end-2
overflow_mul-to_end-2 c =
    let xs : List ℕ = c.args.geometry.now in
    let parts = geometry_parts xs c.extent-extent.ensures.valid in
    let e : ℕ = c.extent-extent.result in
    let less : (e - c.args.from) * c.stride-stride.result ≤ e * c.stride-stride.result = mul-le-mul_right c.stride-stride.result (let q : e - c.args.from ≤ e = omega arith in q) in
    record { fits = omega (arith, less, turn_is xs c.args.axis e c.stride-stride.result c.extent-extent.ensures.value c.stride-stride.ensures.value, axis_count xs c.args.axis parts.2 c.requires.axis, parts.3) }

pub crossing_lanes-requires-clause-step : goal.crossing_lanes-requires-clause-step
crossing_lanes-requires-clause-step c =
    let xs : List ℕ = c.args.geometry.now in
    let parts = geometry_parts xs c.extent-extent.ensures.valid in
    let e : ℕ = c.extent-extent.result in
    let turn = turn_is xs c.args.axis e c.stride-stride.result c.extent-extent.ensures.value c.stride-stride.ensures.value in (
      (step_to_end xs c.args.axis c.args.from (e * c.stride-stride.result) ((e - c.args.from) * c.stride-stride.result) 0 parts.2 c.requires.axis (omega (arith, c.if-from-eq0.false)) c.requires.from
          turn (ahead_is xs c.args.axis c.args.from e c.stride-stride.result c.extent-extent.ensures.value c.stride-stride.ensures.value)).0,
      omega (arith, turn, axis_count xs c.args.axis parts.2 c.requires.axis, parts.3),
    )

pub returns-then-from-eq0 : goal.returns-then-from-eq0
returns-then-from-eq0 c = λ i b. c.repeated.ensures i b ∙ all_from_none (coordinate c.args.geometry.now (512 * c.args.k + i) c.args.axis) c.args.from c.if-from-eq0.true

pub returns : goal.returns
returns c = λ i b.
    let xs : List ℕ = c.args.geometry.now in
    let parts = geometry_parts xs c.extent-extent.ensures.valid in
    let e : ℕ = c.extent-extent.result in
    c.crossing_lanes.ensures i b
    ∙ (step_to_end xs c.args.axis c.args.from (e * c.stride-stride.result) ((e - c.args.from) * c.stride-stride.result) (512 * c.args.k + i) parts.2 c.requires.axis (omega (arith, c.if-from-eq0.false)) c.requires.from
    (turn_is xs c.args.axis e c.stride-stride.result c.extent-extent.ensures.value c.stride-stride.ensures.value)
    (ahead_is xs c.args.axis c.args.from e c.stride-stride.result c.extent-extent.ensures.value c.stride-stride.ensures.value)).1
