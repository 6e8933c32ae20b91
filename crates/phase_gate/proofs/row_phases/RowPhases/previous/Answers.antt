use Rattle.std.proofs.Common.{◌≡◌, ℕ, ◌<◌, ◌+◌, ◌-◌, pos, neg_ℤ, List, length, ◌∙◌, sym, subst, ap, arith}
use Rattle.std.specs.Prelude.{slice_index}
use Rattle.std.proofs.lemmas.Int.{ints}
use Rattle.cstar_base.specs.declared.operators.Direction.{Direction}
use Rattle.vp_sets.specs.Positions.{position_count, coordinate}
use Rattle.vp_sets.proofs.PositionLaws.{geometry_parts}
use Rattle.phase_gate.specs.Scans.{scan_of}
use Rattle.phase_meaning.specs.Scans.{IsPrevious}
use Rattle.phase_meaning.proofs.Lines.{Backs, moved_is, previous_is, first_up, first_down}
use Rattle.phase_gate.proofs.row_phases.RowPhases.previous.Goals as goal

pub returns-in-Upward : goal.returns-in-Upward
returns-in-Upward c =
    let grid = c.rows.result.now.geometry in
    let scan = scan_of c.args.scan.now in
    let p = c.args.position in
    let q = c.shift.result in
    let own = coordinate grid p scan.axis in
    let inside : own < slice_index grid scan.axis = omega (arith, c.coord-own.ensures.inside, c.coord-own.ensures.value) in
    let some : 0 < own = omega (arith, c.if-own-gt0.true, c.coord-own.ensures.value) in
    subst (λ (xs : List ℕ). (q < position_count xs) × IsPrevious xs scan p q) c.rows.ensures.extents (
      c.shift.ensures.bound,
      previous_is grid scan (geometry_parts grid c.extent-last.ensures.valid).2 (omega (arith, c.requires.scan.1, ap length c.rows.ensures.extents)) p q (own - 1) (neg_ℤ (pos 1))
          (omega (arith, c.requires.position.1, ap position_count c.rows.ensures.extents)) c.shift.ensures.bound inside (omega arith)
          (subst (λ (d : Direction). Backs d own (own - 1)) (sym c.in-Upward.is) (omega arith))
          (moved_is (slice_index grid scan.axis) own (own - 1) (neg_ℤ (pos 1)) (omega (arith, ints)) (omega arith))
          c.shift.ensures.value c.shift.ensures.coords,
    )

pub returns-in-Downward : goal.returns-in-Downward
returns-in-Downward c =
    let grid = c.rows.result.now.geometry in
    let scan = scan_of c.args.scan.now in
    let p = c.args.position in
    let q = c.shift-in-Downward.result in
    let own = coordinate grid p scan.axis in
    let inside : own < slice_index grid scan.axis = omega (arith, c.coord-own.ensures.inside, c.coord-own.ensures.value) in
    let some : own + 1 < slice_index grid scan.axis = omega (arith, c.if-own-last.true, c.coord-own.ensures.value, c.extent-last.ensures.value) in
    subst (λ (xs : List ℕ). (q < position_count xs) × IsPrevious xs scan p q) c.rows.ensures.extents (
      c.shift-in-Downward.ensures.bound,
      previous_is grid scan (geometry_parts grid c.extent-last.ensures.valid).2 (omega (arith, c.requires.scan.1, ap length c.rows.ensures.extents)) p q (own + 1) (pos 1)
          (omega (arith, c.requires.position.1, ap position_count c.rows.ensures.extents)) c.shift-in-Downward.ensures.bound inside some
          (subst (λ (d : Direction). Backs d own (own + 1)) (sym c.in-Downward.is) (omega arith))
          (moved_is (slice_index grid scan.axis) own (own + 1) (pos 1) (omega (arith, ints)) some)
          c.shift-in-Downward.ensures.value c.shift-in-Downward.ensures.coords,
    )

pub returns-in_default : goal.returns-in_default
returns-in_default c =
    let scan = scan_of c.args.scan.now in
    first_up _ scan c.args.position c.in-Upward.is
    (ap (λ (xs : List ℕ). coordinate xs c.args.position scan.axis) (sym c.rows.ensures.extents) ∙ sym c.coord-own.ensures.value ∙ (let z : c.coord-own.result ≡ 0 = omega arith in z))

pub returns-in_default-2 : goal.returns-in_default-2
returns-in_default-2 c =
    let scan = scan_of c.args.scan.now in
    let p = c.args.position in
    first_down _ scan p c.in-Downward.is
    (omega (arith, c.if-own-last.false, c.coord-own.ensures.value, c.extent-last.ensures.value, ap (λ (xs : List ℕ). coordinate xs p scan.axis) c.rows.ensures.extents, ap (λ (xs : List ℕ). slice_index xs scan.axis) c.rows.ensures.extents))
