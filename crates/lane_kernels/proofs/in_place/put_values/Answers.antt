use Rattle.std.proofs.Common.{ap, ◌∙◌, ◌%◌, ◌^◌}
use Rattle.std.specs.Prelude.{slice_index}
use Rattle.bit_planes.specs.Planes.{number}
use Rattle.lane_kernels.proofs.Lifted.{same_change}
use Rattle.lane_kernels.proofs.in_place.put_values.Goals as goal

pub returns : goal.returns
returns c =
    let to = c.args.to.now in
    same_change to (λ i. number c.turn.new.self.planes 0 to.len i) (λ i. slice_index c.args.values.now i % 2 ^ to.len) c.args.planes.now c.put_planes.new.planes
    (λ i ib. c.turn.ensures to.len i to.in_range.1 ib ∙ ap (λ n. n % 2 ^ to.len) (c.from_values-rows.ensures i ib))
    c.put_planes.ensures
