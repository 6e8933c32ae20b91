use Rattle.std.proofs.Common.{ap, sym}
use Rattle.bit_planes.specs.Planes.{number}
use Rattle.lane_kernels.specs.Columns.{value_at}
use Rattle.lane_kernels.proofs.Lifted.{same_change}
use Rattle.lane_kernels.proofs.in_place.put.Goals as goal

pub returns : goal.returns
returns c =
    let column = c.args.column.now in
    same_change c.args.to.now (λ i. number column.planes 0 c.args.to.now.len i) (λ i. value_at column i) c.args.planes.now c.put_planes.new.planes
    (λ i _. ap (λ n. number column.planes 0 n i) (sym c.requires.len)) c.put_planes.ensures
