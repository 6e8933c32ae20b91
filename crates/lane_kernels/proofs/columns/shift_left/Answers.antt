use Rattle.std.proofs.Common.{refl}
use Rattle.lane_kernels.proofs.ColumnLemmas.{columns_have}
use Rattle.lane_kernels.specs.Numbers.{shifted_left}
use Rattle.lane_kernels.proofs.columns.shift_left.Goals as goal

pub returns : goal.returns
returns c = columns_have (λ i n x y. shifted_left n c.args.k x) c.args.a.now c.args.a.now c.whole.result c.beside-planes.result c.shift_left.new.planes c.column.result c.args.a.now.in_range.1 refl c.beside-planes.ensures c.whole.ensures c.shift_left.ensures c.column.ensures.len c.column.ensures.planes
