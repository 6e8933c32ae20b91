use Rattle.std.proofs.Common.{refl}
use Rattle.lane_kernels.proofs.ColumnLemmas.{columns_have}
use Rattle.lane_kernels.specs.Numbers.{negative_of}
use Rattle.lane_kernels.proofs.columns.negate.Goals as goal

pub returns : goal.returns
returns c = columns_have (λ i n x y. negative_of n x) c.args.a.now c.args.a.now c.whole.result c.beside-planes.result c.negate.new.planes c.column.result c.args.a.now.in_range.1 refl c.beside-planes.ensures c.whole.ensures c.negate.ensures c.column.ensures.len c.column.ensures.planes
