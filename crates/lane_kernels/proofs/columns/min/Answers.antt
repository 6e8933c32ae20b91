use Rattle.lane_kernels.proofs.ColumnLemmas.{columns_have}
use Rattle.lane_kernels.specs.Numbers.{least_of}
use Rattle.lane_kernels.proofs.columns.min.Goals as goal

pub returns : goal.returns
returns c = columns_have (λ i. least_of c.args.unsigned) c.args.a.now c.args.b.now c.whole.result c.beside-planes.result c.min.new.planes c.column.result c.args.a.now.in_range.1 c.requires c.beside-planes.ensures c.whole.ensures c.min.ensures c.column.ensures.len c.column.ensures.planes
