use Rattle.lane_kernels.proofs.ColumnLemmas.{columns_have}
use Rattle.lane_kernels.specs.Numbers.{sum_of}
use Rattle.lane_kernels.proofs.columns.add.Goals as goal

pub returns : goal.returns
returns c = columns_have (λ i. sum_of) c.args.a.now c.args.b.now c.whole.result c.beside-planes.result c.add.new.planes c.column.result c.args.a.now.in_range.1 c.requires c.beside-planes.ensures c.whole.ensures c.add.ensures c.column.ensures.len c.column.ensures.planes
