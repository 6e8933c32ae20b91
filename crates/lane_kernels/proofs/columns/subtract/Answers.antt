use Rattle.lane_kernels.proofs.ColumnLemmas.{columns_have}
use Rattle.lane_kernels.specs.Numbers.{difference_of}
use Rattle.lane_kernels.proofs.columns.subtract.Goals as goal

pub returns : goal.returns
returns c = columns_have (λ i. difference_of) c.args.a.now c.args.b.now c.whole.result c.beside-planes.result c.subtract.new.planes c.column.result c.args.a.now.in_range.1 c.requires c.beside-planes.ensures c.whole.ensures c.subtract.ensures c.column.ensures.len c.column.ensures.planes
