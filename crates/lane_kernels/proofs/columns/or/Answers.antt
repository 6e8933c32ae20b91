use Rattle.lane_kernels.proofs.ColumnLemmas.{columns_have}
use Rattle.std.specs.Int.Bits.{bit_or}
use Rattle.lane_kernels.proofs.columns.or.Goals as goal

pub returns : goal.returns
returns c = columns_have (λ i n. bit_or) c.args.a.now c.args.b.now c.whole.result c.beside-planes.result c.or.new.planes c.column.result c.args.a.now.in_range.1 c.requires c.beside-planes.ensures c.whole.ensures c.or.ensures c.column.ensures.len c.column.ensures.planes
