use Rattle.std.proofs.Common.{cond, nat_eq}
use Rattle.bit_planes.specs.Bits.{bit}
use Rattle.lane_kernels.proofs.ColumnLemmas.{columns_have}
use Rattle.lane_kernels.proofs.columns.select.Goals as goal

pub returns : goal.returns
returns c = columns_have (λ i n. cond (nat_eq (bit c.args.mask i) 1)) c.args.a.now c.args.b.now c.whole.result c.beside-planes.result c.select.new.planes c.column.result c.args.a.now.in_range.1 c.requires c.beside-planes.ensures c.whole.ensures c.select.ensures c.column.ensures.len c.column.ensures.planes
