use Rattle.std.proofs.Common.{◌∙◌, ap}
use Rattle.bit_planes.specs.Planes.{number}
use Rattle.lane_kernels.proofs.ColumnLemmas.{column_has, first_numbers}
use Rattle.lane_kernels.specs.Columns.{value_at}
use Rattle.lane_kernels.specs.Numbers.{resized}
use Rattle.lane_kernels.proofs.columns.resize.Goals as goal

pub returns : goal.returns
returns c = column_has c.args.len c.whole.result (λ i. resized c.args.unsigned c.args.a.now.len c.whole.result.len (number c.beside-planes.result 0 c.args.a.now.len i)) (λ i. resized c.args.unsigned c.args.a.now.len c.args.len (value_at c.args.a.now i))
    c.beside-planes.result c.resize.new.planes c.column.result c.requires.1 c.whole.ensures c.resize.ensures c.column.ensures.len c.column.ensures.planes
    (λ i ib. ap (λ m. resized c.args.unsigned c.args.a.now.len m (number c.beside-planes.result 0 c.args.a.now.len i)) c.whole.ensures.len
    ∙ ap (resized c.args.unsigned c.args.a.now.len c.args.len) (first_numbers c.args.a.now c.args.a.now c.beside-planes.result c.args.a.now.len i c.args.a.now.in_range.1 c.beside-planes.ensures))
