use Rattle.std.proofs.Common.{cond, nat_eq, sym, ◌∙◌, ap}
use Rattle.bit_planes.specs.Planes.{number}
use Rattle.lane_kernels.specs.Columns.{value_at}
use Rattle.lane_kernels.proofs.ColumnLemmas.{first_numbers, second_numbers}
use Rattle.lane_kernels.proofs.columns.equal.Goals as goal

pub returns : goal.returns
returns c = λ i ib. c.equal.ensures i ib
    ∙ ap (λ x. cond (nat_eq x (number c.beside.result 32 c.args.a.now.len i)) 1 0) (first_numbers c.args.a.now c.args.b.now c.beside.result c.args.a.now.len i c.args.a.now.in_range.1 c.beside.ensures)
    ∙ ap (λ y. cond (nat_eq (value_at c.args.a.now i) y) 1 0) (second_numbers c.args.a.now c.args.b.now c.beside.result c.args.a.now.len i c.args.a.now.in_range.1 c.beside.ensures ∙ ap (λ m. number c.args.b.now.planes 0 m i) (sym c.requires))
