use Rattle.std.proofs.Common.{ℕ, ap, ◌∙◌, ◌%◌, ◌^◌}
use Rattle.bit_planes.specs.Planes.{number}
use Rattle.bit_planes.specs.Rows.{held}
use Rattle.lane_kernels.specs.Kernels.{operand_of}
use Rattle.lane_kernels.specs.Numbers.{product_of}
use Rattle.lane_kernels.proofs.Lifted.{same_change}
use Rattle.lane_kernels.proofs.Products.{product_cut}
use Rattle.lane_kernels.proofs.in_place.multiply.Goals as goal

pub returns : goal.returns
returns c =
    let to = c.args.to.now in
    let planes = c.args.planes.now in
    let x : ℕ → ℕ = operand_of c.args.a.now planes to.len in
    let y : ℕ → ℕ = operand_of c.args.b.now planes to.len in
    same_change to (λ i. number c.turn.new.self.planes 0 to.len i) (λ i. product_of to.len (x i) (y i)) planes c.put_planes.new.planes
    (λ i ib. c.turn.ensures to.len i to.in_range.1 ib ∙ ap (λ n. n % 2 ^ to.len) (c.multiply.ensures i ib)
    ∙ product_cut (held c.read.new.rows.planes i) (held c.read-2.new.rows.planes i) (x i) (y i) to.len to.in_range.1 (c.read.ensures i ib) (c.read-2.ensures i ib))
    c.put_planes.ensures
