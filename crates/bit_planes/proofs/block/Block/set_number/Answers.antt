use Rattle.std.proofs.Common.{◌≡◌, subst, arith}
use Rattle.bit_planes.proofs.Planes.{number_written, BitsWritten}
use Rattle.bit_planes.proofs.block.Block.set_number.Goals as goal

pub returns : goal.returns
returns c = number_written c.args.offset c.args.len c.args.row c.args.v c.args.self.now.planes.items c.loop-j.self.planes.items
    (let e : c.loop-j.j ≡ c.args.len = omega arith in subst (λ n. BitsWritten c.args.offset n c.args.row c.args.v c.args.self.now.planes.items c.loop-j.self.planes.items) e c.loop-j.invariant)
