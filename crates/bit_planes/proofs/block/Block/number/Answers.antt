use Rattle.std.proofs.Common.{◌≡◌, ◌∙◌, ◌+◌, ◌*◌, ◌^◌, ◌%◌, ◌<◌, ap, sym, arith}
use Rattle.bit_planes.specs.Bits.{bit}
use Rattle.bit_planes.specs.Planes.{number}
use Rattle.bit_planes.proofs.Planes.{number-none, number_step, plane_read}
use Rattle.bit_planes.proofs.block.Block.number.Goals as goal
use Rattle.bit_planes.proofs.block.Block.number.Goals.{After-lane}

pub loop-j-init : goal.loop-j-init
loop-j-init c = sym (number-none c.args.self.now.planes.items c.args.offset c.args.row)

-- what the sum with the next bit is, and that it fits
step : (c : After-lane) → (c.loop-j.number + c.lane.result * 2 ^ c.loop-j.j % 2 ^ 32 ≡ number c.args.self.now.planes.items c.args.offset (c.loop-j.j + 1) c.args.row)
    × (c.loop-j.number + c.lane.result * 2 ^ c.loop-j.j % 2 ^ 32 < 2 ^ 32)
step c = number_step c.args.self.now.planes.items c.args.offset c.loop-j.j c.args.row (omega arith) c.loop-j.number c.lane.result c.loop-j.invariant
    (c.lane.ensures ∙ ap (λ q. bit q c.args.row) (plane_read c.args.self.now.planes.items (c.args.offset + c.loop-j.j) c.index.result.now (omega arith) c.index.ensures))

pub overflow_add-number : goal.overflow_add-number
overflow_add-number c = record { fits = (step c).1 }

pub loop-j-preserved : goal.loop-j-preserved
loop-j-preserved c = (step c).0
