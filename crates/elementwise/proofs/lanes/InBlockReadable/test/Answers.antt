use Rattle.std.proofs.Common.{◌+◌, ◌%◌, eqb, ◌∙◌, ap, arith}
use Rattle.bit_planes.specs.Bits.{bit}
use Rattle.bit_planes.specs.Planes.{plane_at}
use Rattle.bit_planes.proofs.Planes.{plane_read}
use Rattle.paris_code.specs.Memory.{is_tested}
use Rattle.elementwise.specs.Blocks.{block_memory}
use Rattle.elementwise.proofs.lanes.InBlockReadable.test.Goals as goal

pub returns : goal.returns
unfolding is_tested block_memory
returns c =
    let planes = c.args.self.now.block.now.planes.items in
    ap (λ b. eqb b 1) (
    c.lane.ensures
    ∙ ap (λ q. bit q (c.args.position % 512)) (plane_read planes (c.plan_of.result.now.bits + 1) c.index.result.now (omega (arith, c.requires.reads, c.plan_of.ensures.bits)) c.index.ensures ∙ ap (λ b. plane_at planes (b + 1)) c.plan_of.ensures.bits))
