use Rattle.std.proofs.Common.{◌∙◌, ◌*◌, ◌-◌, ◌^◌, ℕ, ap}
use Rattle.cstar_tree.specs.Constants.{product}
use Rattle.cstar_tree.specs.Room.{blocks}
use Rattle.shape_room.proofs.MachineRoom.{bits_of_blocks}
use Rattle.shape_room.proofs.Products.{up_to}
use Rattle.shape_room.specs.Counted.{counted}
use Rattle.shape_room.proofs.machine_bits.Goals as goal

pub returns : goal.returns
unfolding blocks
returns c =
    c.saturating_mul-2.ensures ∙ ap (λ (n : ℕ). counted (n * c.div_ceil-blocks.result)) c.saturating_mul.ensures ∙ up_to (2 ^ 64 - 1) (c.args.need * 512) c.div_ceil-blocks.result
    ∙ bits_of_blocks c.args.need (product c.args.info.now.extents.items) c.positions.result c.div_ceil-blocks.result c.positions.ensures c.div_ceil-blocks.ensures
