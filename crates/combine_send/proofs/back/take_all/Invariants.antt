use Rattle.std.proofs.Common.{◌≡◌, ℕ, ◌<◌, ◌≤◌, length, get_or}
use Rattle.bit_planes.specs.declared.block.Block.{Block}
use Rattle.combine_send.specs.Back.{HasTaken}
use Rattle.combine_send.proofs.back.take_all.Given as goal

abbrev pub invariant-loop-k : goal.invariant-loop-k
invariant-loop-k l =
    (length l.set.blocks.items ≡ length l.initial.set.blocks.items)
    × ((j : ℕ) (none : Block) → j < l.k → HasTaken l.plan.geometry l.plan.bits l.send l.words j (get_or l.initial.set.blocks.items j none).planes.items (get_or l.set.blocks.items j none).planes.items)
    × ((j : ℕ) (none : Block) → l.k ≤ j → get_or l.set.blocks.items j none ≡ get_or l.initial.set.blocks.items j none)
