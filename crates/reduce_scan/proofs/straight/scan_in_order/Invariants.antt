use Rattle.std.proofs.Common.{◌≡◌, ℕ, ◌*◌, ◌<◌, ◌≤◌, length, get_or}
use Rattle.bit_planes.specs.declared.block.Block.{Block}
use Rattle.reduce_scan.specs.Parts.{fold_there}
use Rattle.reduce_scan.proofs.StraightLines.{CarriedTo, ScannedFrom}
use Rattle.reduce_scan.proofs.straight.scan_in_order.Given as goal

abbrev pub invariant-loop-k : goal.invariant-loop-k
invariant-loop-k g l =
    (length l.set.blocks.items ≡ length l.initial.set.blocks.items) × CarriedTo l.initial.set.blocks.items l.task.scan l.task.lines l.k l.total
    × ((j : ℕ) (none : Block) → j < l.k
    → ScannedFrom (fold_there l.initial.set.blocks.items l.task.scan l.task.lines (512 * j)) l.task.dest j (get_or l.initial.set.blocks.items j none).planes.items (get_or l.set.blocks.items j none).planes.items l.initial.set.blocks.items l.task.scan l.task.lines)
    × ((j : ℕ) (none : Block) → l.k ≤ j → get_or l.set.blocks.items j none ≡ get_or l.initial.set.blocks.items j none)
