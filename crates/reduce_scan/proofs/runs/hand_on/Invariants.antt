use Rattle.std.proofs.Common.{◌≡◌, ℕ, ◌<◌, ◌≤◌, length, get_or}
use Rattle.std.specs.Prelude.{slice_index}
use Rattle.block_store.specs.declared.set.Cell.{Cell}
use Rattle.reduce_scan.specs.Parts.{starts}
use Rattle.reduce_scan.proofs.runs.hand_on.Given as goal

abbrev pub invariant-loop-k : goal.invariant-loop-k
invariant-loop-k l =
    (length l.room.cells.items ≡ length l.initial.room.cells.items) × (l.start ≡ starts l.fn.combiner l.initial.room.cells.items l.k)
    × ((j : ℕ) (none : Cell) → j < l.k → slice_index (get_or l.room.cells.items j none).words 0 ≡ starts l.fn.combiner l.initial.room.cells.items j)
    × ((j : ℕ) (none : Cell) → l.k ≤ j → get_or l.room.cells.items j none ≡ get_or l.initial.room.cells.items j none)
