use Rattle.std.proofs.Common.{◌≡◌, ℕ, ◌+◌, ◌*◌, ◌<◌, length}
use Rattle.std.specs.Prelude.{slice_index}
use Rattle.cstar_base.specs.declared.operators.Inclusion.TheVariants as N
use Rattle.reduce_scan.specs.Across.{taken_at}
use Rattle.reduce_scan.proofs.across.words_before.Given as goal

abbrev pub invariant-loop-i : goal.invariant-loop-i
invariant-loop-i l = (length l.words ≡ 512) × ((j : ℕ) → j < l.i → slice_index l.words j ≡ taken_at l.combiner N.Exclusive l.lines l.room.cells.items (512 * l.k + j))
