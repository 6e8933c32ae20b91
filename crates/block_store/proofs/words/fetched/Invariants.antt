use Rattle.std.proofs.Common.{◌≡◌, ℕ, ◌<◌, length}
use Rattle.std.specs.Prelude.{slice_index}
use Rattle.block_store.specs.Stored.{word_or_zero}
use Rattle.block_store.proofs.words.fetched.Given as goal

abbrev pub invariant-loop-i : goal.invariant-loop-i
invariant-loop-i l = (length l.words ≡ 512) × ((k : ℕ) → k < l.i → slice_index l.words k ≡ word_or_zero l.cells l.count (slice_index l.positions k))
