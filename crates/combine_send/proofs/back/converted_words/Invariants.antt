use Rattle.std.proofs.Common.{◌≡◌, ℕ, ◌+◌, ◌<◌, length}
use Rattle.std.specs.Prelude.{slice_index}
use Rattle.cstar_base.specs.Numbers.{converted}
use Rattle.paris_code.specs.Sending.{word_kind}
use Rattle.combine_send.proofs.back.converted_words.Given as goal

abbrev pub invariant-loop-i : goal.invariant-loop-i
invariant-loop-i l = (length l.numbers ≡ 512) × ((j : ℕ) → j < l.i → slice_index l.numbers j ≡ converted l.kind word_kind (slice_index l.words (l.start + j)))
