use Rattle.std.proofs.Common.{◌≡◌, ℕ, ◌<◌, true, get_or}
use Rattle.cstar_lexer.specs.Bytes.{goes_on}
use Rattle.cstar_lexer.proofs.bytes.name_length.Given as goal

abbrev pub invariant-loop-at : goal.invariant-loop-at
invariant-loop-at l = (k : ℕ) → k < l.at → goes_on (get_or l.rest k 0) ≡ true
