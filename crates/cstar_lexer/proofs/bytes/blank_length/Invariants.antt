use Rattle.std.proofs.Common.{◌≡◌, ℕ, ◌<◌, true, get_or}
use Rattle.cstar_lexer.specs.Bytes.{is_inner_blank}
use Rattle.cstar_lexer.proofs.bytes.blank_length.Given as goal

abbrev pub invariant-loop-at : goal.invariant-loop-at
invariant-loop-at l = (k : ℕ) → k < l.at → is_inner_blank (get_or l.rest k 0) ≡ true
