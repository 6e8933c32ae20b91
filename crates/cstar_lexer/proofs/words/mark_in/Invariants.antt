use Rattle.std.proofs.Common.{◌≡◌, ℕ, ◌<◌, [], map, get_or}
use Rattle.cstar_lexer.proofs.words.mark_in.Given as goal

abbrev pub invariant-loop-word : goal.invariant-loop-word
invariant-loop-word l = (k : ℕ) → k < l.word-index → get_or (map (λ row. row.0.now) l.table) k [] ≡ l.name → ⊥
