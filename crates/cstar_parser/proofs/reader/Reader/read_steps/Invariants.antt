use Rattle.std.proofs.Common.{ℕ, ◌≤◌, ◌-◌, [], ◌∷◌, length}
use Rattle.grammar_parts.specs.Parts as P
use Rattle.cstar_parser.specs.declared.spot.Spot.{Spot}
use Rattle.cstar_parser.specs.Following.{Goes}
use Rattle.cstar_parser.proofs.ExpressionNodes.{Part}
use Rattle.cstar_parser.proofs.reader.Reader.read_steps.Given as goal

abbrev pub invariant-steps : goal.invariant-steps
invariant-steps l =
    (l.spot.at ≤ length l.self.tokens.now)
    × ((levels : ℕ) (from : Spot) → Part l.self.tokens.now 14 levels from l.fn.operand l.fn.spot → Part l.self.tokens.now 14 levels from l.operand l.spot)
    × ((levels : ℕ) → levels ≤ 100 → Goes l.self.tokens.now levels l.fn.spot.at l.fn.spot.operators (P.steps ∷ []) l.spot.at l.spot.operators (P.steps ∷ []))

abbrev pub decreases-steps : goal.decreases-steps
decreases-steps l = length l.self.tokens.now - l.spot.at
