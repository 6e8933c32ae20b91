use Rattle.std.proofs.Common.{◌≡◌, ◌≤◌, ◌-◌, [], ◌∷◌, length}
use Rattle.cstar_tree.specs.Expressions.{AreCasts}
use Rattle.grammar_parts.specs.Parts as P
use Rattle.cstar_parser.specs.Following.{Goes, IsCast}
use Rattle.cstar_parser.proofs.reader.Reader.read_casts.Given as goal

abbrev pub invariant-casts : goal.invariant-casts
invariant-casts l =
    (l.fn.spot.at ≤ l.spot.at) × (l.spot.at ≤ length l.self.tokens.now) × AreCasts l.self.tokens.now l.fn.spot.at l.casts.items l.spot.at
    × (l.spot.operators ≡ l.fn.spot.operators)
    × (IsCast l.self.tokens.now l.fn.spot.at → (IsCast l.self.tokens.now l.spot.at × Goes l.self.tokens.now l.levels l.fn.spot.at l.fn.spot.operators (P.unary ∷ []) l.spot.at l.spot.operators (P.unary ∷ [])))

abbrev pub decreases-casts : goal.decreases-casts
decreases-casts l = length l.self.tokens.now - l.spot.at
