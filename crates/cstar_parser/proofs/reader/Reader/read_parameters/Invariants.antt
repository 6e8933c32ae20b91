use Rattle.cstar_tree.specs.declared.token.Mark.TheVariants as M
use Rattle.cstar_parser.specs.Outside.{Passes}
use Rattle.grammar_parts.specs.Parts as P
use Rattle.std.proofs.Common.{◌≤◌, ◌<◌, ◌-◌, length, [], ◌∷◌}
use Rattle.cstar_tree.specs.Items.{AreNamed}
use Rattle.cstar_parser.proofs.reader.Reader.read_parameters.Given as goal

abbrev pub invariant-parameters : goal.invariant-parameters
invariant-parameters l =
    (l.fn.spot.at < l.spot.at) × (l.spot.at ≤ length l.self.tokens.now) × AreNamed l.self.tokens.now l.fn.spot.at l.parameters.items l.spot.at
    × Passes l.self.tokens.now 0 l.fn.spot.at (P.parameters ∷ P.mark M.RightParen ∷ []) l.spot.at (P.more_parameters ∷ P.mark M.RightParen ∷ [])

abbrev pub decreases-parameters : goal.decreases-parameters
decreases-parameters l = length l.self.tokens.now - l.spot.at
