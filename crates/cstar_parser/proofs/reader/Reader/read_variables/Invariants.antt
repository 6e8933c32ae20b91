use Rattle.cstar_parser.specs.Outside.{Passes}
use Rattle.grammar_parts.specs.Parts as P
use Rattle.std.proofs.Common.{ℕ, map, ◌≤◌, ◌-◌, length, [], ◌∷◌}
use Rattle.cstar_tree.specs.declared.token.Kind.TheVariants as K
use Rattle.cstar_tree.specs.Bounds.{declarator_expressions}
use Rattle.cstar_tree.specs.Declarations.{AreDeclarators}
use Rattle.cstar_tree.specs.Positions.{Stands}
use Rattle.cstar_tree.specs.TypedParts.{concat}
use Rattle.cstar_parser.specs.Fits.{FitWhole}
use Rattle.cstar_parser.proofs.reader.Reader.read_variables.Given as goal

abbrev pub invariant-variables : goal.invariant-variables
invariant-variables l =
    (l.fn.spot.at ≤ l.spot.at) × (l.spot.at ≤ length l.self.tokens.now)
    × ((from : ℕ) → Stands l.self.tokens.now from (K.Name l.fn.first.word) l.fn.first.place l.fn.spot.at → AreDeclarators l.self.tokens.now from l.variables.items l.spot.at)
    × FitWhole l.levels (concat (map declarator_expressions l.variables.items))
    × Passes l.self.tokens.now l.levels l.fn.spot.at (P.length_or_none ∷ P.initial_or_none ∷ P.more_names ∷ []) l.spot.at (P.more_names ∷ [])

abbrev pub decreases-variables : goal.decreases-variables
decreases-variables l = length l.self.tokens.now - l.spot.at
