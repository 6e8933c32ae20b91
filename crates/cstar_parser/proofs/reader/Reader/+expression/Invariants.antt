use Rattle.std.proofs.Common.{◌≡◌, ℕ, ◌≤◌, ◌<◌, ◌+◌, ◌-◌, ◌*◌, [], ◌∷◌, length}
use Rattle.cstar_tree.specs.declared.token.Mark.TheVariants as M
use Rattle.grammar_parts.specs.Parts as P
use Rattle.cstar_tree.specs.Expressions.{AreIndexes, GoesOn}
use Rattle.cstar_parser.specs.declared.spot.Spot.{Spot}
use Rattle.cstar_parser.specs.Fits.{FitParts, FitsPart}
use Rattle.cstar_parser.specs.Following.{Goes}
use Rattle.cstar_parser.specs.Operands.{IsLeft}
use Rattle.cstar_parser.proofs.ExpressionNodes.{Part}
use Rattle.cstar_parser.proofs.reader.Reader.+expression.Given as goal

-- Each function takes 32 times the tokens that are left, and at one token the callers of a
-- function more than the function.
abbrev pub decreases-read_assignment : goal.decreases-read_assignment
decreases-read_assignment l = (length l.self.now.tokens.now - l.spot.now.at) * 32 + 30

abbrev pub decreases-read_choice : goal.decreases-read_choice
decreases-read_choice l = (length l.self.now.tokens.now - l.spot.now.at) * 32 + 29

abbrev pub decreases-read_binary : goal.decreases-read_binary
decreases-read_binary l = (length l.self.now.tokens.now - l.spot.now.at) * 32 + 20

abbrev pub decreases-read_choice_from : goal.decreases-read_choice_from
decreases-read_choice_from l = (length l.self.now.tokens.now - l.spot.now.at) * 32 + 4

abbrev pub decreases-read_operators : goal.decreases-read_operators
decreases-read_operators l = (length l.self.now.tokens.now - l.spot.now.at) * 32 + 2

abbrev pub decreases-read_unary : goal.decreases-read_unary
decreases-read_unary l = (length l.self.now.tokens.now - l.spot.now.at) * 32 + 14

abbrev pub decreases-read_cast : goal.decreases-read_cast
decreases-read_cast l = (length l.self.now.tokens.now - l.spot.now.at) * 32 + 12

abbrev pub decreases-read_operand : goal.decreases-read_operand
decreases-read_operand l = (length l.self.now.tokens.now - l.spot.now.at) * 32 + 12

abbrev pub decreases-read_primary : goal.decreases-read_primary
decreases-read_primary l = (length l.self.now.tokens.now - l.spot.now.at) * 32 + 8

abbrev pub decreases-read_brackets : goal.decreases-read_brackets
decreases-read_brackets l = (length l.self.now.tokens.now - l.spot.now.at) * 32 + 4

abbrev pub decreases-read_named : goal.decreases-read_named
decreases-read_named l = (length l.self.now.tokens.now - l.spot.now.at) * 32 + 4

abbrev pub decreases-read_more : goal.decreases-read_more
decreases-read_more l = (length l.self.now.tokens.now - l.spot.now.at) * 32 + 4

abbrev pub decreases-read_left_index : goal.decreases-read_left_index
decreases-read_left_index l = (length l.self.now.tokens.now - l.spot.now.at) * 32 + 4

abbrev pub decreases-read_pcoord : goal.decreases-read_pcoord
decreases-read_pcoord l = (length l.self.now.tokens.now - l.spot.now.at) * 32 + 4

abbrev pub decreases-read_dim_of : goal.decreases-read_dim_of
decreases-read_dim_of l = (length l.self.now.tokens.now - l.spot.now.at) * 32 + 4

abbrev pub decreases-read_scan : goal.decreases-read_scan
decreases-read_scan l = (length l.self.now.tokens.now - l.spot.now.at) * 32 + 4

abbrev pub decreases-read_enumerate : goal.decreases-read_enumerate
decreases-read_enumerate l = (length l.self.now.tokens.now - l.spot.now.at) * 32 + 4

abbrev pub decreases-read_printf : goal.decreases-read_printf
decreases-read_printf l = (length l.self.now.tokens.now - l.spot.now.at) * 32 + 4

abbrev pub decreases-read_arguments : goal.decreases-read_arguments
decreases-read_arguments l = (length l.self.now.tokens.now - l.spot.now.at) * 32 + 2

abbrev pub decreases-read_index : goal.decreases-read_index
decreases-read_index l = (length l.self.now.tokens.now - l.spot.now.at) * 32 + 2

abbrev pub invariant-read_operators-operators : goal.invariant-read_operators-operators
invariant-read_operators-operators l =
    (l.fn.spot.at ≤ l.spot.at) × (l.spot.at ≤ length l.self.tokens.now)
    × ((from : Spot) → Part l.self.tokens.now 13 l.levels from l.fn.left l.fn.spot → (IsLeft l.self.tokens.now from.at l.strength l.left.value l.spot.at × FitsPart l.levels l.left.value from.operators l.spot.operators × (from.at < l.spot.at)))
    × Goes l.self.tokens.now l.levels l.fn.spot.at l.fn.spot.operators (P.operators l.strength ∷ []) l.spot.at l.spot.operators (P.operators l.strength ∷ [])

abbrev pub decreases-read_operators-operators : goal.decreases-read_operators-operators
decreases-read_operators-operators l = length l.self.tokens.now - l.spot.at

abbrev pub invariant-read_more-commas : goal.invariant-read_more-commas
invariant-read_more-commas l =
    (l.fn.spot.at ≤ l.spot.at) × (l.spot.at ≤ length l.self.tokens.now) × GoesOn l.self.tokens.now l.fn.spot.at l.fn.list.items l.list.items l.spot.at
    × ((before : ℕ) → FitParts l.levels l.fn.list.items before l.fn.spot.operators → FitParts l.levels l.list.items before l.spot.operators)
    × ((around : ℕ) → around + 1 ≡ l.levels → Goes l.self.tokens.now around l.fn.spot.at l.fn.spot.operators (P.more_arguments ∷ []) l.spot.at l.spot.operators (P.more_arguments ∷ []))

abbrev pub decreases-read_more-commas : goal.decreases-read_more-commas
decreases-read_more-commas l = length l.self.tokens.now - l.spot.at

abbrev pub invariant-read_left_index-indexes : goal.invariant-read_left_index-indexes
invariant-read_left_index-indexes l =
    (l.fn.spot.at < l.spot.at) × (l.spot.at ≤ length l.self.tokens.now) × AreIndexes l.self.tokens.now l.fn.spot.at l.place l.indexes.items l.spot.at
    × FitParts (l.levels + 1) l.indexes.items l.fn.spot.operators l.spot.operators
    × Goes l.self.tokens.now l.levels l.fn.spot.at l.fn.spot.operators (P.mark M.LeftBracket ∷ P.expression ∷ P.close M.RightBracket ∷ P.indexes ∷ []) l.spot.at l.spot.operators (P.indexes ∷ [])

abbrev pub decreases-read_left_index-indexes : goal.decreases-read_left_index-indexes
decreases-read_left_index-indexes l = length l.self.tokens.now - l.spot.at
