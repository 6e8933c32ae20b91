use Rattle.cstar_parser.specs.Outside.{Passes}
use Rattle.grammar_parts.specs.Parts as P
use Rattle.std.proofs.Common.{◌≤◌, ◌<◌, ◌+◌, ◌-◌, ◌*◌, length, [], ◌∷◌}
use Rattle.cstar_tree.specs.Bounds.{declared_expressions}
use Rattle.cstar_tree.specs.Declarations.{AreDeclarations}
use Rattle.cstar_tree.specs.Statements.{AreStmts}
use Rattle.cstar_parser.specs.Fits.{FitStatements, FitWhole}
use Rattle.cstar_parser.proofs.reader.Reader.+statement.Given as goal

abbrev pub decreases-read_block : goal.decreases-read_block
decreases-read_block l = (length l.self.now.tokens.now - l.spot.now.at) * 32 + 4

abbrev pub decreases-read_statement : goal.decreases-read_statement
decreases-read_statement l = (length l.self.now.tokens.now - l.spot.now.at) * 32 + 8

abbrev pub decreases-read_branches : goal.decreases-read_branches
decreases-read_branches l = (length l.self.now.tokens.now - l.spot.now.at) * 32 + 4

abbrev pub decreases-read_while : goal.decreases-read_while
decreases-read_while l = (length l.self.now.tokens.now - l.spot.now.at) * 32 + 4

abbrev pub decreases-read_do : goal.decreases-read_do
decreases-read_do l = (length l.self.now.tokens.now - l.spot.now.at) * 32 + 4

abbrev pub decreases-read_for : goal.decreases-read_for
decreases-read_for l = (length l.self.now.tokens.now - l.spot.now.at) * 32 + 4

abbrev pub decreases-read_with : goal.decreases-read_with
decreases-read_with l = (length l.self.now.tokens.now - l.spot.now.at) * 32 + 4

abbrev pub decreases-read_everywhere : goal.decreases-read_everywhere
decreases-read_everywhere l = (length l.self.now.tokens.now - l.spot.now.at) * 32 + 4

abbrev pub invariant-read_block-declarations : goal.invariant-read_block-declarations
invariant-read_block-declarations l =
    (l.fn.spot.at < l.spot.at) × (l.spot.at ≤ length l.self.tokens.now) × AreDeclarations l.self.tokens.now l.initial.spot.at l.declarations.items l.spot.at
    × FitWhole l.levels (declared_expressions l.declarations.items)
    × Passes l.self.tokens.now l.levels l.fn.spot.at (P.block ∷ []) l.spot.at (P.declarations ∷ P.statements ∷ [])

abbrev pub decreases-read_block-declarations : goal.decreases-read_block-declarations
decreases-read_block-declarations l = length l.self.tokens.now - l.spot.at

abbrev pub invariant-read_block-statements : goal.invariant-read_block-statements
invariant-read_block-statements l =
    (l.fn.spot.at < l.spot.at) × (l.spot.at ≤ length l.self.tokens.now) × AreStmts l.self.tokens.now l.initial.spot.at l.statements.items l.spot.at
    × FitStatements l.levels l.statements.items
    × Passes l.self.tokens.now l.levels l.fn.spot.at (P.block ∷ []) l.spot.at (P.statements ∷ [])

abbrev pub decreases-read_block-statements : goal.decreases-read_block-statements
decreases-read_block-statements l = length l.self.tokens.now - l.spot.at
