use Rattle.cstar_tree.specs.declared.token.Mark.TheVariants as M
use Rattle.cstar_tree.specs.declared.token.Kind.TheVariants as K
use Rattle.std.specs.Prelude.{Some}
use Rattle.cstar_tree.specs.Positions.{token_kind}
use Rattle.cstar_parser.specs.Outside.{Passes}
use Rattle.grammar_parts.specs.Parts as P
use Rattle.std.proofs.Common.{◌≡◌, ℕ, map, ◌≤◌, ◌<◌, ◌+◌, ◌-◌, length, [], ◌∷◌}
use Rattle.cstar_tree.specs.declared.syntax.ShapeDefinition.{ShapeDefinition}
use Rattle.cstar_tree.specs.Items.{AreShapeDefinitions}
use Rattle.cstar_tree.specs.TypedParts.{concat}
use Rattle.cstar_parser.specs.Fits.{FitWhole}
use Rattle.cstar_parser.proofs.reader.Reader.read_shapes.Given as goal

abbrev pub invariant-shapes : goal.invariant-shapes
invariant-shapes l =
    (l.fn.spot.at < l.spot.at) × (l.spot.at ≤ length l.self.tokens.now)
    × ((from : ℕ) → from ≡ l.fn.spot.at + 1 → AreShapeDefinitions l.self.tokens.now from l.shapes.items l.spot.at)
    × FitWhole 0 (concat (map (λ (s : ShapeDefinition). s.extents.items) l.shapes.items))
    × (token_kind l.self.tokens.now l.fn.spot.at ≡ Some (K.Mark M.Shape) → Passes l.self.tokens.now 0 l.fn.spot.at (P.items ∷ []) l.spot.at (P.more_shapes ∷ P.items ∷ []))

abbrev pub decreases-shapes : goal.decreases-shapes
decreases-shapes l = length l.self.tokens.now - l.spot.at
