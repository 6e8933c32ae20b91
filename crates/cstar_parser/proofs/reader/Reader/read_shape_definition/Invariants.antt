use Rattle.cstar_parser.specs.Outside.{Passes}
use Rattle.grammar_parts.specs.Parts as P
use Rattle.std.proofs.Common.{◌≤◌, ◌<◌, ◌-◌, length, [], ◌∷◌}
use Rattle.cstar_base.specs.declared.operators.Place.{Place}
use Rattle.cstar_tree.specs.Expressions.{AreIndexes}
use Rattle.cstar_parser.specs.Fits.{FitWhole}
use Rattle.cstar_parser.proofs.reader.Reader.read_shape_definition.Given as goal

abbrev pub invariant-extents : goal.invariant-extents
invariant-extents l =
    (l.fn.spot.at < l.spot.at) × (l.spot.at ≤ length l.self.tokens.now) × ((place : Place) × AreIndexes l.self.tokens.now l.fn.spot.at place l.extents.items l.spot.at)
    × FitWhole 0 l.extents.items
    × Passes l.self.tokens.now 0 l.fn.spot.at (P.shape_definition ∷ []) l.spot.at (P.extents ∷ [])

abbrev pub decreases-extents : goal.decreases-extents
decreases-extents l = length l.self.tokens.now - l.spot.at
