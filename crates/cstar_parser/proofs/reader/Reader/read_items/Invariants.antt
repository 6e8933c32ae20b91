use Rattle.cstar_parser.specs.Outside.{Passes}
use Rattle.grammar_parts.specs.Parts as P
use Rattle.std.proofs.Common.{◌≤◌, ◌-◌, length, [], ◌∷◌}
use Rattle.cstar_tree.specs.Items.{AreItems}
use Rattle.cstar_parser.specs.Fits.{FitItems}
use Rattle.cstar_parser.proofs.reader.Reader.read_items.Given as goal

abbrev pub invariant-items : goal.invariant-items
invariant-items l =
    (l.spot.at ≤ length l.self.tokens.now) × AreItems l.self.tokens.now 0 l.items.items l.spot.at × FitItems l.items.items
    × Passes l.self.tokens.now 0 0 (P.items ∷ []) l.spot.at (P.items ∷ [])

abbrev pub decreases-items : goal.decreases-items
decreases-items l = length l.self.tokens.now - l.spot.at
