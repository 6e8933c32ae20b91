use Rattle.cstar_tree.specs.Conversions.{AreSpread}
use Rattle.type_expressions.specs.Answers.{trees}
use Rattle.type_expressions.proofs.references.spread_each.Given as goal

abbrev pub invariant-loop-value : goal.invariant-loop-value
invariant-loop-value l = AreSpread l.shape (trees l.yielded) l.at_positions.items
