use Rattle.std.proofs.Common.{◌≡◌, drop}
use Rattle.cstar_tree.specs.Conversions.{shape_among}
use Rattle.type_expressions.specs.Answers.{trees}
use Rattle.type_expressions.proofs.references.shape_among.Given as goal

abbrev pub invariant-loop-value : goal.invariant-loop-value
invariant-loop-value l = shape_among (trees (drop l.value-index l.values)) ≡ shape_among (trees l.values)
