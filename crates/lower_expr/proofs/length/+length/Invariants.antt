use Rattle.std.proofs.Common.{◌≡◌, ◌+◌, ◌*◌, drop, max}
use Rattle.cstar_tree.specs.declared.typed.TExpr.{size-TExpr}
use Rattle.lower_base.specs.Layouts.{layout}
use Rattle.lower_expr.specs.Lengths.{lengths_in}
use Rattle.lower_expr.proofs.length.+length.Given as goal

abbrev pub invariant-lengths-loop-e : goal.invariant-lengths-loop-e
invariant-lengths-loop-e l =
    l.sum + lengths_in l.view.typed.now (layout l.view.names) l.own l.quiet (drop l.e-index l.es) ≡ lengths_in l.view.typed.now (layout l.view.names) l.own l.quiet l.es

-- how deep an expression, or the deepest of its parts, is; what a function calls with the same one
-- stands below it
abbrev pub decreases-spot_length : goal.decreases-spot_length
decreases-spot_length l = 16 * size-TExpr l.e.now

abbrev pub decreases-truth_length : goal.decreases-truth_length
decreases-truth_length l = 16 * size-TExpr l.e.now

abbrev pub decreases-length : goal.decreases-length
decreases-length l = 16 * size-TExpr l.e.now

abbrev pub decreases-used_length : goal.decreases-used_length
decreases-used_length l = 16 * size-TExpr l.e.now + 1

abbrev pub decreases-test_length : goal.decreases-test_length
decreases-test_length l = 16 * size-TExpr l.e.now + 2

abbrev pub decreases-arm_length : goal.decreases-arm_length
decreases-arm_length l = 16 * size-TExpr l.e.now + 2

abbrev pub decreases-flag_length : goal.decreases-flag_length
decreases-flag_length l = 16 * size-TExpr l.e.now + 3

abbrev pub decreases-joined_length : goal.decreases-joined_length
decreases-joined_length l = 16 * max (size-TExpr l.left.now) (size-TExpr l.right.now) + 4

abbrev pub decreases-logical_length : goal.decreases-logical_length
decreases-logical_length l = 16 * max (size-TExpr l.left.now) (size-TExpr l.right.now) + 5

abbrev pub decreases-lengths : goal.decreases-lengths
decreases-lengths l = 16 * goal.size-lengths l + 3

abbrev pub decreases-list_length : goal.decreases-list_length
decreases-list_length l = 16 * goal.size-list_length l + 4

abbrev pub decreases-located_length : goal.decreases-located_length
decreases-located_length l = 16 * goal.size-located_length l + 5

abbrev pub decreases-cast_length : goal.decreases-cast_length
decreases-cast_length l = 16 * size-TExpr l.e.now + 3
