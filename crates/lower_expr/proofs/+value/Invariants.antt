use Rattle.std.proofs.Common.{◌≡◌, ◌+◌, ◌*◌, [], drop, max}
use Rattle.cstar_tree.specs.declared.typed.TExpr.{size-TExpr}
use Rattle.lower_base.specs.Drafts.{draft}
use Rattle.lower_base.specs.Layouts.{layout}
use Rattle.lower_expr.specs.Values.{values_in}
use Rattle.lower_expr.proofs.+value.Given as goal

abbrev pub invariant-value::values-loop-e : goal.invariant-value::values-loop-e
invariant-value::values-loop-e l =
    values_in l.view.typed.now (layout l.view.names) l.own l.quiet (drop l.e-index l.es) l.outs.items (draft l.u) ≡ values_in l.view.typed.now (layout l.view.names) l.own l.quiet l.es [] (draft l.fn.u)

-- how deep an expression, or the deepest of its parts, is; what a function calls with the same one
-- stands below it
abbrev pub decreases-places::locate : goal.decreases-places::locate
decreases-places::locate l = 16 * size-TExpr l.e.now

abbrev pub decreases-places::read_to : goal.decreases-places::read_to
decreases-places::read_to l = 16 * size-TExpr l.e.now + 1

abbrev pub decreases-places::read_indexed_to : goal.decreases-places::read_indexed_to
decreases-places::read_indexed_to l = 16 * size-TExpr l.e.now + 2

abbrev pub decreases-value::value : goal.decreases-value::value
decreases-value::value l = 16 * size-TExpr l.e.now + 3

abbrev pub decreases-conversions::operand : goal.decreases-conversions::operand
decreases-conversions::operand l = 16 * size-TExpr l.e.now + 4

abbrev pub decreases-conversions::right_operand : goal.decreases-conversions::right_operand
decreases-conversions::right_operand l = 16 * size-TExpr l.e.now + 5

abbrev pub decreases-conversions::spread_to : goal.decreases-conversions::spread_to
decreases-conversions::spread_to l = 16 * size-TExpr l.e.now + 5

abbrev pub decreases-conversions::spread_value : goal.decreases-conversions::spread_value
decreases-conversions::spread_value l = 16 * size-TExpr l.e.now + 5

abbrev pub decreases-conversions::spread : goal.decreases-conversions::spread
decreases-conversions::spread l = 16 * size-TExpr l.e.now + 6

abbrev pub decreases-value::prefixed : goal.decreases-value::prefixed
decreases-value::prefixed l = 16 * size-TExpr l.inner.now + 7

abbrev pub decreases-value::binary_in_register : goal.decreases-value::binary_in_register
decreases-value::binary_in_register l = 16 * max (size-TExpr l.binary.now.left.now) (size-TExpr l.binary.now.right.now) + 7

abbrev pub decreases-value::binary_in_field : goal.decreases-value::binary_in_field
decreases-value::binary_in_field l = 16 * max (size-TExpr l.binary.now.left.now) (size-TExpr l.binary.now.right.now) + 7

abbrev pub decreases-value::operate_binary : goal.decreases-value::operate_binary
decreases-value::operate_binary l = 16 * max (size-TExpr l.binary.now.left.now) (size-TExpr l.binary.now.right.now) + 8

abbrev pub decreases-conditions::scalar_logical : goal.decreases-conditions::scalar_logical
decreases-conditions::scalar_logical l = 16 * max (size-TExpr l.left.now) (size-TExpr l.right.now) + 7

abbrev pub decreases-conditions::parallel_logical : goal.decreases-conditions::parallel_logical
decreases-conditions::parallel_logical l = 16 * max (size-TExpr l.left.now) (size-TExpr l.right.now) + 8

abbrev pub decreases-conditions::flag_operand : goal.decreases-conditions::flag_operand
decreases-conditions::flag_operand l = 16 * size-TExpr l.e.now + 6

abbrev pub decreases-conditions::join_to : goal.decreases-conditions::join_to
decreases-conditions::join_to l = 16 * max (size-TExpr l.left.now) (size-TExpr l.right.now) + 7

abbrev pub decreases-conditions::decide_or_narrow : goal.decreases-conditions::decide_or_narrow
decreases-conditions::decide_or_narrow l = 16 * max (size-TExpr l.left.now) (size-TExpr l.right.now) + 7

abbrev pub decreases-conditions::logical : goal.decreases-conditions::logical
decreases-conditions::logical l = 16 * max (size-TExpr l.left.now) (size-TExpr l.right.now) + 9

abbrev pub decreases-conditions::scalar_choice : goal.decreases-conditions::scalar_choice
decreases-conditions::scalar_choice l = 16 * max (size-TExpr l.choice.now.test.now) (max (size-TExpr l.choice.now.then.now) (size-TExpr l.choice.now.otherwise.now)) + 7

abbrev pub decreases-conditions::parallel_choice : goal.decreases-conditions::parallel_choice
decreases-conditions::parallel_choice l = 16 * max (size-TExpr l.choice.now.test.now) (max (size-TExpr l.choice.now.then.now) (size-TExpr l.choice.now.otherwise.now)) + 7

abbrev pub decreases-conditions::choose : goal.decreases-conditions::choose
decreases-conditions::choose l = 16 * max (size-TExpr l.choice.now.test.now) (max (size-TExpr l.choice.now.then.now) (size-TExpr l.choice.now.otherwise.now)) + 8

abbrev pub decreases-value::values : goal.decreases-value::values
decreases-value::values l = 16 * goal.size-value::values l + 7

abbrev pub decreases-places::locate_indexed : goal.decreases-places::locate_indexed
decreases-places::locate_indexed l = 16 * goal.size-places::locate_indexed l + 8

abbrev pub decreases-value::call_to : goal.decreases-value::call_to
decreases-value::call_to l = 16 * goal.size-value::call_to l + 8

abbrev pub decreases-value::print : goal.decreases-value::print
decreases-value::print l = 16 * goal.size-value::print l + 8

abbrev pub decreases-places::update : goal.decreases-places::update
decreases-places::update l = 16 * max (size-TExpr l.assignment.now.target.now) (size-TExpr l.assignment.now.value.now) + 7

abbrev pub decreases-places::assign : goal.decreases-places::assign
decreases-places::assign l = 16 * max (size-TExpr l.assignment.now.target.now) (size-TExpr l.assignment.now.value.now) + 8

abbrev pub decreases-places::step : goal.decreases-places::step
decreases-places::step l = 16 * size-TExpr l.target.now + 7

abbrev pub decreases-value::message_to : goal.decreases-value::message_to
decreases-value::message_to l = 16 * size-TExpr l.source.now + 7

abbrev pub decreases-conditions::arm : goal.decreases-conditions::arm
decreases-conditions::arm l = 16 * size-TExpr l.e.now + 5

abbrev pub decreases-conditions::test : goal.decreases-conditions::test
decreases-conditions::test l = 16 * size-TExpr l.e.now + 5

abbrev pub decreases-conditions::test_truth : goal.decreases-conditions::test_truth
decreases-conditions::test_truth l = 16 * size-TExpr l.e.now + 4

abbrev pub decreases-conditions::test_relation : goal.decreases-conditions::test_relation
decreases-conditions::test_relation l = 16 * max (size-TExpr l.binary.now.left.now) (size-TExpr l.binary.now.right.now) + 7

abbrev pub decreases-conditions::jump_or_test : goal.decreases-conditions::jump_or_test
decreases-conditions::jump_or_test l = 16 * max (size-TExpr l.left.now) (size-TExpr l.right.now) + 6

abbrev pub decreases-conditions::narrow_twice : goal.decreases-conditions::narrow_twice
decreases-conditions::narrow_twice l = 16 * max (size-TExpr l.left.now) (size-TExpr l.right.now) + 6

abbrev pub decreases-conversions::spread_operand : goal.decreases-conversions::spread_operand
decreases-conversions::spread_operand l = 16 * size-TExpr l.e.now + 7

abbrev pub decreases-conversions::test_spread : goal.decreases-conversions::test_spread
decreases-conversions::test_spread l = 16 * size-TExpr l.e.now + 8

abbrev pub decreases-conversions::cast : goal.decreases-conversions::cast
decreases-conversions::cast l = 16 * size-TExpr l.inner.now + 9
