use Rattle.std.proofs.Common.{◌≡◌, ◌+◌, ◌*◌, ◌-◌, ◌^◌, min, take}
use Rattle.std.specs.Option.{is_some}
use Rattle.cstar_tree.specs.Calls.{calls_in_each}
use Rattle.type_expressions.specs.Instances.{Grows}
use Rattle.type_expressions.specs.Meetings.{Meets}
use Rattle.type_expressions.specs.Recorded.{Finds}
use Rattle.type_expressions.proofs.Listing.{AreListedTo, IsToldIndexed}
use Rattle.type_expressions.proofs.walk.+expression.Given as goal

abbrev pub decreases-typed_value : goal.decreases-typed_value
decreases-typed_value l = goal.size-typed_value l * 8 + 2

abbrev pub decreases-typed_expr : goal.decreases-typed_expr
decreases-typed_expr l = goal.size-typed_expr l * 8 + 1

abbrev pub decreases-operands : goal.decreases-operands
decreases-operands l = goal.size-operands l * 8 + 0

abbrev pub decreases-list : goal.decreases-list
decreases-list l = goal.size-list l * 8 + 0

abbrev pub decreases-axis_value : goal.decreases-axis_value
decreases-axis_value l = goal.size-axis_value l * 8 + 3

abbrev pub decreases-source_value : goal.decreases-source_value
decreases-source_value l = goal.size-source_value l * 8 + 0

abbrev pub invariant-list-loop-part : goal.invariant-list-loop-part
invariant-list-loop-part l =
    AreListedTo l.found.instances l.file l.locals l.site l.e l.indexed l.part-items l.part-index l.typed
    × (l.axis ≡ min l.part-index (2 ^ 32 - 1))
    × IsToldIndexed l.file l.locals l.site l.e l.indexed
    × Grows l.file l.fn.found.instances l.found.instances
    × Meets l.fn.found.instances l.found.instances l.file l.locals l.site (λ here. calls_in_each here (take l.part-index l.part-items))
    × Finds l.found.instances l.file l.locals l.site l.e (is_some l.typed) l.fn.found.faults.least l.found.faults.least
