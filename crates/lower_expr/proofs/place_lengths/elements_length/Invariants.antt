use Rattle.std.proofs.Common.{◌≡◌, ◌+◌, ◌-◌}
use Rattle.lower_base.specs.Layouts.{layout}
use Rattle.lower_expr.specs.Lengths.{elements_length}
use Rattle.lower_expr.proofs.place_lengths.elements_length.Given as goal

-- what was counted so far, and the elements that are left, are the whole
abbrev pub invariant-loop-element : goal.invariant-loop-element
invariant-loop-element l =
    l.sum + elements_length (layout l.view.names) (l.elements - l.element) l.element ≡ elements_length (layout l.view.names) l.elements 0
