use Rattle.std.proofs.Common.{◌≡◌, ◌+◌, drop}
use Rattle.lower_base.specs.Layouts.{layout}
use Rattle.lower_stmt.specs.Lengths.{locals_length_of}
use Rattle.lower_stmt.proofs.length.locals_length.Given as goal

-- what was counted so far, and the variables that are left, are the whole
abbrev pub invariant-loop-local : goal.invariant-loop-local
invariant-loop-local l =
    l.sum + locals_length_of l.view.typed.now (layout l.view.names) l.at_start (drop l.local-index l.locals) ≡ locals_length_of l.view.typed.now (layout l.view.names) l.at_start l.locals
