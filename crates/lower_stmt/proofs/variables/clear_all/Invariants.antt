use Rattle.std.proofs.Common.{◌≡◌, drop}
use Rattle.lower_base.specs.Drafts.{draft}
use Rattle.lower_base.specs.Layouts.{layout}
use Rattle.lower_stmt.specs.Variables.{all_cleared}
use Rattle.lower_stmt.proofs.variables.clear_all.Given as goal

-- the variables that are left, from here on, give the whole
abbrev pub invariant-loop-local : goal.invariant-loop-local
invariant-loop-local l =
    all_cleared (layout l.view.names) l.at_start (drop l.local-index l.locals) l.number (draft l.u)
    ≡ all_cleared (layout l.view.names) l.at_start l.locals l.first (draft l.fn.u)
