use Rattle.std.proofs.Common.{◌≡◌, drop}
use Rattle.lower_base.specs.Drafts.{IsMade, draft}
use Rattle.lower_base.specs.Layouts.{layout}
use Rattle.lower_stmt.specs.Variables.{all_initialised}
use Rattle.lower_stmt.proofs.variables.initialise_all.Given as goal

-- the variables that are left, from here on, have code, and give the whole
abbrev pub invariant-loop-local : goal.invariant-loop-local
invariant-loop-local l = record {
  made : IsMade (all_initialised l.view.typed.now (layout l.view.names) (drop l.local-index l.locals) l.number (draft l.u));
  whole :
      all_initialised l.view.typed.now (layout l.view.names) (drop l.local-index l.locals) l.number (draft l.u)
      ≡ all_initialised l.view.typed.now (layout l.view.names) l.locals l.first (draft l.fn.u);
}
