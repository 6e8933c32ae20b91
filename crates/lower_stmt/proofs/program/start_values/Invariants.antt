use Rattle.std.proofs.Common.{◌≡◌, drop}
use Rattle.lower_base.specs.Drafts.{IsMade, draft}
use Rattle.lower_base.specs.Layouts.{layout}
use Rattle.lower_stmt.specs.Programs.{start_values_of}
use Rattle.lower_stmt.proofs.program.start_values.Given as goal

-- the variables that are left, from here on, have code, and give the whole
abbrev pub invariant-loop-info : goal.invariant-loop-info
invariant-loop-info l = record {
  made : IsMade (start_values_of l.view.typed.now (layout l.view.names) (drop l.info-index l.info-items) l.number (draft l.u));
  whole :
      start_values_of l.view.typed.now (layout l.view.names) (drop l.info-index l.info-items) l.number (draft l.u)
      ≡ start_values_of l.view.typed.now (layout l.view.names) l.info-items 0 (draft l.fn.u);
}
