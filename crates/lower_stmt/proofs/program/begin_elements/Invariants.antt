use Rattle.std.proofs.Common.{◌≡◌, ◌-◌}
use Rattle.lower_base.specs.Drafts.{IsMade, draft}
use Rattle.lower_base.specs.Layouts.{layout}
use Rattle.lower_stmt.specs.Programs.{elements_begun}
use Rattle.lower_stmt.proofs.program.begin_elements.Given as goal

-- the elements that are left, from here on, have code, and give the whole
abbrev pub invariant-loop-element : goal.invariant-loop-element
invariant-loop-element l = record {
  made : IsMade (elements_begun l.view.typed.now (layout l.view.names) l.fn.number l.value (l.elements - l.element) l.element (draft l.u));
  whole :
      elements_begun l.view.typed.now (layout l.view.names) l.fn.number l.value (l.elements - l.element) l.element (draft l.u)
      ≡ elements_begun l.view.typed.now (layout l.view.names) l.fn.number l.value l.elements 0 (draft l.fn.u);
}
