use Rattle.std.proofs.Common.{◌≡◌, ◌-◌}
use Rattle.lower_base.specs.Drafts.{IsMade, draft}
use Rattle.lower_base.specs.Layouts.{layout}
use Rattle.lower_expr.specs.Spots.{elements_loaded}
use Rattle.lower_expr.proofs.spots.load_elements.Given as goal

-- the elements that are left, from here on, give the whole
abbrev pub invariant-loop-element : goal.invariant-loop-element
invariant-loop-element l = record {
  made : IsMade (elements_loaded l.view.typed.now (layout l.view.names) l.signed l.array l.index l.dest (l.element-end - l.element) l.element (draft l.u));
  whole : elements_loaded l.view.typed.now (layout l.view.names) l.signed l.array l.index l.dest (l.element-end - l.element) l.element (draft l.u)
      ≡ elements_loaded l.view.typed.now (layout l.view.names) l.signed l.array l.index l.dest l.element-end 0 (draft l.fn.u);
}
