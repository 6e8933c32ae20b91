use Rattle.std.proofs.Common.{◌≡◌, ◌-◌}
use Rattle.lower_base.specs.Drafts.{IsMade, draft}
use Rattle.lower_base.specs.Layouts.{layout}
use Rattle.lower_expr.specs.Spots.{elements_stored}
use Rattle.lower_expr.proofs.spots.store_elements.Given as goal

-- the elements that are left, from here on, give the whole
abbrev pub invariant-loop-element : goal.invariant-loop-element
invariant-loop-element l = record {
  made : IsMade (elements_stored l.view.typed.now (layout l.view.names) l.array l.index l.from (l.element-end - l.element) l.element (draft l.u));
  whole : elements_stored l.view.typed.now (layout l.view.names) l.array l.index l.from (l.element-end - l.element) l.element (draft l.u)
      ≡ elements_stored l.view.typed.now (layout l.view.names) l.array l.index l.from l.element-end 0 (draft l.fn.u);
}
