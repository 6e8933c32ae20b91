use Rattle.std.proofs.Common.{◌≡◌, ◌+◌, ◌-◌, ◌++◌, length}
use Rattle.lower_base.specs.Layouts.{entries_of}
use Rattle.lower_stmt.specs.Programs.{element_finals}
use Rattle.lower_stmt.proofs.program.add_elements.Given as goal

-- those so far, and those of the elements that are left, are the whole
abbrev pub invariant-loop-element : goal.invariant-loop-element
invariant-loop-element l = record {
  items :
      l.finals.items ++ element_finals l.info l.set (entries_of l.info - l.element) l.element (length l.finals.items)
      ≡ l.fn.finals.items ++ element_finals l.info l.set (entries_of l.info) 0 (length l.fn.finals.items);
  count : length l.finals.items ≡ length l.fn.finals.items + l.element;
}
