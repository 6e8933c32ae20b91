use Rattle.std.proofs.Common.{◌≡◌, ◌+◌, drop}
use Rattle.lower_base.specs.Layouts.{layout}
use Rattle.lower_stmt.proofs.LengthRows.{listed_length}
use Rattle.lower_stmt.specs.Lengths.{statement_length_of}
use Rattle.lower_stmt.proofs.length.+statement_length.Given as goal

-- what was counted so far, and the statements that are left, are the whole
abbrev pub invariant-statement_length-loop-inner : goal.invariant-statement_length-loop-inner
invariant-statement_length-loop-inner l =
    l.sum + listed_length l.view.typed.now (layout l.view.names) l.has_result l.saved (drop l.inner-index l.inner-items)
    ≡ statement_length_of l.view.typed.now (layout l.view.names) l.has_result l.saved l.s
