use Rattle.std.proofs.Common.{◌≡◌, ◌++◌, ◌-◌}
use Rattle.drill_text.specs.Text.{statements}
use Rattle.drill_text.proofs.text.push_statements.Given as goal

abbrev pub invariant-all : goal.invariant-all
invariant-all l =
    l.text.items ++ statements (200 - l._count) l.draws.state ≡ l.fn.text.items ++ statements 200 l.fn.draws.state
