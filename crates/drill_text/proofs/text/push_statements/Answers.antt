use Rattle.std.proofs.Common.{◌++◌, ◌<◌, ◌≤◌, arith}
use Rattle.drill_text.specs.Text.{statements}
use Rattle.drill_text.proofs.Statements.{no_more, one_more}
use Rattle.drill_text.proofs.text.push_statements.Goals as goal

pub all-preserved : goal.all-preserved
all-preserved c =
    let whole = c.args.text.now.items ++ statements 200 c.args.draws.now.state in
    let left : c.all._count < 200 = omega arith in
    one_more 200 c.all._count c.all.draws.state c.draw-kind.result c.draw-kind.new.self.state c.push_statement.new.draws.state c.all.text.items c.push_statement.new.text.items whole left c.all.invariant c.draw-kind.ensures.drawn c.draw-kind.ensures.state c.in_ok-push_statement.ensures.text c.in_ok-push_statement.ensures.state

pub returns : goal.returns
returns c =
    let whole = c.args.text.now.items ++ statements 200 c.args.draws.now.state in
    let none : 200 ≤ c.all._count = omega arith in
    no_more 200 c.all._count c.all.draws.state c.all.text.items whole none c.all.invariant
