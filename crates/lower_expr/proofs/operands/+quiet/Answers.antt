use Rattle.std.proofs.Common.{arith}
use Rattle.std.proofs.lemmas.Grind.{common_steps}
use Rattle.lower_expr.proofs.Lists.{quiet_left_index}
use Rattle.lower_expr.proofs.operands.+quiet.Goals as goal

pub is_quiet-returns-in-LeftIndex : goal.is_quiet-returns-in-LeftIndex
is_quiet-returns-in-LeftIndex t c =
    let indexes = c.in-LeftIndex in
    let code = quiet_left_index indexes.ty indexes.place indexes.indexes indexes.variable indexes.of in
    let is = indexes.is in
    grind (arith, common_steps, code, is)
