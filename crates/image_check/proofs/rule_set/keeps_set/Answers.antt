use Rattle.std.proofs.Common.{map}
use Rattle.paris_code.specs.RuleSet.{OperandExists, is_of_set}
use Rattle.paris_code.specs.Rows.{operands_in, row_of}
use Rattle.paris_code.specs.Shapes.{shape_of}
use Rattle.image_check.proofs.Operands.{not_of_set, told_by_each}
use Rattle.image_check.proofs.rule_set.keeps_set.Goals as goal

pub returns : goal.returns
returns c =
    let shapes = map shape_of c.args.shapes.now in
    told_by_each (OperandExists shapes) is_of_set (not_of_set shapes) (operands_in c.row-row.result) c.operands.result.now (row_of c.args.instr.now) c.operands_exist.result
    c.operands.ensures c.row-row.ensures c.operands_exist.ensures
