use Rattle.std.proofs.Common.{map}
use Rattle.paris_code.specs.RuleField.{OperandFits, is_measured}
use Rattle.paris_code.specs.Rows.{operands_in, row_of}
use Rattle.paris_code.specs.Shapes.{shape_of}
use Rattle.image_check.proofs.Operands.{not_measured, told_by_each}
use Rattle.image_check.proofs.rule_field.keeps_field.Goals as goal

pub returns : goal.returns
returns c =
    let shapes = map shape_of c.args.shapes.now in
    told_by_each (OperandFits shapes c.args.slots) is_measured (not_measured shapes c.args.slots) (operands_in c.row-row.result) c.operands.result.now (row_of c.args.instr.now) c.operands_fit.result
    c.operands.ensures c.row-row.ensures c.operands_fit.ensures
