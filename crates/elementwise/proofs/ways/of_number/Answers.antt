use Rattle.std.proofs.Common.{true, false}
use Rattle.paris_code.specs.declared.operands.Operation.TheVariants as P
use Rattle.elementwise.specs.declared.moved.Moved.TheVariants as M
use Rattle.elementwise.specs.declared.ways.Way.TheVariants as W
use Rattle.elementwise.proofs.Constants.{of_op, shifts_left, shifts_right, shifts_right_unsigned, with_constant}
use Rattle.elementwise.proofs.ways.of_number.Goals as goal

pub returns-in-UShiftLeft : goal.returns-in-UShiftLeft
returns-in-UShiftLeft c = λ shapes args. of_op shapes args c.args.op P.UShiftLeft c.args.dest c.args.left c.args.constant (W.Moved (M.ShiftedLeft c.args.left.offset c.args.constant)) c.in-UShiftLeft.is (shifts_left shapes args c.args.dest c.args.left c.args.constant)

pub returns-in-SShiftRight : goal.returns-in-SShiftRight
returns-in-SShiftRight c = λ shapes args. of_op shapes args c.args.op P.SShiftRight c.args.dest c.args.left c.args.constant (W.Moved (M.ShiftedRight c.args.left.offset c.args.constant false)) c.in-SShiftRight.is (shifts_right shapes args c.args.dest c.args.left c.args.constant)

pub returns-in-UShiftRight : goal.returns-in-UShiftRight
returns-in-UShiftRight c = λ shapes args. of_op shapes args c.args.op P.UShiftRight c.args.dest c.args.left c.args.constant (W.Moved (M.ShiftedRight c.args.left.offset c.args.constant true)) c.in-UShiftRight.is (shifts_right_unsigned shapes args c.args.dest c.args.left c.args.constant)

pub returns-in-SAdd : goal.returns-in-SAdd
returns-in-SAdd c = λ shapes args.
    with_constant shapes args c.args.op c.args.dest c.args.left c.args.constant c.work_of.result c.of_two.result c.work_of.ensures c.of_two.ensures
