use Rattle.std.proofs.Common.{true}
use Rattle.paris_code.specs.declared.operands.Operation.TheVariants as P
use Rattle.elementwise.specs.declared.moved.Moved.TheVariants as M
use Rattle.elementwise.specs.declared.ways.Way.TheVariants as W
use Rattle.elementwise.proofs.Constants.{of_op, multiplies, divides_unsigned, divides_signed, remains_unsigned, remains_signed}
use Rattle.elementwise.proofs.ways.of_power.Goals as goal

pub returns-in-SMultiply : goal.returns-in-SMultiply
returns-in-SMultiply c = λ shapes args. of_op shapes args c.args.op P.SMultiply c.args.dest c.args.left c.args.constant (W.Moved (M.ShiftedLeft c.args.left.offset c.args.k)) c.in-SMultiply.is
    (multiplies shapes args c.args.dest c.args.left c.args.constant c.args.k c.requires.power c.requires.positive)

pub returns-in-UTruncate : goal.returns-in-UTruncate
returns-in-UTruncate c = λ shapes args. of_op shapes args c.args.op P.UTruncate c.args.dest c.args.left c.args.constant (W.Moved (M.ShiftedRight c.args.left.offset c.args.k true)) c.in-UTruncate.is
    (divides_unsigned shapes args c.args.dest c.args.left c.args.constant c.args.k c.requires.power c.requires.positive)

pub returns-in-STruncate : goal.returns-in-STruncate
returns-in-STruncate c = λ shapes args. of_op shapes args c.args.op P.STruncate c.args.dest c.args.left c.args.constant (W.Moved (M.Divided c.args.left.offset c.args.k)) c.in-STruncate.is
    (divides_signed shapes args c.args.dest c.args.left c.args.constant c.args.k c.requires.power c.requires.positive)

pub returns-in-URem : goal.returns-in-URem
returns-in-URem c = λ shapes args. of_op shapes args c.args.op P.URem c.args.dest c.args.left c.args.constant c.of_bits.result c.in-URem.is
    (remains_unsigned shapes args c.args.dest c.args.left c.args.constant c.args.k c.requires.power c.requires.positive c.of_bits.result c.of_bits.ensures)

pub returns-in-SMod : goal.returns-in-SMod
returns-in-SMod c = λ shapes args. of_op shapes args c.args.op P.SMod c.args.dest c.args.left c.args.constant c.of_bits-in-SMod.result c.in-SMod.is
    (remains_signed shapes args c.args.dest c.args.left c.args.constant c.args.k c.requires.power c.requires.positive c.of_bits-in-SMod.result c.of_bits-in-SMod.ensures)
