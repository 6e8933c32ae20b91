use Rattle.std.proofs.Common.{◌≡◌, false, arith}
use Rattle.std.proofs.lemmas.Grind.{common_steps}
use Rattle.lower_base.specs.Layouts.{layout}
use Rattle.lower_expr.proofs.Lists.{length_of_and, length_of_or, length_of_conversion, length_of_parallel_cast, length_of_call, length_of_left_index, length_of_printf, spot_length_of_left_index}
use Rattle.lower_expr.specs.Steps.{is_kept}
use Rattle.lower_expr.proofs.length.+length.Goals as goal

pub length-returns-in_ok-located-in-LeftIndex : goal.length-returns-in_ok-located-in-LeftIndex
length-returns-in_ok-located-in-LeftIndex t c =
    let index = c.in-LeftIndex in
    let code = length_of_left_index c.args.view.now.typed.now (layout c.args.view.now.names) c.args.bits index.ty index.place index.indexes index.variable index.of in
    let is = index.is in
    grind (arith, common_steps, code, is)

pub length-returns-in_ok-list_length-in-Call : goal.length-returns-in_ok-list_length-in-Call
length-returns-in_ok-list_length-in-Call t c =
    let call = c.in-Call in
    let code = length_of_call c.args.view.now.typed.now (layout c.args.view.now.names) c.args.bits call.ty call.instance call.arguments in
    let is = call.is in
    grind (arith, common_steps, code, is)

pub length-returns-in_ok-list_length-in-Printf : goal.length-returns-in_ok-list_length-in-Printf
length-returns-in_ok-list_length-in-Printf t c =
    let printed = c.in-Printf in
    let code = length_of_printf c.args.view.now.typed.now (layout c.args.view.now.names) c.args.bits printed.ty printed.pieces printed.arguments in
    let is = printed.is in
    grind (arith, common_steps, code, is)

pub spot_length-returns-in-LeftIndex : goal.spot_length-returns-in-LeftIndex
spot_length-returns-in-LeftIndex t c =
    let index = c.in-LeftIndex in
    let code = spot_length_of_left_index c.args.view.now.typed.now (layout c.args.view.now.names) index.ty index.place index.indexes index.variable index.of in
    let is = index.is in
    grind (arith, common_steps, code, is)

pub length-returns-in-LogicalOr : goal.length-returns-in-LogicalOr
length-returns-in-LogicalOr t c =
    let operands = c.in-LogicalOr in
    let code = length_of_or c.args.view.now.typed.now (layout c.args.view.now.names) c.args.bits operands.ty operands.left operands.right in
    let is = operands.is in
    grind (arith, common_steps, code, is)

pub length-returns-in-LogicalAnd : goal.length-returns-in-LogicalAnd
length-returns-in-LogicalAnd t c =
    let operands = c.in-LogicalAnd in
    let code = length_of_and c.args.view.now.typed.now (layout c.args.view.now.names) c.args.bits operands.ty operands.left operands.right in
    let is = operands.is in
    grind (arith, common_steps, code, is)

pub length-returns-in-ParallelCast : goal.length-returns-in-ParallelCast
length-returns-in-ParallelCast t c =
    let cast = c.in-ParallelCast in
    let code = length_of_parallel_cast c.args.view.now.typed.now (layout c.args.view.now.names) c.args.bits cast.ty cast.operand in
    let is = cast.is in
    grind (arith, common_steps, code, is)

pub length-returns-else-stays_scalar : goal.length-returns-else-stays_scalar
length-returns-else-stays_scalar t c =
    let convert = c.in-Convert in
    let is = convert.is in
    let kept : is_kept convert.operand.value ≡ false = grind (arith, common_steps) in
    let code = length_of_conversion c.args.view.now.typed.now (layout c.args.view.now.names) c.args.bits convert.ty convert.operand kept in
    grind (arith, common_steps, code, is)
