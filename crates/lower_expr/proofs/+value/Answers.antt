use Rattle.std.proofs.Common.{arith}
use Rattle.std.proofs.lemmas.Grind.{common_steps}
use Rattle.lower_base.specs.Drafts.{draft, out_of}
use Rattle.lower_base.specs.Layouts.{layout}
use Rattle.lower_expr.proofs.Lists.{spot_of_left_index, value_of_call, value_of_printf}
use Rattle.lower_expr.proofs.+value.Goals as goal

pub places::locate-returns-in-LeftIndex : goal.places::locate-returns-in-LeftIndex
places::locate-returns-in-LeftIndex t c =
    let index = c.in-LeftIndex in
    let code = spot_of_left_index c.args.view.now.typed.now (layout c.args.view.now.names) index.ty index.place index.indexes index.variable index.of (draft c.args.u.now) in
    let is = index.is in
    record { draft = grind (arith, common_steps, code, is) }

pub value::value-returns-in-Printf : goal.value::value-returns-in-Printf
value::value-returns-in-Printf t c =
    let printed = c.in-Printf in
    let code = value_of_printf c.args.view.now.typed.now (layout c.args.view.now.names) c.args.bits printed.ty printed.pieces printed.arguments (draft c.args.u.now) in
    let is = printed.is in
    record { draft = grind (arith, common_steps, code, is) }

pub value::value-returns-in_ok-dest-in-Call : goal.value::value-returns-in_ok-dest-in-Call
value::value-returns-in_ok-dest-in-Call t c =
    let call = c.in-Call in
    let fresh = c.in_ok-dest-in-Call in
    let code = value_of_call c.args.view.now.typed.now (layout c.args.view.now.names) c.args.bits call.ty call.instance call.arguments (out_of fresh.dest) _ _ fresh.ensures.draft in
    let is = call.is in
    record { draft = grind (arith, common_steps, code, is) }
