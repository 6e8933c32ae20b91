use Rattle.std.proofs.Common.{◌≡◌, arith}
use Rattle.std.proofs.lemmas.Grind.{common_steps}
use Rattle.lower_base.specs.Drafts.{Makes, draft, out_of}
use Rattle.lower_base.specs.Layouts.{layout}
use Rattle.lower_expr.proofs.Lists.{computed_call_made, computed_to_call}
use Rattle.lower_expr.specs.Values.{call_of}
use Rattle.lower_expr.proofs.effects.+compute_to.Goals as goal

pub returns-in_ok-call_to-in-Call : goal.returns-in_ok-call_to-in-Call
returns-in_ok-call_to-in-Call t c =
    let call = c.in-Call in
    let is = call.is in
    let made = c.in_ok-call_to-in-Call.ensures.draft in
    let slice = c.as_slice.ensures.value in
    let same : call_of c.args.view.now.typed.now (layout c.args.view.now.names) call.instance call.arguments.items (out_of c.args.dest) (draft c.args.u.now) ≡ Makes c.in_ok-call_to-in-Call.field-0 (draft c.call_to.new.u) = grind (arith, common_steps, made, slice, is) in
    let code = computed_to_call c.args.view.now.typed.now (layout c.args.view.now.names) call.ty call.instance call.arguments (out_of c.args.dest) _ _ _ same in
    record { draft = grind (arith, common_steps, code, is) }

pub call_to-requires : goal.call_to-requires
call_to-requires t c =
    let call = c.in-Call in
    let is = call.is in
    let slice = c.as_slice.ensures.value in
    let same : c.as_slice.result.now ≡ call.arguments.items = cc in
    record { made = computed_call_made _ _ _ _ _ _ _ _ _ is same c.requires.made }
