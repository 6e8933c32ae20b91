use Rattle.type_expressions.proofs.calls.fitting_call.Goals as goal

pub returns-clause-refused : goal.returns-clause-refused
returns-clause-refused c =
    let fit = rw c.as_slice.ensures.value at c.in_ok-call_fits.ensures.arguments in
    c.call_node.ensures.refused c.args.file.now c.args.site.function c.args.function c.args.place fit.1 fit.0
