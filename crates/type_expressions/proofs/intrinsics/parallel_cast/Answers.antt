use Rattle.std.proofs.lemmas.Result.{err_from_is_err_and}
use Rattle.type_expressions.proofs.AtSites.{cast_away, cast_types}
use Rattle.type_expressions.proofs.intrinsics.parallel_cast.Goals as goal

pub returns-in_err-holds : goal.returns-in_err-holds
returns-in_err-holds c program here written e site is h =
    let p = err_from_is_err_and c.from_residual.result c.from_residual.ensures.1 in
    rw (p.1, p.2) (cast_away program here c.args.place written c.args.ty e site.current is h c.in_err-holds.ensures)

pub returns : goal.returns
returns c program here written e site is h = cast_types e _ site.current is c.in_ok-holds.ensures h c.in_ok-operand.ensures
