use Rattle.lower_expr.proofs.Casts.{cast_more, casts_done}
use Rattle.lower_expr.proofs.leaves.cast_all.Goals as goal

pub loop-kind-preserved : goal.loop-kind-preserved
loop-kind-preserved c = (tt, tt, cast_more _ _ _ _ _ _ _ c.in-Some.ensures.steps c.in_ok-put.ensures.draft c.loop-kind.invariant.2)

pub returns : goal.returns
returns c = record { draft = casts_done _ _ _ _ c.in-None.ensures.steps.0 c.loop-kind.invariant.2 }
