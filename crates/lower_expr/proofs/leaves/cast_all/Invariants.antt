use Rattle.std.proofs.Common.{◌≡◌}
use Rattle.lower_base.specs.Drafts.{draft}
use Rattle.lower_expr.specs.Values.{casts_put}
use Rattle.lower_expr.proofs.leaves.cast_all.Given as goal

-- the casts that are left, from here on, give the whole
abbrev pub invariant-loop-kind : goal.invariant-loop-kind
invariant-loop-kind l =
    (goal.iterator-loop-kind).can_next l.kind-iterator ×
    (goal.iterator-loop-kind).is_finite l.kind-iterator ×
    (casts_put l.kind-iterator.iter.rest.now l.register (draft l.u) ≡ casts_put l.elems l.register (draft l.fn.u))
