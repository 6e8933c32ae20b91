use Rattle.std.proofs.Common.{arith, sym, ap, ◌∙◌, ◌≡◌, ◌*◌}
use Rattle.vp_sets.specs.Positions.{position_count}
use Rattle.vp_sets.proofs.PositionLaws.{fit_none, unfit_later, unfit_zero, unfit_above, fit_first, count_of_first}
use Rattle.vp_sets.proofs.geometry.+counted.Goals as goal

pub returns-in-None : goal.returns-in-None
returns-in-None t c = fit_none c.args.extents.now c.in-None.ensures.cases

pub returns-in_default : goal.returns-in_default
returns-in_default t c =
    unfit_later c.args.extents.now c.in-Some.first.now c.in-Some.later.now c.in-Some.ensures.cases.0 c.in_default.ensures

pub returns-then-count-eq0 : goal.returns-then-count-eq0
returns-then-count-eq0 t c =
    let whole : c.from.result * c.from-in-Some.result ≡ c.in-Some.first.now * position_count c.in-Some.later.now =
    ap (λ n. n * c.from-in-Some.result) c.from.ensures ∙ ap (λ n. c.in-Some.first.now * n) (c.from-in-Some.ensures ∙ c.in-Some-counted.ensures.1) in
    unfit_zero c.args.extents.now c.in-Some.first.now c.in-Some.later.now c.in-Some.ensures.cases.0 (omega arith)

pub returns-then-count-from : goal.returns-then-count-from
returns-then-count-from t c =
    let whole : c.from.result * c.from-in-Some.result ≡ c.in-Some.first.now * position_count c.in-Some.later.now =
    ap (λ n. n * c.from-in-Some.result) c.from.ensures ∙ ap (λ n. c.in-Some.first.now * n) (c.from-in-Some.ensures ∙ c.in-Some-counted.ensures.1) in
    unfit_above c.args.extents.now c.in-Some.first.now c.in-Some.later.now c.in-Some.ensures.cases.0 (omega (arith, c.from-in-Some-2.ensures))

pub returns-else-count-from : goal.returns-else-count-from
returns-else-count-from t c =
    let whole : c.from.result * c.from-in-Some.result ≡ c.in-Some.first.now * position_count c.in-Some.later.now =
    ap (λ n. n * c.from-in-Some.result) c.from.ensures ∙ ap (λ n. c.in-Some.first.now * n) (c.from-in-Some.ensures ∙ c.in-Some-counted.ensures.1) in
    let first = c.in-Some.ensures.cases.0 in (
      fit_first c.args.extents.now c.in-Some.first.now c.in-Some.later.now first c.in-Some-counted.ensures.0 (omega arith) (omega (arith, c.from-in-Some-2.ensures)),
      whole ∙ sym (count_of_first c.args.extents.now c.in-Some.first.now c.in-Some.later.now first),
    )
