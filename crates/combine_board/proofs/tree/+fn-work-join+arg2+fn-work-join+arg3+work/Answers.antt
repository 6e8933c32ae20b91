use Rattle.std.proofs.Common.{ℕ, true, sym, ap, ◌∙◌, subst, arith, rules}
use Rattle.combine_core.specs.Machine.{idle, both_parts}
use Rattle.combine_board.specs.Values.{WholeHoldsEvery}
use Rattle.combine_board.specs.Tree.{IsFinished}
use Rattle.combine_board.proofs.Workers.{both_finished, kept_fresh, pow_half}
use Rattle.combine_board.proofs.tree.+fn-work-join+arg2+fn-work-join+arg3+work.Goals as goal

pub join-one-requires-after_bounds : goal.join-one-requires-after_bounds
join-one-requires-after_bounds g t c κs within =
    let s = c.split-other.ensures in
    let one = ap (λ p. p.worker) s.kept in
    let two = ap (λ p. p.worker) s.given in
    let half = pow_half c.args.depth c.if-depth-eq0.false in
    let first = ap (λ p. p.worker.draws) s.kept in
    let second = ap (λ p. p.worker.draws) s.given in (
      (
        search rules,
        (
          search rules,
          (
            search rules,
            (
              search rules,
              (
                (
                  search rules,
                  search rules,
                  search rules,
                  ap (λ p. p.board) s.kept ∙ c.requires.of,
                  one ∙ kept_fresh c.args.pass.worker c.requires.fresh ∙ ap (λ w. idle true w.draws) (sym one),
                  (let w = c.requires.workers in omega arith),
                  (let d = c.requires.draws in omega arith),
                ),
                search rules,
              ),
            ),
          ),
        ),
      ),
      (
        search rules,
        (
          search rules,
          (
            search rules,
            (
              search rules,
              (
                (
                  search rules,
                  search rules,
                  search rules,
                  ap (λ p. p.board) s.given ∙ c.requires.of,
                  two ∙ ap (λ w. idle true w.draws) (sym two),
                  (let w = c.requires.workers in omega arith),
                  (let d = c.requires.draws in omega arith),
                ),
                search rules,
              ),
            ),
          ),
        ),
      ),
    )

pub returns-clause-finished : goal.returns-clause-finished
returns-clause-finished g t c =
    let os = c.args.board.now.plan.slots in
    let s = c.split-other.ensures in
    let first = ap (λ p. p.worker.draws) s.kept in
    let second = ap (λ p. p.worker.draws) s.given in
    let both = ap (λ p. p.worker) c.join.ensures.both in
    let done = both_finished os c.split-other.new.pass.worker.draws c.split-other.result.worker.draws _ _ c.join-one.ensures.first.1 c.join-one.ensures.second.1 (subst (λ w. WholeHoldsEvery os w) both c.join.ensures.whole) in
    subst (λ w. IsFinished os c.args.pass.worker.draws w) (sym both)
    (subst (λ (n : ℕ). IsFinished os n (both_parts c.join-one.result.0.worker c.join-one.result.1.worker)) (omega arith) done)
