use Rattle.std.proofs.Common.{arith, [], ◌∷◌}
use Rattle.std.proofs.lemmas.Result.{err_from_is_err_and}
use Rattle.grammar_parts.specs.Parts as P
use Rattle.cstar_parser.specs.Heads.{word_of_branch}
use Rattle.cstar_parser.proofs.Outside.{begin_outside, behind_outside, branch_word, marked_outside, stop_outside, takes_branch, unmissed}
use Rattle.cstar_parser.proofs.reader.Reader.read_branch_head.Goals as goal

pub returns-clause-read : goal.returns-clause-read
returns-clause-read c =
    let word = c.in_ok-place.ensures.read in
    let test = c.in_ok-test.ensures.read in
    record { spelled = record { opened = c.expect.new.spot.at; begins = rw c.branch_mark.ensures at word.spelled; test_is = test.spelled }; fits = test.fits; forward = omega arith; inside = test.inside }

pub returns-in_err-place-clause-follows : goal.returns-in_err-place-clause-follows
returns-in_err-place-clause-follows c =
    let p = err_from_is_err_and c.from_residual.result c.from_residual.ensures.1 in rw (p.1, p.2) (λ around e is. unmissed _ (word_of_branch c.is_mark-is_where.result) (branch_word _ c.is_mark-is_where.result is c.is_mark-is_where.ensures.yes c.is_mark-is_where.ensures.no) (rw c.branch_mark.ensures at c.in_err-place.ensures.stops) begin_outside)

pub returns-in_err-test-clause-follows : goal.returns-in_err-test-clause-follows
returns-in_err-test-clause-follows c =
    let p = err_from_is_err_and c.from_residual-in_err-test.result c.from_residual-in_err-test.ensures.1 in rw (p.1, p.2) (λ around e is. stop_outside _ (P.condition ∷ []) (P.statement ∷ P.else_or_none ∷ P.ended ∷ []) c.in_err-test.ensures.follows (marked_outside P.statement [] (rw c.branch_mark.ensures at c.in_ok-place.ensures.read) (takes_branch c.is_mark-is_where.result) (omega arith) begin_outside) (omega arith))

pub returns-clause-follows : goal.returns-clause-follows
returns-clause-follows c =
    λ around e is. behind_outside (P.statement ∷ P.else_or_none ∷ P.ended ∷ []) c.in_ok-test.ensures.follows (marked_outside P.statement [] (rw c.branch_mark.ensures at c.in_ok-place.ensures.read) (takes_branch c.is_mark-is_where.result) (omega arith) begin_outside) (omega arith)
