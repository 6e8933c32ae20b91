use Rattle.std.proofs.Common.{arith, [], ◌∷◌}
use Rattle.std.proofs.lemmas.Result.{err_from_is_err_and}
use Rattle.grammar_parts.specs.Parts as P
use Rattle.grammar_parts.proofs.Words.{takes_mark}
use Rattle.cstar_parser.proofs.Outside.{begin_outside, behind_outside, marked_outside, opened_outside, refused_outside, some_part, stop_outside, takes_part, unmissed}
use Rattle.cstar_tree.specs.Statements as X
use Rattle.cstar_parser.proofs.StatementFitting.{fit_none}
use Rattle.cstar_parser.proofs.reader.Reader.read_part.Goals as goal

pub returns-then-is_mark-clause-read : goal.returns-then-is_mark-clause-read
returns-then-is_mark-clause-read c =
    let end = c.in_ok-expect.ensures.read in
    record { spelled = X.no_part end.spelled; fits = fit_none c.requires.depth; forward = end.forward; inside = end.inside }

pub returns-clause-read : goal.returns-clause-read
returns-clause-read c =
    let part = c.in_ok-part.ensures.read in
    let end = c.in_ok-expect-2.ensures.read in
    record { spelled = X.part part.spelled.spelled end.spelled; fits = part.fits; forward = omega arith; inside = end.inside }

pub returns-in_err-expect-clause-follows : goal.returns-in_err-expect-clause-follows
returns-in_err-expect-clause-follows c =
    let p = err_from_is_err_and c.from_residual.result c.from_residual.ensures.1 in rw (p.1, p.2) (unmissed _ c.args.end (c.is_mark.ensures.yes c.if-is_mark.true) c.in_err-expect.ensures.stops begin_outside)

pub returns-then-is_mark-clause-follows : goal.returns-then-is_mark-clause-follows
returns-then-is_mark-clause-follows c =
    marked_outside (P.part c.args.end) [] c.in_ok-expect.ensures.read (takes_part c.args.end) (omega arith) begin_outside

pub returns-in_err-part-clause-follows : goal.returns-in_err-part-clause-follows
returns-in_err-part-clause-follows c =
    let p = err_from_is_err_and c.from_residual-in_err-part.result c.from_residual-in_err-part.ensures.1 in rw (p.1, p.2) (stop_outside _ (P.whole ∷ []) (P.mark c.args.end ∷ []) c.in_err-part.ensures.follows (opened_outside (P.part c.args.end) P.whole (P.mark c.args.end ∷ []) [] (some_part _ c.args.end (c.is_mark.ensures.no c.if-is_mark.false)) tt begin_outside) (omega arith))

pub returns-in_err-expect-2-clause-follows : goal.returns-in_err-expect-2-clause-follows
returns-in_err-expect-2-clause-follows c =
    let p = err_from_is_err_and c.from_residual-in_err-expect-2.result c.from_residual-in_err-expect-2.ensures.1 in rw (p.1, p.2) (refused_outside _ (P.mark c.args.end) [] c.in_err-expect-2.ensures.stops (behind_outside (P.mark c.args.end ∷ []) c.in_ok-part.ensures.follows (opened_outside (P.part c.args.end) P.whole (P.mark c.args.end ∷ []) [] (some_part _ c.args.end (c.is_mark.ensures.no c.if-is_mark.false)) tt begin_outside) (omega arith)))

pub returns-clause-follows : goal.returns-clause-follows
returns-clause-follows c =
    marked_outside (P.mark c.args.end) [] c.in_ok-expect-2.ensures.read (takes_mark c.args.end) (omega arith) (behind_outside (P.mark c.args.end ∷ []) c.in_ok-part.ensures.follows (opened_outside (P.part c.args.end) P.whole (P.mark c.args.end ∷ []) [] (some_part _ c.args.end (c.is_mark.ensures.no c.if-is_mark.false)) tt begin_outside) (omega arith))
