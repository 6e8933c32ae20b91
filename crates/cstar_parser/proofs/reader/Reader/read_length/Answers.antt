use Rattle.std.proofs.Common.{arith, [], ◌∷◌, refl}
use Rattle.std.proofs.lemmas.Result.{err_from_is_err_and}
use Rattle.cstar_tree.specs.declared.token.Mark.TheVariants as M
use Rattle.grammar_parts.specs.Parts as P
use Rattle.cstar_parser.proofs.Outside.{begin_outside, behind_outside, marked_outside, not_length, refused_outside, skipped_outside, stop_outside, turned_outside}
use Rattle.cstar_tree.specs.Declarations as X
use Rattle.cstar_parser.proofs.StatementFitting.{fit_none}
use Rattle.cstar_parser.proofs.reader.Reader.read_length.Goals as goal

pub returns-then-not-is_mark-clause-read : goal.returns-then-not-is_mark-clause-read
returns-then-not-is_mark-clause-read c = record { spelled = X.no_length; fits = fit_none c.requires.depth; forward = omega arith; inside = c.requires.within }

pub returns-clause-read : goal.returns-clause-read
returns-clause-read c =
    let begin = c.in_ok-expect.ensures.read in
    let length = c.in_ok-length.ensures.read in
    let end = c.in_ok-expect-2.ensures.read in
    record { spelled = X.length_is begin.spelled length.spelled.spelled end.spelled; fits = length.fits; forward = omega arith; inside = end.inside }

pub returns-then-not-is_mark-clause-follows : goal.returns-then-not-is_mark-clause-follows
returns-then-not-is_mark-clause-follows c =
    skipped_outside P.length_or_none [] (not_length _ (c.is_mark.ensures.no c.if-not-is_mark.true)) begin_outside

pub returns-in_err-expect-clause-follows : goal.returns-in_err-expect-clause-follows
returns-in_err-expect-clause-follows c =
    let p = err_from_is_err_and c.from_residual.result c.from_residual.ensures.1 in rw (p.1, p.2) (refused_outside _ (P.mark M.LeftBracket) (P.whole ∷ P.mark M.RightBracket ∷ []) c.in_err-expect.ensures.stops (turned_outside P.length_or_none (P.mark M.LeftBracket) (P.whole ∷ P.mark M.RightBracket ∷ []) [] (c.is_mark.ensures.yes c.if-not-is_mark.false) refl tt begin_outside))

pub returns-in_err-length-clause-follows : goal.returns-in_err-length-clause-follows
returns-in_err-length-clause-follows c =
    let p = err_from_is_err_and c.from_residual-in_err-length.result c.from_residual-in_err-length.ensures.1 in rw (p.1, p.2) (stop_outside _ (P.whole ∷ []) (P.mark M.RightBracket ∷ []) c.in_err-length.ensures.follows (marked_outside (P.mark M.LeftBracket) (P.whole ∷ P.mark M.RightBracket ∷ []) c.in_ok-expect.ensures.read refl (omega arith) (turned_outside P.length_or_none (P.mark M.LeftBracket) (P.whole ∷ P.mark M.RightBracket ∷ []) [] (c.is_mark.ensures.yes c.if-not-is_mark.false) refl tt begin_outside)) (omega arith))

pub returns-in_err-expect-2-clause-follows : goal.returns-in_err-expect-2-clause-follows
returns-in_err-expect-2-clause-follows c =
    let p = err_from_is_err_and c.from_residual-in_err-expect-2.result c.from_residual-in_err-expect-2.ensures.1 in rw (p.1, p.2) (refused_outside _ (P.mark M.RightBracket) [] c.in_err-expect-2.ensures.stops (behind_outside (P.mark M.RightBracket ∷ []) c.in_ok-length.ensures.follows (marked_outside (P.mark M.LeftBracket) (P.whole ∷ P.mark M.RightBracket ∷ []) c.in_ok-expect.ensures.read refl (omega arith) (turned_outside P.length_or_none (P.mark M.LeftBracket) (P.whole ∷ P.mark M.RightBracket ∷ []) [] (c.is_mark.ensures.yes c.if-not-is_mark.false) refl tt begin_outside)) (omega arith)))

pub returns-clause-follows : goal.returns-clause-follows
returns-clause-follows c =
    marked_outside (P.mark M.RightBracket) [] c.in_ok-expect-2.ensures.read refl (omega arith) (behind_outside (P.mark M.RightBracket ∷ []) c.in_ok-length.ensures.follows (marked_outside (P.mark M.LeftBracket) (P.whole ∷ P.mark M.RightBracket ∷ []) c.in_ok-expect.ensures.read refl (omega arith) (turned_outside P.length_or_none (P.mark M.LeftBracket) (P.whole ∷ P.mark M.RightBracket ∷ []) [] (c.is_mark.ensures.yes c.if-not-is_mark.false) refl tt begin_outside)) (omega arith))
