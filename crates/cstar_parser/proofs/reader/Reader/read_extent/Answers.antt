use Rattle.std.proofs.Common.{arith, [], ◌∷◌, refl}
use Rattle.std.proofs.lemmas.Result.{err_from_is_err_and}
use Rattle.cstar_tree.specs.declared.token.Mark.TheVariants as M
use Rattle.grammar_parts.specs.Parts as P
use Rattle.cstar_parser.proofs.Outside.{begin_outside, behind_outside, marked_outside, refused_outside, stop_outside}
use Rattle.cstar_tree.specs.Expressions as E
use Rattle.cstar_parser.proofs.reader.Reader.read_extent.Goals as goal

pub returns-clause-read : goal.returns-clause-read
returns-clause-read c =
    let begin = c.in_ok-expect.ensures.read in
    let extent = c.in_ok-extent.ensures.read in
    let end = c.in_ok-expect-2.ensures.read in
    record { spelled = (_, E.index_is begin.spelled extent.spelled.spelled end.spelled); fits = extent.fits; forward = omega arith; inside = end.inside }

pub returns-in_err-expect-clause-follows : goal.returns-in_err-expect-clause-follows
returns-in_err-expect-clause-follows c =
    let p = err_from_is_err_and c.from_residual.result c.from_residual.ensures.1 in rw (p.1, p.2) (refused_outside _ (P.mark M.LeftBracket) (P.whole ∷ P.mark M.RightBracket ∷ []) c.in_err-expect.ensures.stops begin_outside)

pub returns-in_err-extent-clause-follows : goal.returns-in_err-extent-clause-follows
returns-in_err-extent-clause-follows c =
    let p = err_from_is_err_and c.from_residual-in_err-extent.result c.from_residual-in_err-extent.ensures.1 in rw (p.1, p.2) (stop_outside _ (P.whole ∷ []) (P.mark M.RightBracket ∷ []) c.in_err-extent.ensures.follows (marked_outside (P.mark M.LeftBracket) (P.whole ∷ P.mark M.RightBracket ∷ []) c.in_ok-expect.ensures.read refl (omega arith) begin_outside) (omega arith))

pub returns-in_err-expect-2-clause-follows : goal.returns-in_err-expect-2-clause-follows
returns-in_err-expect-2-clause-follows c =
    let p = err_from_is_err_and c.from_residual-in_err-expect-2.result c.from_residual-in_err-expect-2.ensures.1 in rw (p.1, p.2) (refused_outside _ (P.mark M.RightBracket) [] c.in_err-expect-2.ensures.stops (behind_outside (P.mark M.RightBracket ∷ []) c.in_ok-extent.ensures.follows (marked_outside (P.mark M.LeftBracket) (P.whole ∷ P.mark M.RightBracket ∷ []) c.in_ok-expect.ensures.read refl (omega arith) begin_outside) (omega arith)))

pub returns-clause-follows : goal.returns-clause-follows
returns-clause-follows c =
    marked_outside (P.mark M.RightBracket) [] c.in_ok-expect-2.ensures.read refl (omega arith) (behind_outside (P.mark M.RightBracket ∷ []) c.in_ok-extent.ensures.follows (marked_outside (P.mark M.LeftBracket) (P.whole ∷ P.mark M.RightBracket ∷ []) c.in_ok-expect.ensures.read refl (omega arith) begin_outside) (omega arith))
