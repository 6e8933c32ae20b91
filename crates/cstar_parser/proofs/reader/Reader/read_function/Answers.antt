use Rattle.std.proofs.Common.{arith, [], ◌∷◌, refl}
use Rattle.std.proofs.lemmas.Result.{err_from_is_err_and}
use Rattle.cstar_tree.specs.declared.token.Mark.TheVariants as M
use Rattle.grammar_parts.specs.Parts as P
use Rattle.cstar_parser.proofs.Outside.{begin_outside, behind_outside, marked_outside, refused_outside, stop_outside}
use Rattle.cstar_tree.specs.Items as X
use Rattle.cstar_parser.proofs.reader.Reader.read_function.Goals as goal

pub returns-clause-read : goal.returns-clause-read
returns-clause-read c =
    let begin = c.in_ok-expect.ensures.read in
    let parameters = c.in_ok-parameters.ensures.read in
    let end = c.in_ok-expect-2.ensures.read in
    let body = c.in_ok-body.ensures.read in
    record {
      spelled = λ from mid place_is result_is named. X.function _ place_is result_is named begin.spelled parameters.spelled end.spelled body.spelled;
      fits = body.fits;
      forward = omega arith;
      inside = body.inside;
    }

pub returns-in_err-expect-clause-follows : goal.returns-in_err-expect-clause-follows
returns-in_err-expect-clause-follows c =
    let p = err_from_is_err_and c.from_residual.result c.from_residual.ensures.1 in rw (p.1, p.2) (refused_outside _ (P.mark M.LeftParen) (P.parameters ∷ P.mark M.RightParen ∷ P.block ∷ []) c.in_err-expect.ensures.stops begin_outside)

pub returns-in_err-parameters-clause-follows : goal.returns-in_err-parameters-clause-follows
returns-in_err-parameters-clause-follows c =
    let p = err_from_is_err_and c.from_residual-in_err-parameters.result c.from_residual-in_err-parameters.ensures.1 in rw (p.1, p.2) (stop_outside _ (P.parameters ∷ P.mark M.RightParen ∷ []) (P.block ∷ []) c.in_err-parameters.ensures.follows (marked_outside (P.mark M.LeftParen) (P.parameters ∷ P.mark M.RightParen ∷ P.block ∷ []) c.in_ok-expect.ensures.read refl (omega arith) begin_outside) (omega arith))

pub returns-in_err-expect-2-clause-follows : goal.returns-in_err-expect-2-clause-follows
returns-in_err-expect-2-clause-follows c =
    let p = err_from_is_err_and c.from_residual-in_err-expect-2.result c.from_residual-in_err-expect-2.ensures.1 in rw (p.1, p.2) (refused_outside _ (P.mark M.RightParen) (P.block ∷ []) c.in_err-expect-2.ensures.stops (behind_outside (P.block ∷ []) c.in_ok-parameters.ensures.follows (marked_outside (P.mark M.LeftParen) (P.parameters ∷ P.mark M.RightParen ∷ P.block ∷ []) c.in_ok-expect.ensures.read refl (omega arith) begin_outside) (omega arith)))

pub returns-in_err-body-clause-follows : goal.returns-in_err-body-clause-follows
returns-in_err-body-clause-follows c =
    let p = err_from_is_err_and c.from_residual-in_err-body.result c.from_residual-in_err-body.ensures.1 in rw (p.1, p.2) (stop_outside _ (P.block ∷ []) [] c.in_err-body.ensures.follows (marked_outside (P.mark M.RightParen) (P.block ∷ []) c.in_ok-expect-2.ensures.read refl (omega arith) (behind_outside (P.block ∷ []) c.in_ok-parameters.ensures.follows (marked_outside (P.mark M.LeftParen) (P.parameters ∷ P.mark M.RightParen ∷ P.block ∷ []) c.in_ok-expect.ensures.read refl (omega arith) begin_outside) (omega arith))) (omega arith))

pub returns-clause-follows : goal.returns-clause-follows
returns-clause-follows c =
    behind_outside [] c.in_ok-body.ensures.follows (marked_outside (P.mark M.RightParen) (P.block ∷ []) c.in_ok-expect-2.ensures.read refl (omega arith) (behind_outside (P.block ∷ []) c.in_ok-parameters.ensures.follows (marked_outside (P.mark M.LeftParen) (P.parameters ∷ P.mark M.RightParen ∷ P.block ∷ []) c.in_ok-expect.ensures.read refl (omega arith) begin_outside) (omega arith))) (omega arith)
