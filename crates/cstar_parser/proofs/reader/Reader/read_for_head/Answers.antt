use Rattle.std.proofs.Common.{arith, [], ◌∷◌, refl}
use Rattle.std.proofs.lemmas.Result.{err_from_is_err_and}
use Rattle.cstar_tree.specs.declared.token.Mark.TheVariants as M
use Rattle.grammar_parts.specs.Parts as P
use Rattle.cstar_parser.proofs.Outside.{begin_outside, behind_outside, marked_outside, refused_outside, stop_outside, unmissed}
use Rattle.cstar_parser.proofs.StatementNodes.{for_head}
use Rattle.cstar_parser.proofs.StatementFitting.{head_fits}
use Rattle.cstar_parser.proofs.reader.Reader.read_for_head.Goals as goal

pub returns-clause-read : goal.returns-clause-read
returns-clause-read c =
    let word = c.in_ok-place.ensures.read in
    let opens = c.in_ok-expect.ensures.read in
    let first = c.in_ok-first.ensures.read in
    let test = c.in_ok-test.ensures.read in
    let step = c.in_ok-step.ensures.read in
    record {
      spelled = for_head word.spelled opens.spelled first.spelled test.spelled step.spelled;
      fits = head_fits (record { place = c.in_ok-place.place; first = c.in_ok-first.first; test = c.in_ok-test.test; step = c.in_ok-step.step }) first.fits test.fits step.fits;
      forward = omega arith;
      inside = step.inside;
    }

pub returns-in_err-place-clause-follows : goal.returns-in_err-place-clause-follows
returns-in_err-place-clause-follows c =
    let p = err_from_is_err_and c.from_residual.result c.from_residual.ensures.1 in rw (p.1, p.2) (λ around e found. unmissed _ M.For found c.in_err-place.ensures.stops begin_outside)

pub returns-in_err-expect-clause-follows : goal.returns-in_err-expect-clause-follows
returns-in_err-expect-clause-follows c =
    let p = err_from_is_err_and c.from_residual-in_err-expect.result c.from_residual-in_err-expect.ensures.1 in rw (p.1, p.2) (λ around e found. refused_outside _ (P.mark M.LeftParen) (P.part M.Semicolon ∷ P.part M.Semicolon ∷ P.part M.RightParen ∷ P.statement ∷ P.ended ∷ []) c.in_err-expect.ensures.stops (marked_outside P.statement [] c.in_ok-place.ensures.read refl (omega arith) begin_outside))

pub returns-in_err-first-clause-follows : goal.returns-in_err-first-clause-follows
returns-in_err-first-clause-follows c =
    let p = err_from_is_err_and c.from_residual-in_err-first.result c.from_residual-in_err-first.ensures.1 in rw (p.1, p.2) (λ around e found. stop_outside _ (P.part M.Semicolon ∷ []) (P.part M.Semicolon ∷ P.part M.RightParen ∷ P.statement ∷ P.ended ∷ []) c.in_err-first.ensures.follows (marked_outside (P.mark M.LeftParen) (P.part M.Semicolon ∷ P.part M.Semicolon ∷ P.part M.RightParen ∷ P.statement ∷ P.ended ∷ []) c.in_ok-expect.ensures.read refl (omega arith) (marked_outside P.statement [] c.in_ok-place.ensures.read refl (omega arith) begin_outside)) (omega arith))

pub returns-in_err-test-clause-follows : goal.returns-in_err-test-clause-follows
returns-in_err-test-clause-follows c =
    let p = err_from_is_err_and c.from_residual-in_err-test.result c.from_residual-in_err-test.ensures.1 in rw (p.1, p.2) (λ around e found. stop_outside _ (P.part M.Semicolon ∷ []) (P.part M.RightParen ∷ P.statement ∷ P.ended ∷ []) c.in_err-test.ensures.follows (behind_outside (P.part M.Semicolon ∷ P.part M.RightParen ∷ P.statement ∷ P.ended ∷ []) c.in_ok-first.ensures.follows (marked_outside (P.mark M.LeftParen) (P.part M.Semicolon ∷ P.part M.Semicolon ∷ P.part M.RightParen ∷ P.statement ∷ P.ended ∷ []) c.in_ok-expect.ensures.read refl (omega arith) (marked_outside P.statement [] c.in_ok-place.ensures.read refl (omega arith) begin_outside)) (omega arith)) (omega arith))

pub returns-in_err-step-clause-follows : goal.returns-in_err-step-clause-follows
returns-in_err-step-clause-follows c =
    let p = err_from_is_err_and c.from_residual-in_err-step.result c.from_residual-in_err-step.ensures.1 in rw (p.1, p.2) (λ around e found. stop_outside _ (P.part M.RightParen ∷ []) (P.statement ∷ P.ended ∷ []) c.in_err-step.ensures.follows (behind_outside (P.part M.RightParen ∷ P.statement ∷ P.ended ∷ []) c.in_ok-test.ensures.follows (behind_outside (P.part M.Semicolon ∷ P.part M.RightParen ∷ P.statement ∷ P.ended ∷ []) c.in_ok-first.ensures.follows (marked_outside (P.mark M.LeftParen) (P.part M.Semicolon ∷ P.part M.Semicolon ∷ P.part M.RightParen ∷ P.statement ∷ P.ended ∷ []) c.in_ok-expect.ensures.read refl (omega arith) (marked_outside P.statement [] c.in_ok-place.ensures.read refl (omega arith) begin_outside)) (omega arith)) (omega arith)) (omega arith))

pub returns-clause-follows : goal.returns-clause-follows
returns-clause-follows c =
    λ around e found. behind_outside (P.statement ∷ P.ended ∷ []) c.in_ok-step.ensures.follows (behind_outside (P.part M.RightParen ∷ P.statement ∷ P.ended ∷ []) c.in_ok-test.ensures.follows (behind_outside (P.part M.Semicolon ∷ P.part M.RightParen ∷ P.statement ∷ P.ended ∷ []) c.in_ok-first.ensures.follows (marked_outside (P.mark M.LeftParen) (P.part M.Semicolon ∷ P.part M.Semicolon ∷ P.part M.RightParen ∷ P.statement ∷ P.ended ∷ []) c.in_ok-expect.ensures.read refl (omega arith) (marked_outside P.statement [] c.in_ok-place.ensures.read refl (omega arith) begin_outside)) (omega arith)) (omega arith)) (omega arith)
