use Rattle.std.proofs.Common.{arith, [], ◌∷◌, refl}
use Rattle.std.proofs.lemmas.Result.{err_from_is_err_and}
use Rattle.cstar_tree.specs.declared.token.Mark.TheVariants as M
use Rattle.cstar_tree.specs.Positions.{token_kind}
use Rattle.grammar_parts.specs.Parts as P
use Rattle.cstar_parser.proofs.FollowingExpressions.{mark_real}
use Rattle.cstar_parser.proofs.Outside.{begin_outside, behind_outside, bracket_of, marked_outside, opened_outside, refused_outside, stop_outside}
use Rattle.cstar_tree.specs.Statements as X
use Rattle.cstar_parser.proofs.reader.Reader.read_test.Goals as goal

pub returns-clause-read : goal.returns-clause-read
returns-clause-read c =
    let begin = c.in_ok-expect.ensures.read in
    let test = c.in_ok-test.ensures.read in
    let end = c.in_ok-expect-2.ensures.read in
    record { spelled = X.test begin.spelled test.spelled.spelled end.spelled; fits = test.fits; forward = omega arith; inside = end.inside }

pub returns-in_err-expect-clause-follows : goal.returns-in_err-expect-clause-follows
returns-in_err-expect-clause-follows c =
    let p = err_from_is_err_and c.from_residual.result c.from_residual.ensures.1 in rw (p.1, p.2) (refused_outside _ (P.mark M.LeftParen) (P.whole ∷ P.mark M.RightParen ∷ []) c.in_err-expect.ensures.stops (opened_outside P.condition (P.mark M.LeftParen) (P.whole ∷ P.mark M.RightParen ∷ []) [] (bracket_of (token_kind c.args.self.now.tokens.now c.args.spot.now.at) M.LeftParen (P.whole ∷ P.mark M.RightParen ∷ [])) (mark_real (token_kind c.args.self.now.tokens.now c.args.spot.now.at) M.LeftParen) begin_outside))

pub returns-in_err-test-clause-follows : goal.returns-in_err-test-clause-follows
returns-in_err-test-clause-follows c =
    let p = err_from_is_err_and c.from_residual-in_err-test.result c.from_residual-in_err-test.ensures.1 in rw (p.1, p.2) (stop_outside _ (P.whole ∷ []) (P.mark M.RightParen ∷ []) c.in_err-test.ensures.follows (marked_outside (P.mark M.LeftParen) (P.whole ∷ P.mark M.RightParen ∷ []) c.in_ok-expect.ensures.read refl (omega arith) (opened_outside P.condition (P.mark M.LeftParen) (P.whole ∷ P.mark M.RightParen ∷ []) [] (bracket_of (token_kind c.args.self.now.tokens.now c.args.spot.now.at) M.LeftParen (P.whole ∷ P.mark M.RightParen ∷ [])) (mark_real (token_kind c.args.self.now.tokens.now c.args.spot.now.at) M.LeftParen) begin_outside)) (omega arith))

pub returns-in_err-expect-2-clause-follows : goal.returns-in_err-expect-2-clause-follows
returns-in_err-expect-2-clause-follows c =
    let p = err_from_is_err_and c.from_residual-in_err-expect-2.result c.from_residual-in_err-expect-2.ensures.1 in rw (p.1, p.2) (refused_outside _ (P.mark M.RightParen) [] c.in_err-expect-2.ensures.stops (behind_outside (P.mark M.RightParen ∷ []) c.in_ok-test.ensures.follows (marked_outside (P.mark M.LeftParen) (P.whole ∷ P.mark M.RightParen ∷ []) c.in_ok-expect.ensures.read refl (omega arith) (opened_outside P.condition (P.mark M.LeftParen) (P.whole ∷ P.mark M.RightParen ∷ []) [] (bracket_of (token_kind c.args.self.now.tokens.now c.args.spot.now.at) M.LeftParen (P.whole ∷ P.mark M.RightParen ∷ [])) (mark_real (token_kind c.args.self.now.tokens.now c.args.spot.now.at) M.LeftParen) begin_outside)) (omega arith)))

pub returns-clause-follows : goal.returns-clause-follows
returns-clause-follows c =
    marked_outside (P.mark M.RightParen) [] c.in_ok-expect-2.ensures.read refl (omega arith) (behind_outside (P.mark M.RightParen ∷ []) c.in_ok-test.ensures.follows (marked_outside (P.mark M.LeftParen) (P.whole ∷ P.mark M.RightParen ∷ []) c.in_ok-expect.ensures.read refl (omega arith) (opened_outside P.condition (P.mark M.LeftParen) (P.whole ∷ P.mark M.RightParen ∷ []) [] (bracket_of (token_kind c.args.self.now.tokens.now c.args.spot.now.at) M.LeftParen (P.whole ∷ P.mark M.RightParen ∷ [])) (mark_real (token_kind c.args.self.now.tokens.now c.args.spot.now.at) M.LeftParen) begin_outside)) (omega arith))
