use Rattle.std.proofs.Common.{arith, [], ◌∷◌, refl}
use Rattle.std.proofs.lemmas.Result.{err_from_is_err_and}
use Rattle.cstar_tree.specs.declared.token.Mark.TheVariants as M
use Rattle.cstar_tree.specs.Positions.{token_kind}
use Rattle.grammar_parts.specs.Parts as P
use Rattle.cstar_parser.proofs.FollowingExpressions.{mark_real, name_real}
use Rattle.cstar_parser.proofs.Outside.{begin_outside, behind_outside, bracket_of, last_extent, name_outside, opened_outside, refused_outside, stop_outside, turned_outside}
use Rattle.cstar_tree.specs.Expressions as E
use Rattle.cstar_tree.specs.Items as X
use Rattle.cstar_parser.proofs.StatementFitting.{fit_both}
use Rattle.cstar_parser.proofs.reader.Reader.read_shape_definition.Goals as goal

pub extents-init : goal.extents-init
extents-init c =
    let first = c.in_ok-first.ensures.read in
    (first.forward, first.inside, (first.spelled.0, rw (c.in_ok-push.ensures.items, c.new-extents.ensures.items, c.into_inner.ensures) (E.first_index first.spelled.1)), rw (c.in_ok-push.ensures.items, c.new-extents.ensures.items, c.into_inner.ensures) first.fits, behind_outside (P.extents ∷ []) c.in_ok-first.ensures.follows (opened_outside P.shape_definition (P.mark M.LeftBracket) (P.whole ∷ P.mark M.RightBracket ∷ P.extents ∷ []) [] (bracket_of (token_kind c.args.self.now.tokens.now c.args.spot.now.at) M.LeftBracket (P.whole ∷ P.mark M.RightBracket ∷ P.extents ∷ [])) (mark_real (token_kind c.args.self.now.tokens.now c.args.spot.now.at) M.LeftBracket) begin_outside) (omega arith))

pub extents-preserved : goal.extents-preserved
extents-preserved c =
    let before = c.extents.invariant.2 in
    let next = c.in_ok-next.ensures.read in
    (omega arith, next.inside, (before.0, rw (c.in_ok-push-2.ensures.items, c.into_inner-in-extents.ensures) (E.next_index before.1 next.spelled.1)), rw (c.in_ok-push-2.ensures.items, c.into_inner-in-extents.ensures) (fit_both _ _ c.extents.invariant.3 next.fits), behind_outside (P.extents ∷ []) c.in_ok-next.ensures.follows (turned_outside P.extents (P.mark M.LeftBracket) (P.whole ∷ P.mark M.RightBracket ∷ P.extents ∷ []) [] (c.is_mark.ensures.yes c.extents-test.true) refl tt c.extents.invariant.4) (omega arith))

pub returns-clause-read : goal.returns-clause-read
returns-clause-read c =
    let name = c.in_ok-name.ensures.read in
    record { spelled = X.shape_definition c.extents.invariant.2.1 name.spelled; fits = c.extents.invariant.3; forward = omega arith; inside = name.inside }

pub returns-in_err-first-clause-follows : goal.returns-in_err-first-clause-follows
returns-in_err-first-clause-follows c =
    let p = err_from_is_err_and c.from_residual.result c.from_residual.ensures.1 in rw (p.1, p.2) (stop_outside _ (P.mark M.LeftBracket ∷ P.whole ∷ P.mark M.RightBracket ∷ []) (P.extents ∷ []) c.in_err-first.ensures.follows (opened_outside P.shape_definition (P.mark M.LeftBracket) (P.whole ∷ P.mark M.RightBracket ∷ P.extents ∷ []) [] (bracket_of (token_kind c.args.self.now.tokens.now c.args.spot.now.at) M.LeftBracket (P.whole ∷ P.mark M.RightBracket ∷ P.extents ∷ [])) (mark_real (token_kind c.args.self.now.tokens.now c.args.spot.now.at) M.LeftBracket) begin_outside) (omega arith))

pub returns-in_err-next-clause-follows : goal.returns-in_err-next-clause-follows
returns-in_err-next-clause-follows c =
    let p = err_from_is_err_and c.from_residual-in_err-next.result c.from_residual-in_err-next.ensures.1 in rw (p.1, p.2) (stop_outside _ (P.mark M.LeftBracket ∷ P.whole ∷ P.mark M.RightBracket ∷ []) (P.extents ∷ []) c.in_err-next.ensures.follows (turned_outside P.extents (P.mark M.LeftBracket) (P.whole ∷ P.mark M.RightBracket ∷ P.extents ∷ []) [] (c.is_mark.ensures.yes c.extents-test.true) refl tt c.extents.invariant.4) (omega arith))

pub returns-in_err-name-clause-follows : goal.returns-in_err-name-clause-follows
returns-in_err-name-clause-follows c =
    let p = err_from_is_err_and c.from_residual-in_err-name.result c.from_residual-in_err-name.ensures.1 in rw (p.1, p.2) (refused_outside _ P.name [] c.in_err-name.ensures.stops (opened_outside P.extents P.name [] [] (last_extent _ (c.is_mark.ensures.no c.extents-test.false)) (name_real (token_kind c.args.self.now.tokens.now c.extents.spot.at)) c.extents.invariant.4))

pub returns-clause-follows : goal.returns-clause-follows
returns-clause-follows c =
    name_outside P.name [] c.in_ok-name.ensures.read refl (omega arith) (opened_outside P.extents P.name [] [] (last_extent _ (c.is_mark.ensures.no c.extents-test.false)) (name_real (token_kind c.args.self.now.tokens.now c.extents.spot.at)) c.extents.invariant.4)
