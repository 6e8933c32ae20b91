use Rattle.std.proofs.Common.{◌≡◌, sym, ◌∙◌, arith, [], ◌∷◌, refl}
use Rattle.std.proofs.lemmas.Result.{err_from_is_err_and}
use Rattle.cstar_tree.specs.declared.token.Mark.TheVariants as M
use Rattle.cstar_tree.specs.Positions.{token_kind}
use Rattle.grammar_parts.specs.Parts as P
use Rattle.cstar_parser.proofs.FollowingExpressions.{mark_real}
use Rattle.cstar_parser.proofs.Outside.{begin_outside, behind_outside, last_shape, marked_outside, opened_outside, refused_outside, stop_outside, turned_outside, unmissed}
use Rattle.cstar_tree.specs.declared.syntax.ShapeDefinition.{ShapeDefinition}
use Rattle.cstar_tree.specs.Items as X
use Rattle.cstar_parser.proofs.StatementFitting.{fit_first, fit_more, shapes_fit}
use Rattle.cstar_parser.proofs.reader.Reader.read_shapes.Goals as goal

pub shapes-init : goal.shapes-init
shapes-init c =
    let word = c.in_ok-place.ensures.read in
    let first = c.in_ok-read_shape_definition.ensures.read in
    (omega arith, first.inside, (λ from is. let here : from ≡ c.expect.new.spot.at = is ∙ sym word.spelled.next_is in rw (here, c.in_ok-push.ensures.items, c.new-shapes.ensures.items) (X.first_shape first.spelled)), rw (c.in_ok-push.ensures.items, c.new-shapes.ensures.items) (fit_first (λ (s : ShapeDefinition). s.extents.items) c.in_ok-read_shape_definition.field-0 first.fits), λ found. behind_outside (P.more_shapes ∷ P.items ∷ []) c.in_ok-read_shape_definition.ensures.follows (marked_outside P.items [] c.in_ok-place.ensures.read refl (omega arith) begin_outside) (omega arith))

pub shapes-preserved : goal.shapes-preserved
shapes-preserved c =
    let comma = c.in_ok-expect.ensures.read in
    let next = c.in_ok-read_shape_definition-2.ensures.read in
    (omega arith, next.inside, (λ from is. rw c.in_ok-push-2.ensures.items (X.next_shape (c.shapes.invariant.2 from is) comma.spelled next.spelled)), rw c.in_ok-push-2.ensures.items (fit_more (λ (s : ShapeDefinition). s.extents.items) _ _ c.shapes.invariant.3 next.fits), λ found. behind_outside (P.more_shapes ∷ P.items ∷ []) c.in_ok-read_shape_definition-2.ensures.follows (marked_outside (P.mark M.Comma) (P.shape_definition ∷ P.more_shapes ∷ P.items ∷ []) c.in_ok-expect.ensures.read refl (omega arith) (turned_outside P.more_shapes (P.mark M.Comma) (P.shape_definition ∷ P.more_shapes ∷ []) (P.items ∷ []) (c.is_mark.ensures.yes c.shapes-test.true) refl tt ((c.shapes.invariant.4 found)))) (omega arith))

pub returns-clause-read : goal.returns-clause-read
returns-clause-read c =
    let word = c.in_ok-place.ensures.read in
    let end = c.in_ok-expect-2.ensures.read in
    record { spelled = X.shapes word.spelled (c.shapes.invariant.2 _ word.spelled.next_is) end.spelled; fits = shapes_fit _ c.shapes.invariant.3; forward = omega arith; inside = end.inside }

pub returns-in_err-place-clause-follows : goal.returns-in_err-place-clause-follows
returns-in_err-place-clause-follows c =
    let p = err_from_is_err_and c.from_residual.result c.from_residual.ensures.1 in rw (p.1, p.2) (λ found. unmissed _ M.Shape found c.in_err-place.ensures.stops begin_outside)

pub returns-in_err-read_shape_definition-clause-follows : goal.returns-in_err-read_shape_definition-clause-follows
returns-in_err-read_shape_definition-clause-follows c =
    let p = err_from_is_err_and c.from_residual-in_err-read_shape_definition.result c.from_residual-in_err-read_shape_definition.ensures.1 in rw (p.1, p.2) (λ found. stop_outside _ (P.shape_definition ∷ []) (P.more_shapes ∷ P.items ∷ []) c.in_err-read_shape_definition.ensures.follows (marked_outside P.items [] c.in_ok-place.ensures.read refl (omega arith) begin_outside) (omega arith))

pub returns-in_err-expect-clause-follows : goal.returns-in_err-expect-clause-follows
returns-in_err-expect-clause-follows c =
    let p = err_from_is_err_and c.from_residual-in_err-expect.result c.from_residual-in_err-expect.ensures.1 in rw (p.1, p.2) (λ found. refused_outside _ (P.mark M.Comma) (P.shape_definition ∷ P.more_shapes ∷ P.items ∷ []) c.in_err-expect.ensures.stops (turned_outside P.more_shapes (P.mark M.Comma) (P.shape_definition ∷ P.more_shapes ∷ []) (P.items ∷ []) (c.is_mark.ensures.yes c.shapes-test.true) refl tt ((c.shapes.invariant.4 found))))

pub returns-in_err-read_shape_definition-2-clause-follows : goal.returns-in_err-read_shape_definition-2-clause-follows
returns-in_err-read_shape_definition-2-clause-follows c =
    let p = err_from_is_err_and c.from_residual-in_err-read_shape_definition-2.result c.from_residual-in_err-read_shape_definition-2.ensures.1 in rw (p.1, p.2) (λ found. stop_outside _ (P.shape_definition ∷ []) (P.more_shapes ∷ P.items ∷ []) c.in_err-read_shape_definition-2.ensures.follows (marked_outside (P.mark M.Comma) (P.shape_definition ∷ P.more_shapes ∷ P.items ∷ []) c.in_ok-expect.ensures.read refl (omega arith) (turned_outside P.more_shapes (P.mark M.Comma) (P.shape_definition ∷ P.more_shapes ∷ []) (P.items ∷ []) (c.is_mark.ensures.yes c.shapes-test.true) refl tt ((c.shapes.invariant.4 found)))) (omega arith))

pub returns-in_err-expect-2-clause-follows : goal.returns-in_err-expect-2-clause-follows
returns-in_err-expect-2-clause-follows c =
    let p = err_from_is_err_and c.from_residual-in_err-expect-2.result c.from_residual-in_err-expect-2.ensures.1 in rw (p.1, p.2) (λ found. refused_outside _ (P.mark M.Semicolon) (P.items ∷ []) c.in_err-expect-2.ensures.stops (opened_outside P.more_shapes (P.mark M.Semicolon) [] (P.items ∷ []) (last_shape _ (c.is_mark.ensures.no c.shapes-test.false)) (mark_real (token_kind c.args.self.now.tokens.now c.shapes.spot.at) M.Semicolon) ((c.shapes.invariant.4 found))))

pub returns-clause-follows : goal.returns-clause-follows
returns-clause-follows c =
    λ found. marked_outside (P.mark M.Semicolon) (P.items ∷ []) c.in_ok-expect-2.ensures.read refl (omega arith) (opened_outside P.more_shapes (P.mark M.Semicolon) [] (P.items ∷ []) (last_shape _ (c.is_mark.ensures.no c.shapes-test.false)) (mark_real (token_kind c.args.self.now.tokens.now c.shapes.spot.at) M.Semicolon) ((c.shapes.invariant.4 found)))
