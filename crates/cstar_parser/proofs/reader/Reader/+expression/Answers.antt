use Rattle.std.proofs.Common.{[], ◌∷◌, ◌+◌, ◌∙◌, arith, lit≤, refl, rules, sym}
use Rattle.std.proofs.lemmas.Result.{err_from_is_err_and}
use Rattle.cstar_tree.specs.declared.token.Kind.TheVariants as K
use Rattle.cstar_tree.specs.declared.token.Mark.TheVariants as M
use Rattle.cstar_tree.specs.Operators.{binary_level}
use Rattle.cstar_tree.specs.Positions.{token_kind}
use Rattle.grammar_parts.specs.Parts as P
use Rattle.grammar_parts.proofs.Words.{takes_assign, takes_prefix}
use Rattle.cstar_tree.specs.Expressions as X
use Rattle.cstar_parser.proofs.Casting.{single_ok}
use Rattle.cstar_parser.proofs.ExpressionNodes as node
use Rattle.cstar_parser.proofs.ExpressionNodes.{weakened, weakened_result}
use Rattle.cstar_parser.proofs.Fitting as fitting
use Rattle.cstar_parser.proofs.Following.{begin, behind, bracketed, marked, name_read, opened, operated, overfull, refused, shaped, skipped, stop, turned, unopened, unwritten}
use Rattle.cstar_parser.proofs.FollowingExpressions.{added, brackets_behind, entered, expression_real, last_argument, last_index, mark_real, name_real, no_question, none_first, nothing_behind_name, onward, operands_opened, plain_first, some_arguments, takes_binary, text_read, unary_real, unassigned, unentered, weaker}
use Rattle.cstar_parser.proofs.Operands.{left_first, left_next}
use Rattle.cstar_parser.proofs.reader.Reader.+expression.Goals.{read_primary-in_default-via-in-Some+in-Mark+in_default, read_primary-in_default-via-in-Some+in_default, read_primary-in_default-via-in_default}
use Rattle.cstar_parser.proofs.reader.Reader.+expression.Goals as goal

pub read_assignment-returns-clause-read : goal.read_assignment-returns-clause-read
read_assignment-returns-clause-read t c =
    node.assign c.in_ok-assignment.ensures c.in_ok-left.ensures.read c.in-Some.ensures.found c.in_ok-place.ensures.read c.in_ok-value.ensures.read

pub read_assignment-returns-in_default-clause-read : goal.read_assignment-returns-in_default-clause-read
read_assignment-returns-in_default-clause-read t c = weakened_result _ _ _ _ {more = 1} 0 (lit≤ tt) c.read_choice_from.result (c.read_choice_from.ensures.read _ c.in_ok-left.ensures.read)

pub read_choice-returns-clause-read : goal.read_choice-returns-clause-read
read_choice-returns-clause-read t c = c.read_choice_from.ensures.read _ c.in_ok-left.ensures.read

pub read_choice_from-returns-then-not-is_mark-clause-read : goal.read_choice_from-returns-then-not-is_mark-clause-read
read_choice_from-returns-then-not-is_mark-clause-read t c = λ from x. weakened {more = 2} 1 (lit≤ tt) (c.in_ok-test.ensures.read from x)

pub read_choice_from-returns-clause-read : goal.read_choice_from-returns-clause-read
read_choice_from-returns-clause-read t c =
    λ from x. node.choice c.in_ok-choice.ensures (c.in_ok-test.ensures.read from x) c.in_ok-place.ensures.read c.in_ok-then.ensures.read c.in_ok-expect_operator.ensures.read c.in_ok-otherwise.ensures.read

pub read_binary-returns-clause-read : goal.read_binary-returns-clause-read
read_binary-returns-clause-read t c = c.read_operators.ensures.read _ c.in_ok-left.ensures.read

pub read_operators-operators-init : goal.read_operators-operators-init
read_operators-operators-init t c = (omega arith, c.requires.within, (λ from x. (left_first (omega arith) x.spelled, x.fits, x.forward)), begin)

pub read_operators-operators-preserved : goal.read_operators-operators-preserved
read_operators-operators-preserved t c =
    let o = c.in_ok-place.ensures.read in
    let r = c.in_ok-right.ensures.read in
    (omega arith, r.inside, (λ from x. let before = c.operators.invariant.2 from x in (left_next c.in_ok-left.ensures before.0 c.in-Some.ensures.strong (o.spelled _ c.in-Some.ensures.found) (rw c.level_of.ensures.level at r.spelled) (rw c.level_of.ensures.level at c.in_ok-right.ensures.ends), fitting.binary c.in_ok-left.ensures before.1 o.fits r.fits, omega arith)), behind (P.operators c.args.strength ∷ []) (rw c.level_of.ensures.level at c.in_ok-right.ensures.follows) (added (P.operators c.args.strength) [] c.in-Some.ensures.found c.in_ok-place.ensures.read (takes_binary c.args.strength c.in-Some.op c.in-Some.ensures.strong) (omega arith) c.operators.invariant.3) (omega arith))

pub read_operators-returns-clause-read : goal.read_operators-returns-clause-read
read_operators-returns-clause-read t c =
    λ from x. let before = c.operators.invariant.2 from x in record { spelled = record { spelled = before.0.spelled; strong = before.0.strong }; fits = before.1; forward = before.2; inside = c.operators.invariant.1 }

pub read_cast-returns-then-is_some-clause-read : goal.read_cast-returns-then-is_some-clause-read
read_cast-returns-then-is_some-clause-read t c =
    let chain = c.in_ok-chain.ensures.read in
    let operand = c.in_ok-operand.ensures.read in
    record {
      spelled = c.in_ok-over.ensures.spelled _ _ _ _ chain.spelled operand.spelled (λ none. absurd (cc (none, c.is_some.ensures, c.if-is_some.true)));
      fits = c.in_ok-over.ensures.fits _ _ _ _ chain.fits.0 chain.fits.1 operand.fits;
      forward = omega arith;
      inside = operand.inside;
    }

pub read_cast-returns-clause-read : goal.read_cast-returns-clause-read
read_cast-returns-clause-read t c =
    let chain = c.in_ok-chain.ensures.read in
    let operand = c.in_ok-operand-2.ensures.read in
    record {
      spelled = c.in_ok-over-2.ensures.spelled _ _ _ _ chain.spelled operand.spelled (λ none. c.in_ok-operand-2.ensures.single);
      fits = c.in_ok-over-2.ensures.fits _ _ _ _ chain.fits.0 chain.fits.1 operand.fits;
      forward = omega arith;
      inside = operand.inside;
    }

pub read_operand-returns-in-Some-clause-read : goal.read_operand-returns-in-Some-clause-read
read_operand-returns-in-Some-clause-read t c = node.prefix c.in_ok-prefix.ensures c.in-Some.ensures.found c.in_ok-place.ensures.read c.in_ok-operand.ensures.read

pub read_operand-returns-in-Some-clause-single : goal.read_operand-returns-in-Some-clause-single
read_operand-returns-in-Some-clause-single t c = rw c.in_ok-prefix.ensures refl

pub read_operand-returns-clause-read : goal.read_operand-returns-clause-read
read_operand-returns-clause-read t c = weakened_result _ _ _ _ {more = 14} 13 (lit≤ tt) c.read_steps.result (c.read_steps.ensures.read _ _ (weakened {more = 15} 14 (lit≤ tt) c.in_ok-operand-2.ensures.read))

pub read_operand-returns-clause-single : goal.read_operand-returns-clause-single
read_operand-returns-clause-single t c = single_ok _ _ _ _ c.read_steps.result (c.read_steps.ensures.read _ _ (weakened {more = 15} 14 (lit≤ tt) c.in_ok-operand-2.ensures.read))

pub read_brackets-returns-clause-read : goal.read_brackets-returns-clause-read
read_brackets-returns-clause-read t c = node.brackets c.in_ok-brackets.ensures c.in_ok-place.ensures.read c.in_ok-inner.ensures.read c.in_ok-expect.ensures.read

pub read_named-returns-then-is_mark-clause-read : goal.read_named-returns-then-is_mark-clause-read
read_named-returns-then-is_mark-clause-read t c = node.call _ c.in_ok-call.ensures c.in_ok-name.ensures.read c.in_ok-arguments.ensures.read

pub read_named-returns-then-not-is_mark-clause-read : goal.read_named-returns-then-not-is_mark-clause-read
read_named-returns-then-not-is_mark-clause-read t c = node.name c.in_ok-new.ensures.ok c.requires.depth c.in_ok-name.ensures.read

pub read_named-returns-clause-read : goal.read_named-returns-clause-read
read_named-returns-clause-read t c = node.element c.in_ok-element.ensures c.in_ok-name.ensures.read c.in_ok-bracket.ensures.read

pub read_index-returns-clause-read : goal.read_index-returns-clause-read
read_index-returns-clause-read t c = node.indexed c.in_ok-place.ensures.read c.in_ok-index.ensures.read c.in_ok-expect.ensures.read

pub read_arguments-returns-then-is_mark-clause-read : goal.read_arguments-returns-then-is_mark-clause-read
read_arguments-returns-then-is_mark-clause-read t c = node.no_arguments c.new.ensures.items c.in_ok-open.ensures.read c.in_ok-expect.ensures.read

pub read_arguments-returns-clause-read : goal.read_arguments-returns-clause-read
read_arguments-returns-clause-read t c =
    node.some_arguments c.push.new.self (rw (c.in_ok-push.ensures.items, c.new-arguments.ensures.items, c.into_inner.ensures) refl) c.in_ok-open.ensures.read c.in_ok-first.ensures.read c.in_ok-read_more.ensures.read

pub read_more-commas-init : goal.read_more-commas-init
read_more-commas-init t c = (omega arith, c.requires.within, X.no_more, (λ before f. f), λ around e. begin)

pub read_more-commas-preserved : goal.read_more-commas-preserved
read_more-commas-preserved t c =
    let comma = c.in_ok-expect.ensures.read in
    let next = c.in_ok-next.ensures.read in
    (omega arith, next.inside, rw (c.in_ok-push.ensures.items, c.into_inner.ensures) (X.more c.commas.invariant.2 comma.spelled next.spelled.spelled), (λ before f. rw (c.in_ok-push.ensures.items, c.into_inner.ensures) (fitting.parts_more _ (c.commas.invariant.3 before f) (rw comma.fits at next.fits))), λ around e. behind (P.more_arguments ∷ []) c.in_ok-next.ensures.follows (marked (P.mark M.Comma) (P.expression ∷ P.more_arguments ∷ []) c.in_ok-expect.ensures.read refl (omega arith) (turned P.more_arguments (P.mark M.Comma) (P.expression ∷ P.more_arguments ∷ []) [] (c.is_mark.ensures.yes c.commas-test.true) refl tt (c.commas.invariant.4 around e))) (omega arith))

pub read_more-returns-clause-read : goal.read_more-returns-clause-read
read_more-returns-clause-read t c =
    let end = c.in_ok-expect-2.ensures.read in
    record { spelled = X.rest c.commas.invariant.2 end.spelled; fits = λ before f. rw end.fits (c.commas.invariant.3 before f); forward = omega arith; inside = end.inside }

pub read_left_index-indexes-init : goal.read_left_index-indexes-init
read_left_index-indexes-init t c =
    let first = c.in_ok-place.ensures.read in
    (first.forward, first.inside, rw (c.in_ok-push.ensures.items, c.new-indexes.ensures.items, c.into_inner.ensures) (X.first_index first.spelled), rw (c.in_ok-push.ensures.items, c.new-indexes.ensures.items, c.into_inner.ensures) (fitting.one_part first.fits), behind (P.indexes ∷ []) c.in_ok-place.ensures.follows begin (omega arith))

pub read_left_index-indexes-preserved : goal.read_left_index-indexes-preserved
read_left_index-indexes-preserved t c =
    let next = c.in_ok-next.ensures.read in
    (omega arith, next.inside, rw (c.in_ok-push-2.ensures.items, c.into_inner-in-indexes.ensures) (X.next_index c.indexes.invariant.2 next.spelled), rw (c.in_ok-push-2.ensures.items, c.into_inner-in-indexes.ensures) (fitting.parts_more _ c.indexes.invariant.3 next.fits), behind (P.indexes ∷ []) c.in_ok-next.ensures.follows (turned P.indexes (P.mark M.LeftBracket) (P.expression ∷ P.close M.RightBracket ∷ P.indexes ∷ []) [] (c.is_mark.ensures.yes c.indexes-test.true) refl tt c.indexes.invariant.4) (omega arith))

pub read_left_index-returns-clause-read : goal.read_left_index-returns-clause-read
read_left_index-returns-clause-read t c =
    node.left_index _ c.in_ok-left_index.ensures c.indexes.invariant.2 c.indexes.invariant.3 c.indexes.invariant.0 c.in_ok-name.ensures.read

pub read_pcoord-returns-clause-read : goal.read_pcoord-returns-clause-read
read_pcoord-returns-clause-read t c = node.pcoord c.in_ok-pcoord.ensures c.in_ok-place.ensures.read c.in_ok-open.ensures.read c.in_ok-axis.ensures.read c.in_ok-expect.ensures.read

pub read_dim_of-returns-clause-read : goal.read_dim_of-returns-clause-read
read_dim_of-returns-clause-read t c =
    node.dim_of c.in_ok-dim_of.ensures c.in_ok-place.ensures.read c.in_ok-open.ensures.read c.in_ok-shape.ensures.read c.in_ok-expect.ensures.read c.in_ok-axis.ensures.read c.in_ok-expect-2.ensures.read

pub read_scan-returns-clause-read : goal.read_scan-returns-clause-read
read_scan-returns-clause-read t c =
    node.scan c.in_ok-scan.ensures c.in_ok-place.ensures.read c.in_ok-open.ensures.read c.in_ok-source.ensures.read c.in_ok-expect.ensures.read c.in_ok-axis.ensures.read c.in_ok-options.ensures.read

pub read_enumerate-returns-clause-read : goal.read_enumerate-returns-clause-read
read_enumerate-returns-clause-read t c = node.enumerate c.in_ok-enumerate.ensures c.in_ok-place.ensures.read c.in_ok-open.ensures.read c.in_ok-axis.ensures.read c.in_ok-options.ensures.read

pub read_printf-returns-clause-read : goal.read_printf-returns-clause-read
read_printf-returns-clause-read t c =
    node.printf c.new.result _ c.in_ok-printf.ensures c.new.ensures.items c.in_ok-place.ensures.read c.in_ok-open.ensures.read c.in_ok-text.ensures.read c.in_ok-arguments.ensures.read

pub read_assignment-returns-in_err-left-clause-follows : goal.read_assignment-returns-in_err-left-clause-follows
read_assignment-returns-in_err-left-clause-follows t c =
    let p = err_from_is_err_and c.from_residual.result c.from_residual.ensures.1 in rw (p.1, p.2) (stop _ (P.unary ∷ []) (P.behind_unary ∷ []) c.in_err-left.ensures.follows (opened P.expression P.unary (P.behind_unary ∷ []) [] refl (unary_real (token_kind c.args.self.now.tokens.now c.args.spot.now.at)) begin) (omega arith))

pub read_assignment-returns-in_err-place-clause-follows : goal.read_assignment-returns-in_err-place-clause-follows
read_assignment-returns-in_err-place-clause-follows t c =
    let p = err_from_is_err_and c.from_residual-in_err-place.result c.from_residual-in_err-place.ensures.1 in rw (p.1, p.2) (overfull _ P.behind_unary [] c.in-Some.ensures.found (takes_assign c.in-Some.op) c.in_err-place.ensures.stops (behind (P.behind_unary ∷ []) c.in_ok-left.ensures.follows (opened P.expression P.unary (P.behind_unary ∷ []) [] refl (unary_real (token_kind c.args.self.now.tokens.now c.args.spot.now.at)) begin) (omega arith)))

pub read_assignment-returns-in_err-value-clause-follows : goal.read_assignment-returns-in_err-value-clause-follows
read_assignment-returns-in_err-value-clause-follows t c =
    let p = err_from_is_err_and c.from_residual-in_err-value.result c.from_residual-in_err-value.ensures.1 in rw (p.1, p.2) (stop _ (P.expression ∷ []) [] c.in_err-value.ensures.follows (added P.behind_unary [] c.in-Some.ensures.found c.in_ok-place.ensures.read (takes_assign c.in-Some.op) (omega arith) (behind (P.behind_unary ∷ []) c.in_ok-left.ensures.follows (opened P.expression P.unary (P.behind_unary ∷ []) [] refl (unary_real (token_kind c.args.self.now.tokens.now c.args.spot.now.at)) begin) (omega arith))) (omega arith))

pub read_assignment-returns-clause-follows : goal.read_assignment-returns-clause-follows
read_assignment-returns-clause-follows t c =
    behind [] c.in_ok-value.ensures.follows (added P.behind_unary [] c.in-Some.ensures.found c.in_ok-place.ensures.read (takes_assign c.in-Some.op) (omega arith) (behind (P.behind_unary ∷ []) c.in_ok-left.ensures.follows (opened P.expression P.unary (P.behind_unary ∷ []) [] refl (unary_real (token_kind c.args.self.now.tokens.now c.args.spot.now.at)) begin) (omega arith))) (omega arith)

pub read_assignment-returns-in_default-clause-follows : goal.read_assignment-returns-in_default-clause-follows
read_assignment-returns-in_default-clause-follows t c =
    onward (P.operators 2 ∷ P.choice_or_none ∷ []) [] [] c.args.spot.now c.read_unary.new.spot c.read_choice_from.new.spot c.read_choice_from.result c.read_choice_from.ensures.follows (unassigned [] c.in_default.ensures.missing (behind (P.behind_unary ∷ []) c.in_ok-left.ensures.follows (opened P.expression P.unary (P.behind_unary ∷ []) [] refl (unary_real (token_kind c.args.self.now.tokens.now c.args.spot.now.at)) begin) (omega arith))) (omega arith)

pub read_choice-returns-in_err-left-clause-follows : goal.read_choice-returns-in_err-left-clause-follows
read_choice-returns-in_err-left-clause-follows t c =
    let p = err_from_is_err_and c.from_residual.result c.from_residual.ensures.1 in rw (p.1, p.2) (stop _ (P.unary ∷ []) (P.operators 2 ∷ P.choice_or_none ∷ []) c.in_err-left.ensures.follows (opened P.choice P.unary (P.operators 2 ∷ P.choice_or_none ∷ []) [] refl (unary_real (token_kind c.args.self.now.tokens.now c.args.spot.now.at)) begin) (omega arith))

pub read_choice-returns-clause-follows : goal.read_choice-returns-clause-follows
read_choice-returns-clause-follows t c =
    onward (P.operators 2 ∷ P.choice_or_none ∷ []) [] [] c.args.spot.now c.read_unary.new.spot c.read_choice_from.new.spot c.read_choice_from.result c.read_choice_from.ensures.follows (behind (P.operators 2 ∷ P.choice_or_none ∷ []) c.in_ok-left.ensures.follows (opened P.choice P.unary (P.operators 2 ∷ P.choice_or_none ∷ []) [] refl (unary_real (token_kind c.args.self.now.tokens.now c.args.spot.now.at)) begin) (omega arith)) (omega arith)

pub read_choice_from-returns-in_err-test-clause-follows : goal.read_choice_from-returns-in_err-test-clause-follows
read_choice_from-returns-in_err-test-clause-follows t c =
    let p = err_from_is_err_and c.from_residual.result c.from_residual.ensures.1 in rw (p.1, p.2) (stop _ (P.operators 2 ∷ []) (P.choice_or_none ∷ []) c.in_err-test.ensures.follows begin (omega arith))

pub read_choice_from-returns-then-not-is_mark-clause-follows : goal.read_choice_from-returns-then-not-is_mark-clause-follows
read_choice_from-returns-then-not-is_mark-clause-follows t c =
    skipped P.choice_or_none [] (no_question _ (c.is_mark.ensures.no c.if-not-is_mark.true)) (behind (P.choice_or_none ∷ []) c.in_ok-test.ensures.follows begin (omega arith))

pub read_choice_from-returns-in_err-place-clause-follows : goal.read_choice_from-returns-in_err-place-clause-follows
read_choice_from-returns-in_err-place-clause-follows t c =
    let p = err_from_is_err_and c.from_residual-in_err-place.result c.from_residual-in_err-place.ensures.1 in rw (p.1, p.2) (unwritten _ M.Question (P.expression ∷ P.operator M.Colon ∷ P.choice ∷ []) c.in_err-place.ensures.stops (turned P.choice_or_none (P.operator M.Question) (P.expression ∷ P.operator M.Colon ∷ P.choice ∷ []) [] (c.is_mark.ensures.yes c.if-not-is_mark.false) refl tt (behind (P.choice_or_none ∷ []) c.in_ok-test.ensures.follows begin (omega arith))))

pub read_choice_from-returns-in_err-then-clause-follows : goal.read_choice_from-returns-in_err-then-clause-follows
read_choice_from-returns-in_err-then-clause-follows t c =
    let p = err_from_is_err_and c.from_residual-in_err-then.result c.from_residual-in_err-then.ensures.1 in rw (p.1, p.2) (stop _ (P.expression ∷ []) (P.operator M.Colon ∷ P.choice ∷ []) c.in_err-then.ensures.follows (operated (P.operator M.Question) (P.expression ∷ P.operator M.Colon ∷ P.choice ∷ []) c.in_ok-place.ensures.read refl (omega arith) (turned P.choice_or_none (P.operator M.Question) (P.expression ∷ P.operator M.Colon ∷ P.choice ∷ []) [] (c.is_mark.ensures.yes c.if-not-is_mark.false) refl tt (behind (P.choice_or_none ∷ []) c.in_ok-test.ensures.follows begin (omega arith)))) (omega arith))

pub read_choice_from-returns-in_err-expect_operator-clause-follows : goal.read_choice_from-returns-in_err-expect_operator-clause-follows
read_choice_from-returns-in_err-expect_operator-clause-follows t c =
    let p = err_from_is_err_and c.from_residual-in_err-expect_operator.result c.from_residual-in_err-expect_operator.ensures.1 in rw (p.1, p.2) (unwritten _ M.Colon (P.choice ∷ []) c.in_err-expect_operator.ensures.stops (behind (P.operator M.Colon ∷ P.choice ∷ []) c.in_ok-then.ensures.follows (operated (P.operator M.Question) (P.expression ∷ P.operator M.Colon ∷ P.choice ∷ []) c.in_ok-place.ensures.read refl (omega arith) (turned P.choice_or_none (P.operator M.Question) (P.expression ∷ P.operator M.Colon ∷ P.choice ∷ []) [] (c.is_mark.ensures.yes c.if-not-is_mark.false) refl tt (behind (P.choice_or_none ∷ []) c.in_ok-test.ensures.follows begin (omega arith)))) (omega arith)))

pub read_choice_from-returns-in_err-otherwise-clause-follows : goal.read_choice_from-returns-in_err-otherwise-clause-follows
read_choice_from-returns-in_err-otherwise-clause-follows t c =
    let p = err_from_is_err_and c.from_residual-in_err-otherwise.result c.from_residual-in_err-otherwise.ensures.1 in rw (p.1, p.2) (stop _ (P.choice ∷ []) [] c.in_err-otherwise.ensures.follows (operated (P.operator M.Colon) (P.choice ∷ []) c.in_ok-expect_operator.ensures.read refl (omega arith) (behind (P.operator M.Colon ∷ P.choice ∷ []) c.in_ok-then.ensures.follows (operated (P.operator M.Question) (P.expression ∷ P.operator M.Colon ∷ P.choice ∷ []) c.in_ok-place.ensures.read refl (omega arith) (turned P.choice_or_none (P.operator M.Question) (P.expression ∷ P.operator M.Colon ∷ P.choice ∷ []) [] (c.is_mark.ensures.yes c.if-not-is_mark.false) refl tt (behind (P.choice_or_none ∷ []) c.in_ok-test.ensures.follows begin (omega arith)))) (omega arith))) (omega arith))

pub read_choice_from-returns-clause-follows : goal.read_choice_from-returns-clause-follows
read_choice_from-returns-clause-follows t c =
    behind [] c.in_ok-otherwise.ensures.follows (operated (P.operator M.Colon) (P.choice ∷ []) c.in_ok-expect_operator.ensures.read refl (omega arith) (behind (P.operator M.Colon ∷ P.choice ∷ []) c.in_ok-then.ensures.follows (operated (P.operator M.Question) (P.expression ∷ P.operator M.Colon ∷ P.choice ∷ []) c.in_ok-place.ensures.read refl (omega arith) (turned P.choice_or_none (P.operator M.Question) (P.expression ∷ P.operator M.Colon ∷ P.choice ∷ []) [] (c.is_mark.ensures.yes c.if-not-is_mark.false) refl tt (behind (P.choice_or_none ∷ []) c.in_ok-test.ensures.follows begin (omega arith)))) (omega arith))) (omega arith)

pub read_binary-returns-in_err-left-clause-follows : goal.read_binary-returns-in_err-left-clause-follows
read_binary-returns-in_err-left-clause-follows t c =
    let p = err_from_is_err_and c.from_residual.result c.from_residual.ensures.1 in rw (p.1, p.2) (stop _ (P.unary ∷ []) (P.operators c.args.strength ∷ []) c.in_err-left.ensures.follows (opened (P.binary c.args.strength) P.unary (P.operators c.args.strength ∷ []) [] refl (unary_real (token_kind c.args.self.now.tokens.now c.args.spot.now.at)) begin) (omega arith))

pub read_binary-returns-clause-follows : goal.read_binary-returns-clause-follows
read_binary-returns-clause-follows t c =
    onward (P.operators c.args.strength ∷ []) [] [] c.args.spot.now c.read_unary.new.spot c.read_operators.new.spot c.read_operators.result c.read_operators.ensures.follows (behind (P.operators c.args.strength ∷ []) c.in_ok-left.ensures.follows (opened (P.binary c.args.strength) P.unary (P.operators c.args.strength ∷ []) [] refl (unary_real (token_kind c.args.self.now.tokens.now c.args.spot.now.at)) begin) (omega arith)) (omega arith)

pub read_operators-returns-in_err-place-clause-follows : goal.read_operators-returns-in_err-place-clause-follows
read_operators-returns-in_err-place-clause-follows t c =
    let p = err_from_is_err_and c.from_residual.result c.from_residual.ensures.1 in rw (p.1, p.2) (overfull _ (P.operators c.args.strength) [] c.in-Some.ensures.found (takes_binary c.args.strength c.in-Some.op c.in-Some.ensures.strong) c.in_err-place.ensures.stops c.operators.invariant.3)

pub read_operators-returns-in_err-right-clause-follows : goal.read_operators-returns-in_err-right-clause-follows
read_operators-returns-in_err-right-clause-follows t c =
    let p = err_from_is_err_and c.from_residual-in_err-right.result c.from_residual-in_err-right.ensures.1 in rw (p.1, p.2) (stop _ (P.binary (binary_level c.in-Some.op + 1) ∷ []) (P.operators c.args.strength ∷ []) (rw c.level_of.ensures.level at c.in_err-right.ensures.follows) (added (P.operators c.args.strength) [] c.in-Some.ensures.found c.in_ok-place.ensures.read (takes_binary c.args.strength c.in-Some.op c.in-Some.ensures.strong) (omega arith) c.operators.invariant.3) (omega arith))

pub read_operators-returns-clause-follows : goal.read_operators-returns-clause-follows
read_operators-returns-clause-follows t c =
    skipped (P.operators c.args.strength) [] (weaker c.args.strength _ (c.in_default.ensures.missing c.requires.some)) c.operators.invariant.3

pub read_unary-returns-then-begins_cast-clause-follows : goal.read_unary-returns-then-begins_cast-clause-follows
read_unary-returns-then-begins_cast-clause-follows t c =
    c.read_cast.ensures.follows (c.begins_cast.ensures.yes c.if-begins_cast.true)

pub read_unary-returns-clause-follows : goal.read_unary-returns-clause-follows
read_unary-returns-clause-follows t c =
    c.read_operand.ensures.follows (c.begins_cast.ensures.no c.if-begins_cast.false)

pub read_cast-returns-in_err-chain-clause-follows : goal.read_cast-returns-in_err-chain-clause-follows
read_cast-returns-in_err-chain-clause-follows t c =
    let p = err_from_is_err_and c.from_residual.result c.from_residual.ensures.1 in rw (p.1, p.2) (λ cast. c.in_err-chain.ensures.follows cast)

pub read_cast-returns-in_err-operand-clause-follows : goal.read_cast-returns-in_err-operand-clause-follows
read_cast-returns-in_err-operand-clause-follows t c =
    let p = err_from_is_err_and c.from_residual-in_err-operand.result c.from_residual-in_err-operand.ensures.1 in rw (p.1, p.2) (λ cast. stop _ (P.unary ∷ []) [] c.in_err-operand.ensures.follows (c.in_ok-chain.ensures.follows cast) (omega arith))

pub read_cast-returns-then-is_some-clause-follows : goal.read_cast-returns-then-is_some-clause-follows
read_cast-returns-then-is_some-clause-follows t c =
    λ cast. behind [] c.in_ok-operand.ensures.follows (c.in_ok-chain.ensures.follows cast) (omega arith)

pub read_cast-returns-in_err-operand-2-clause-follows : goal.read_cast-returns-in_err-operand-2-clause-follows
read_cast-returns-in_err-operand-2-clause-follows t c =
    let p = err_from_is_err_and c.from_residual-in_err-operand-2.result c.from_residual-in_err-operand-2.ensures.1 in rw (p.1, p.2) (λ cast. stop _ (P.unary ∷ []) [] (c.in_err-operand-2.ensures.follows (c.in_ok-chain.ensures.last (sym c.is_some.ensures ∙ c.if-is_some.false))) (c.in_ok-chain.ensures.follows cast) (omega arith))

pub read_cast-returns-clause-follows : goal.read_cast-returns-clause-follows
read_cast-returns-clause-follows t c =
    λ cast. behind [] (c.in_ok-operand-2.ensures.follows (c.in_ok-chain.ensures.last (sym c.is_some.ensures ∙ c.if-is_some.false))) (c.in_ok-chain.ensures.follows cast) (omega arith)

pub read_operand-returns-in_err-place-clause-follows : goal.read_operand-returns-in_err-place-clause-follows
read_operand-returns-in_err-place-clause-follows t c =
    let p = err_from_is_err_and c.from_residual.result c.from_residual.ensures.1 in rw (p.1, p.2) (λ uncast. overfull _ P.unary [] c.in-Some.ensures.found (takes_prefix c.in-Some.op) c.in_err-place.ensures.stops begin)

pub read_operand-returns-in_err-operand-clause-follows : goal.read_operand-returns-in_err-operand-clause-follows
read_operand-returns-in_err-operand-clause-follows t c =
    let p = err_from_is_err_and c.from_residual-in_err-operand.result c.from_residual-in_err-operand.ensures.1 in rw (p.1, p.2) (λ uncast. stop _ (P.unary ∷ []) [] c.in_err-operand.ensures.follows (added P.unary [] c.in-Some.ensures.found c.in_ok-place.ensures.read (takes_prefix c.in-Some.op) (omega arith) begin) (omega arith))

pub read_operand-returns-in-Some-clause-follows : goal.read_operand-returns-in-Some-clause-follows
read_operand-returns-in-Some-clause-follows t c =
    λ uncast. behind [] c.in_ok-operand.ensures.follows (added P.unary [] c.in-Some.ensures.found c.in_ok-place.ensures.read (takes_prefix c.in-Some.op) (omega arith) begin) (omega arith)

pub read_operand-returns-in_err-operand-2-clause-follows : goal.read_operand-returns-in_err-operand-2-clause-follows
read_operand-returns-in_err-operand-2-clause-follows t c =
    let p = err_from_is_err_and c.from_residual-in_err-operand-2.result c.from_residual-in_err-operand-2.ensures.1 in rw (p.1, p.2) (λ uncast. c.in_err-operand-2.ensures.follows uncast c.in_default.ensures.missing)

pub read_operand-returns-clause-follows : goal.read_operand-returns-clause-follows
read_operand-returns-clause-follows t c =
    λ uncast. onward (P.steps ∷ []) [] [] c.args.spot.now c.read_primary.new.spot c.read_steps.new.spot c.read_steps.result (c.read_steps.ensures.follows c.args.levels c.requires.depth) (c.in_ok-operand-2.ensures.follows uncast c.in_default.ensures.missing) (omega arith)

pub read_primary-returns-in-Some-Name-clause-follows : goal.read_primary-returns-in-Some-Name-clause-follows
read_primary-returns-in-Some-Name-clause-follows t c =
    λ uncast unprefixed. onward (P.name ∷ P.behind_name ∷ []) [] (P.steps ∷ []) c.args.spot.now c.args.spot.now c.read_named.new.spot c.read_named.result c.read_named.ensures.follows (turned {kind = K.Name c.in-Some-Name.field-0-0} P.unary P.name (P.behind_name ∷ P.steps ∷ []) [] (cc c.in-Some-Name.ensures.found) refl tt begin) (omega arith)

pub read_primary-returns-in_default-clause-follows : goal.read_primary-returns-in_default-clause-follows
read_primary-returns-in_default-clause-follows t c =
    λ uncast unprefixed. c.read_plain.ensures.follows (elim c.in_default.branch [
      | read_primary-in_default-via-in-Some+in-Mark+in_default w ↦ plain_first _ w.in_default.field-0.now (rw w.in_default.is at c.kind_at.ensures.found) unprefixed (λ word. search rules) (search rules) (search rules) (search rules) (search rules) (search rules) (search rules) (search rules)
      | read_primary-in_default-via-in-Some+in_default w ↦ plain_first _ w.in_default.field-0.now (rw w.in_default.is at c.kind_at.ensures.found) unprefixed (λ word. search rules) (search rules) (search rules) (search rules) (search rules) (search rules) (search rules) (search rules)
      | read_primary-in_default-via-in_default w ↦ none_first _ (rw w.in_default.is at c.kind_at.ensures.missing)
    ])

pub read_primary-returns-in-Some-Mark-LeftParen-clause-follows : goal.read_primary-returns-in-Some-Mark-LeftParen-clause-follows
read_primary-returns-in-Some-Mark-LeftParen-clause-follows t c =
    λ uncast unprefixed. c.read_brackets.ensures.follows uncast (cc c.in-Some-Mark-LeftParen.ensures.found)

pub read_primary-returns-in-Some-Mark-LeftBracket-clause-follows : goal.read_primary-returns-in-Some-Mark-LeftBracket-clause-follows
read_primary-returns-in-Some-Mark-LeftBracket-clause-follows t c =
    λ uncast unprefixed. onward (P.mark M.LeftBracket ∷ P.expression ∷ P.close M.RightBracket ∷ P.indexes ∷ []) [] (P.steps ∷ []) c.args.spot.now c.args.spot.now c.read_left_index.new.spot c.read_left_index.result c.read_left_index.ensures.follows (turned {kind = K.Mark M.LeftBracket} P.unary (P.mark M.LeftBracket) (P.expression ∷ P.close M.RightBracket ∷ P.indexes ∷ P.steps ∷ []) [] (cc c.in-Some-Mark-LeftBracket.ensures.found) refl tt begin) (omega arith)

pub read_primary-returns-in-Some-Mark-Pcoord-clause-follows : goal.read_primary-returns-in-Some-Mark-Pcoord-clause-follows
read_primary-returns-in-Some-Mark-Pcoord-clause-follows t c =
    λ uncast unprefixed. onward (P.mark M.Pcoord ∷ P.operands_of M.Pcoord ∷ []) [] (P.steps ∷ []) c.args.spot.now c.args.spot.now c.read_pcoord.new.spot c.read_pcoord.result c.read_pcoord.ensures.follows (turned {kind = K.Mark M.Pcoord} P.unary (P.mark M.Pcoord) (P.operands_of M.Pcoord ∷ P.steps ∷ []) [] (cc c.in-Some-Mark-Pcoord.ensures.found) refl tt begin) (omega arith)

pub read_primary-returns-in-Some-Mark-DimOf-clause-follows : goal.read_primary-returns-in-Some-Mark-DimOf-clause-follows
read_primary-returns-in-Some-Mark-DimOf-clause-follows t c =
    λ uncast unprefixed. onward (P.mark M.DimOf ∷ P.operands_of M.DimOf ∷ []) [] (P.steps ∷ []) c.args.spot.now c.args.spot.now c.read_dim_of.new.spot c.read_dim_of.result c.read_dim_of.ensures.follows (turned {kind = K.Mark M.DimOf} P.unary (P.mark M.DimOf) (P.operands_of M.DimOf ∷ P.steps ∷ []) [] (cc c.in-Some-Mark-DimOf.ensures.found) refl tt begin) (omega arith)

pub read_primary-returns-in-Some-Mark-Scan-clause-follows : goal.read_primary-returns-in-Some-Mark-Scan-clause-follows
read_primary-returns-in-Some-Mark-Scan-clause-follows t c =
    λ uncast unprefixed. onward (P.mark M.Scan ∷ P.operands_of M.Scan ∷ []) [] (P.steps ∷ []) c.args.spot.now c.args.spot.now c.read_scan.new.spot c.read_scan.result c.read_scan.ensures.follows (turned {kind = K.Mark M.Scan} P.unary (P.mark M.Scan) (P.operands_of M.Scan ∷ P.steps ∷ []) [] (cc c.in-Some-Mark-Scan.ensures.found) refl tt begin) (omega arith)

pub read_primary-returns-in-Some-Mark-Enumerate-clause-follows : goal.read_primary-returns-in-Some-Mark-Enumerate-clause-follows
read_primary-returns-in-Some-Mark-Enumerate-clause-follows t c =
    λ uncast unprefixed. onward (P.mark M.Enumerate ∷ P.operands_of M.Enumerate ∷ []) [] (P.steps ∷ []) c.args.spot.now c.args.spot.now c.read_enumerate.new.spot c.read_enumerate.result c.read_enumerate.ensures.follows (turned {kind = K.Mark M.Enumerate} P.unary (P.mark M.Enumerate) (P.operands_of M.Enumerate ∷ P.steps ∷ []) [] (cc c.in-Some-Mark-Enumerate.ensures.found) refl tt begin) (omega arith)

pub read_primary-returns-in-Some-Mark-Printf-clause-follows : goal.read_primary-returns-in-Some-Mark-Printf-clause-follows
read_primary-returns-in-Some-Mark-Printf-clause-follows t c =
    λ uncast unprefixed. onward (P.mark M.Printf ∷ P.operands_of M.Printf ∷ []) [] (P.steps ∷ []) c.args.spot.now c.args.spot.now c.read_printf.new.spot c.read_printf.result c.read_printf.ensures.follows (turned {kind = K.Mark M.Printf} P.unary (P.mark M.Printf) (P.operands_of M.Printf ∷ P.steps ∷ []) [] (cc c.in-Some-Mark-Printf.ensures.found) refl tt begin) (omega arith)

pub read_brackets-returns-in_err-place-clause-follows : goal.read_brackets-returns-in_err-place-clause-follows
read_brackets-returns-in_err-place-clause-follows t c =
    let p = err_from_is_err_and c.from_residual.result c.from_residual.ensures.1 in rw (p.1, p.2) (λ uncast found. unentered _ P.unary M.LeftParen [] found refl c.in_err-place.ensures.stops (omega arith) begin)

pub read_brackets-returns-in_err-inner-clause-follows : goal.read_brackets-returns-in_err-inner-clause-follows
read_brackets-returns-in_err-inner-clause-follows t c =
    let p = err_from_is_err_and c.from_residual-in_err-inner.result c.from_residual-in_err-inner.ensures.1 in rw (p.1, p.2) (λ uncast found. stop _ (P.expression ∷ []) (P.close M.RightParen ∷ P.steps ∷ []) c.in_err-inner.ensures.follows (opened P.behind_paren P.expression (P.close M.RightParen ∷ P.steps ∷ []) [] (brackets_behind _ _ _ found uncast c.in_ok-place.ensures.read.spelled.next_is) (expression_real (token_kind c.args.self.now.tokens.now c.«open».new.spot.at)) (entered P.unary [] c.in_ok-place.ensures.read refl (omega (arith, c.in_ok-place.ensures.read.fits.0)) begin)) (omega arith))

pub read_brackets-returns-in_err-expect-clause-follows : goal.read_brackets-returns-in_err-expect-clause-follows
read_brackets-returns-in_err-expect-clause-follows t c =
    let p = err_from_is_err_and c.from_residual-in_err-expect.result c.from_residual-in_err-expect.ensures.1 in rw (p.1, p.2) (λ uncast found. refused _ (P.close M.RightParen) (P.steps ∷ []) c.in_err-expect.ensures.stops (behind (P.close M.RightParen ∷ P.steps ∷ []) c.in_ok-inner.ensures.follows (opened P.behind_paren P.expression (P.close M.RightParen ∷ P.steps ∷ []) [] (brackets_behind _ _ _ found uncast c.in_ok-place.ensures.read.spelled.next_is) (expression_real (token_kind c.args.self.now.tokens.now c.«open».new.spot.at)) (entered P.unary [] c.in_ok-place.ensures.read refl (omega (arith, c.in_ok-place.ensures.read.fits.0)) begin)) (omega arith)))

pub read_brackets-returns-clause-follows : goal.read_brackets-returns-clause-follows
read_brackets-returns-clause-follows t c =
    λ uncast found. marked (P.close M.RightParen) (P.steps ∷ []) c.in_ok-expect.ensures.read refl (omega (arith, c.in_ok-place.ensures.read.fits.0)) (behind (P.close M.RightParen ∷ P.steps ∷ []) c.in_ok-inner.ensures.follows (opened P.behind_paren P.expression (P.close M.RightParen ∷ P.steps ∷ []) [] (brackets_behind _ _ _ found uncast c.in_ok-place.ensures.read.spelled.next_is) (expression_real (token_kind c.args.self.now.tokens.now c.«open».new.spot.at)) (entered P.unary [] c.in_ok-place.ensures.read refl (omega (arith, c.in_ok-place.ensures.read.fits.0)) begin)) (omega arith))

pub read_named-returns-in_err-name-clause-follows : goal.read_named-returns-in_err-name-clause-follows
read_named-returns-in_err-name-clause-follows t c =
    let p = err_from_is_err_and c.from_residual.result c.from_residual.ensures.1 in rw (p.1, p.2) (refused _ P.name (P.behind_name ∷ []) c.in_err-name.ensures.stops begin)

pub read_named-returns-in_err-arguments-clause-follows : goal.read_named-returns-in_err-arguments-clause-follows
read_named-returns-in_err-arguments-clause-follows t c =
    let p = err_from_is_err_and c.from_residual-in_err-arguments.result c.from_residual-in_err-arguments.ensures.1 in rw (p.1, p.2) (stop _ (P.mark M.LeftParen ∷ P.arguments ∷ []) [] c.in_err-arguments.ensures.follows (turned P.behind_name (P.mark M.LeftParen) (P.arguments ∷ []) [] (c.is_mark.ensures.yes c.if-is_mark.true) refl tt (name_read P.name (P.behind_name ∷ []) c.in_ok-name.ensures.read refl (omega arith) begin)) (omega arith))

pub read_named-returns-then-is_mark-clause-follows : goal.read_named-returns-then-is_mark-clause-follows
read_named-returns-then-is_mark-clause-follows t c =
    behind [] c.in_ok-arguments.ensures.follows (turned P.behind_name (P.mark M.LeftParen) (P.arguments ∷ []) [] (c.is_mark.ensures.yes c.if-is_mark.true) refl tt (name_read P.name (P.behind_name ∷ []) c.in_ok-name.ensures.read refl (omega arith) begin)) (omega arith)

pub read_named-returns-then-not-is_mark-clause-follows : goal.read_named-returns-then-not-is_mark-clause-follows
read_named-returns-then-not-is_mark-clause-follows t c =
    skipped P.behind_name [] (nothing_behind_name _ (c.is_mark.ensures.no c.if-is_mark.false) (c.is_mark-2.ensures.no c.if-not-is_mark.true)) (name_read P.name (P.behind_name ∷ []) c.in_ok-name.ensures.read refl (omega arith) begin)

pub read_named-returns-in_err-bracket-clause-follows : goal.read_named-returns-in_err-bracket-clause-follows
read_named-returns-in_err-bracket-clause-follows t c =
    let p = err_from_is_err_and c.from_residual-in_err-bracket.result c.from_residual-in_err-bracket.ensures.1 in rw (p.1, p.2) (stop _ (P.mark M.LeftBracket ∷ P.expression ∷ P.close M.RightBracket ∷ []) [] c.in_err-bracket.ensures.follows (turned P.behind_name (P.mark M.LeftBracket) (P.expression ∷ P.close M.RightBracket ∷ []) [] (c.is_mark-2.ensures.yes c.if-not-is_mark.false) refl tt (name_read P.name (P.behind_name ∷ []) c.in_ok-name.ensures.read refl (omega arith) begin)) (omega arith))

pub read_named-returns-clause-follows : goal.read_named-returns-clause-follows
read_named-returns-clause-follows t c =
    behind [] c.in_ok-bracket.ensures.follows (turned P.behind_name (P.mark M.LeftBracket) (P.expression ∷ P.close M.RightBracket ∷ []) [] (c.is_mark-2.ensures.yes c.if-not-is_mark.false) refl tt (name_read P.name (P.behind_name ∷ []) c.in_ok-name.ensures.read refl (omega arith) begin)) (omega arith)

pub read_index-returns-in_err-place-clause-follows : goal.read_index-returns-in_err-place-clause-follows
read_index-returns-in_err-place-clause-follows t c =
    let p = err_from_is_err_and c.from_residual.result c.from_residual.ensures.1 in rw (p.1, p.2) (unopened _ M.LeftBracket (P.expression ∷ P.close M.RightBracket ∷ []) c.in_err-place.ensures.stops (omega arith) begin)

pub read_index-returns-in_err-index-clause-follows : goal.read_index-returns-in_err-index-clause-follows
read_index-returns-in_err-index-clause-follows t c =
    let p = err_from_is_err_and c.from_residual-in_err-index.result c.from_residual-in_err-index.ensures.1 in rw (p.1, p.2) (stop _ (P.expression ∷ []) (P.close M.RightBracket ∷ []) c.in_err-index.ensures.follows (bracketed (P.expression ∷ P.close M.RightBracket ∷ []) c.in_ok-place.ensures.read (omega (arith, c.in_ok-place.ensures.read.fits.0)) begin) (omega arith))

pub read_index-returns-in_err-expect-clause-follows : goal.read_index-returns-in_err-expect-clause-follows
read_index-returns-in_err-expect-clause-follows t c =
    let p = err_from_is_err_and c.from_residual-in_err-expect.result c.from_residual-in_err-expect.ensures.1 in rw (p.1, p.2) (refused _ (P.close M.RightBracket) [] c.in_err-expect.ensures.stops (behind (P.close M.RightBracket ∷ []) c.in_ok-index.ensures.follows (bracketed (P.expression ∷ P.close M.RightBracket ∷ []) c.in_ok-place.ensures.read (omega (arith, c.in_ok-place.ensures.read.fits.0)) begin) (omega arith)))

pub read_index-returns-clause-follows : goal.read_index-returns-clause-follows
read_index-returns-clause-follows t c =
    marked (P.close M.RightBracket) [] c.in_ok-expect.ensures.read refl (omega (arith, c.in_ok-place.ensures.read.fits.0)) (behind (P.close M.RightBracket ∷ []) c.in_ok-index.ensures.follows (bracketed (P.expression ∷ P.close M.RightBracket ∷ []) c.in_ok-place.ensures.read (omega (arith, c.in_ok-place.ensures.read.fits.0)) begin) (omega arith))

pub read_arguments-returns-in_err-open-clause-follows : goal.read_arguments-returns-in_err-open-clause-follows
read_arguments-returns-in_err-open-clause-follows t c =
    let p = err_from_is_err_and c.from_residual.result c.from_residual.ensures.1 in rw (p.1, p.2) (unopened _ M.LeftParen (P.arguments ∷ []) c.in_err-open.ensures.stops (omega arith) begin)

pub read_arguments-returns-in_err-expect-clause-follows : goal.read_arguments-returns-in_err-expect-clause-follows
read_arguments-returns-in_err-expect-clause-follows t c =
    let p = err_from_is_err_and c.from_residual-in_err-expect.result c.from_residual-in_err-expect.ensures.1 in rw (p.1, p.2) (refused _ (P.mark M.RightParen) [] c.in_err-expect.ensures.stops (turned P.arguments (P.mark M.RightParen) [] [] (c.is_mark.ensures.yes c.if-is_mark.true) refl tt (bracketed (P.arguments ∷ []) c.in_ok-open.ensures.read (omega (arith, c.in_ok-open.ensures.read.fits.0)) begin)))

pub read_arguments-returns-then-is_mark-clause-follows : goal.read_arguments-returns-then-is_mark-clause-follows
read_arguments-returns-then-is_mark-clause-follows t c =
    marked (P.mark M.RightParen) [] c.in_ok-expect.ensures.read refl (omega (arith, c.in_ok-open.ensures.read.fits.0)) (turned P.arguments (P.mark M.RightParen) [] [] (c.is_mark.ensures.yes c.if-is_mark.true) refl tt (bracketed (P.arguments ∷ []) c.in_ok-open.ensures.read (omega (arith, c.in_ok-open.ensures.read.fits.0)) begin))

pub read_arguments-returns-in_err-first-clause-follows : goal.read_arguments-returns-in_err-first-clause-follows
read_arguments-returns-in_err-first-clause-follows t c =
    let p = err_from_is_err_and c.from_residual-in_err-first.result c.from_residual-in_err-first.ensures.1 in rw (p.1, p.2) (stop _ (P.expression ∷ []) (P.more_arguments ∷ []) c.in_err-first.ensures.follows (opened P.arguments P.expression (P.more_arguments ∷ []) [] (some_arguments _ (c.is_mark.ensures.no c.if-is_mark.false)) (expression_real (token_kind c.args.self.now.tokens.now c.«open».new.spot.at)) (bracketed (P.arguments ∷ []) c.in_ok-open.ensures.read (omega (arith, c.in_ok-open.ensures.read.fits.0)) begin)) (omega arith))

pub read_arguments-returns-in_err-read_more-clause-follows : goal.read_arguments-returns-in_err-read_more-clause-follows
read_arguments-returns-in_err-read_more-clause-follows t c =
    let p = err_from_is_err_and c.from_residual-in_err-read_more.result c.from_residual-in_err-read_more.ensures.1 in rw (p.1, p.2) (stop _ (P.more_arguments ∷ []) [] (c.in_err-read_more.ensures.follows c.args.levels refl) (behind (P.more_arguments ∷ []) c.in_ok-first.ensures.follows (opened P.arguments P.expression (P.more_arguments ∷ []) [] (some_arguments _ (c.is_mark.ensures.no c.if-is_mark.false)) (expression_real (token_kind c.args.self.now.tokens.now c.«open».new.spot.at)) (bracketed (P.arguments ∷ []) c.in_ok-open.ensures.read (omega (arith, c.in_ok-open.ensures.read.fits.0)) begin)) (omega arith)) (omega arith))

pub read_arguments-returns-clause-follows : goal.read_arguments-returns-clause-follows
read_arguments-returns-clause-follows t c =
    behind [] (c.in_ok-read_more.ensures.follows c.args.levels refl) (behind (P.more_arguments ∷ []) c.in_ok-first.ensures.follows (opened P.arguments P.expression (P.more_arguments ∷ []) [] (some_arguments _ (c.is_mark.ensures.no c.if-is_mark.false)) (expression_real (token_kind c.args.self.now.tokens.now c.«open».new.spot.at)) (bracketed (P.arguments ∷ []) c.in_ok-open.ensures.read (omega (arith, c.in_ok-open.ensures.read.fits.0)) begin)) (omega arith)) (omega arith)

pub read_more-returns-in_err-expect-clause-follows : goal.read_more-returns-in_err-expect-clause-follows
read_more-returns-in_err-expect-clause-follows t c =
    let p = err_from_is_err_and c.from_residual.result c.from_residual.ensures.1 in rw (p.1, p.2) (λ around e. refused _ (P.mark M.Comma) (P.expression ∷ P.more_arguments ∷ []) c.in_err-expect.ensures.stops (turned P.more_arguments (P.mark M.Comma) (P.expression ∷ P.more_arguments ∷ []) [] (c.is_mark.ensures.yes c.commas-test.true) refl tt (c.commas.invariant.4 around e)))

pub read_more-returns-in_err-next-clause-follows : goal.read_more-returns-in_err-next-clause-follows
read_more-returns-in_err-next-clause-follows t c =
    let p = err_from_is_err_and c.from_residual-in_err-next.result c.from_residual-in_err-next.ensures.1 in rw (p.1, p.2) (λ around e. stop _ (P.expression ∷ []) (P.more_arguments ∷ []) c.in_err-next.ensures.follows (marked (P.mark M.Comma) (P.expression ∷ P.more_arguments ∷ []) c.in_ok-expect.ensures.read refl (omega arith) (turned P.more_arguments (P.mark M.Comma) (P.expression ∷ P.more_arguments ∷ []) [] (c.is_mark.ensures.yes c.commas-test.true) refl tt (c.commas.invariant.4 around e))) (omega arith))

pub read_more-returns-in_err-expect-2-clause-follows : goal.read_more-returns-in_err-expect-2-clause-follows
read_more-returns-in_err-expect-2-clause-follows t c =
    let p = err_from_is_err_and c.from_residual-in_err-expect-2.result c.from_residual-in_err-expect-2.ensures.1 in rw (p.1, p.2) (λ around e. refused _ (P.mark M.RightParen) [] c.in_err-expect-2.ensures.stops (opened P.more_arguments (P.mark M.RightParen) [] [] (last_argument _ (c.is_mark.ensures.no c.commas-test.false)) (mark_real (token_kind c.args.self.now.tokens.now c.commas.spot.at) M.RightParen) (c.commas.invariant.4 around e)))

pub read_more-returns-clause-follows : goal.read_more-returns-clause-follows
read_more-returns-clause-follows t c =
    λ around e. marked (P.mark M.RightParen) [] c.in_ok-expect-2.ensures.read refl (omega arith) (opened P.more_arguments (P.mark M.RightParen) [] [] (last_argument _ (c.is_mark.ensures.no c.commas-test.false)) (mark_real (token_kind c.args.self.now.tokens.now c.commas.spot.at) M.RightParen) (c.commas.invariant.4 around e))

pub read_left_index-returns-in_err-place-clause-follows : goal.read_left_index-returns-in_err-place-clause-follows
read_left_index-returns-in_err-place-clause-follows t c =
    let p = err_from_is_err_and c.from_residual.result c.from_residual.ensures.1 in rw (p.1, p.2) (stop _ (P.mark M.LeftBracket ∷ P.expression ∷ P.close M.RightBracket ∷ []) (P.indexes ∷ []) c.in_err-place.ensures.follows begin (omega arith))

pub read_left_index-returns-in_err-next-clause-follows : goal.read_left_index-returns-in_err-next-clause-follows
read_left_index-returns-in_err-next-clause-follows t c =
    let p = err_from_is_err_and c.from_residual-in_err-next.result c.from_residual-in_err-next.ensures.1 in rw (p.1, p.2) (stop _ (P.mark M.LeftBracket ∷ P.expression ∷ P.close M.RightBracket ∷ []) (P.indexes ∷ []) c.in_err-next.ensures.follows (turned P.indexes (P.mark M.LeftBracket) (P.expression ∷ P.close M.RightBracket ∷ P.indexes ∷ []) [] (c.is_mark.ensures.yes c.indexes-test.true) refl tt c.indexes.invariant.4) (omega arith))

pub read_left_index-returns-in_err-name-clause-follows : goal.read_left_index-returns-in_err-name-clause-follows
read_left_index-returns-in_err-name-clause-follows t c =
    let p = err_from_is_err_and c.from_residual-in_err-name.result c.from_residual-in_err-name.ensures.1 in rw (p.1, p.2) (refused _ P.name [] c.in_err-name.ensures.stops (opened P.indexes P.name [] [] (last_index _ (c.is_mark.ensures.no c.indexes-test.false)) (name_real (token_kind c.args.self.now.tokens.now c.indexes.spot.at)) c.indexes.invariant.4))

pub read_left_index-returns-clause-follows : goal.read_left_index-returns-clause-follows
read_left_index-returns-clause-follows t c =
    name_read P.name [] c.in_ok-name.ensures.read refl (omega arith) (opened P.indexes P.name [] [] (last_index _ (c.is_mark.ensures.no c.indexes-test.false)) (name_real (token_kind c.args.self.now.tokens.now c.indexes.spot.at)) c.indexes.invariant.4)

pub read_pcoord-returns-in_err-place-clause-follows : goal.read_pcoord-returns-in_err-place-clause-follows
read_pcoord-returns-in_err-place-clause-follows t c =
    let p = err_from_is_err_and c.from_residual.result c.from_residual.ensures.1 in rw (p.1, p.2) (refused _ (P.mark M.Pcoord) (P.operands_of M.Pcoord ∷ []) c.in_err-place.ensures.stops begin)

pub read_pcoord-returns-in_err-open-clause-follows : goal.read_pcoord-returns-in_err-open-clause-follows
read_pcoord-returns-in_err-open-clause-follows t c =
    let p = err_from_is_err_and c.from_residual-in_err-open.result c.from_residual-in_err-open.ensures.1 in rw (p.1, p.2) (unopened _ M.LeftParen (P.expression ∷ P.close M.RightParen ∷ []) c.in_err-open.ensures.stops (omega arith) (operands_opened M.Pcoord [] (marked (P.mark M.Pcoord) (P.operands_of M.Pcoord ∷ []) c.in_ok-place.ensures.read refl (omega arith) begin)))

pub read_pcoord-returns-in_err-axis-clause-follows : goal.read_pcoord-returns-in_err-axis-clause-follows
read_pcoord-returns-in_err-axis-clause-follows t c =
    let p = err_from_is_err_and c.from_residual-in_err-axis.result c.from_residual-in_err-axis.ensures.1 in rw (p.1, p.2) (stop _ (P.expression ∷ []) (P.close M.RightParen ∷ []) c.in_err-axis.ensures.follows (bracketed (P.expression ∷ P.close M.RightParen ∷ []) c.in_ok-open.ensures.read (omega (arith, c.in_ok-open.ensures.read.fits.0)) (operands_opened M.Pcoord [] (marked (P.mark M.Pcoord) (P.operands_of M.Pcoord ∷ []) c.in_ok-place.ensures.read refl (omega arith) begin))) (omega arith))

pub read_pcoord-returns-in_err-expect-clause-follows : goal.read_pcoord-returns-in_err-expect-clause-follows
read_pcoord-returns-in_err-expect-clause-follows t c =
    let p = err_from_is_err_and c.from_residual-in_err-expect.result c.from_residual-in_err-expect.ensures.1 in rw (p.1, p.2) (refused _ (P.close M.RightParen) [] c.in_err-expect.ensures.stops (behind (P.close M.RightParen ∷ []) c.in_ok-axis.ensures.follows (bracketed (P.expression ∷ P.close M.RightParen ∷ []) c.in_ok-open.ensures.read (omega (arith, c.in_ok-open.ensures.read.fits.0)) (operands_opened M.Pcoord [] (marked (P.mark M.Pcoord) (P.operands_of M.Pcoord ∷ []) c.in_ok-place.ensures.read refl (omega arith) begin))) (omega arith)))

pub read_pcoord-returns-clause-follows : goal.read_pcoord-returns-clause-follows
read_pcoord-returns-clause-follows t c =
    marked (P.close M.RightParen) [] c.in_ok-expect.ensures.read refl (omega (arith, c.in_ok-open.ensures.read.fits.0)) (behind (P.close M.RightParen ∷ []) c.in_ok-axis.ensures.follows (bracketed (P.expression ∷ P.close M.RightParen ∷ []) c.in_ok-open.ensures.read (omega (arith, c.in_ok-open.ensures.read.fits.0)) (operands_opened M.Pcoord [] (marked (P.mark M.Pcoord) (P.operands_of M.Pcoord ∷ []) c.in_ok-place.ensures.read refl (omega arith) begin))) (omega arith))

pub read_dim_of-returns-in_err-place-clause-follows : goal.read_dim_of-returns-in_err-place-clause-follows
read_dim_of-returns-in_err-place-clause-follows t c =
    let p = err_from_is_err_and c.from_residual.result c.from_residual.ensures.1 in rw (p.1, p.2) (refused _ (P.mark M.DimOf) (P.operands_of M.DimOf ∷ []) c.in_err-place.ensures.stops begin)

pub read_dim_of-returns-in_err-open-clause-follows : goal.read_dim_of-returns-in_err-open-clause-follows
read_dim_of-returns-in_err-open-clause-follows t c =
    let p = err_from_is_err_and c.from_residual-in_err-open.result c.from_residual-in_err-open.ensures.1 in rw (p.1, p.2) (unopened _ M.LeftParen (P.shape ∷ P.mark M.Comma ∷ P.expression ∷ P.close M.RightParen ∷ []) c.in_err-open.ensures.stops (omega arith) (operands_opened M.DimOf [] (marked (P.mark M.DimOf) (P.operands_of M.DimOf ∷ []) c.in_ok-place.ensures.read refl (omega arith) begin)))

pub read_dim_of-returns-in_err-shape-clause-follows : goal.read_dim_of-returns-in_err-shape-clause-follows
read_dim_of-returns-in_err-shape-clause-follows t c =
    let p = err_from_is_err_and c.from_residual-in_err-shape.result c.from_residual-in_err-shape.ensures.1 in rw (p.1, p.2) (refused _ P.shape (P.mark M.Comma ∷ P.expression ∷ P.close M.RightParen ∷ []) c.in_err-shape.ensures.stops (bracketed (P.shape ∷ P.mark M.Comma ∷ P.expression ∷ P.close M.RightParen ∷ []) c.in_ok-open.ensures.read (omega (arith, c.in_ok-open.ensures.read.fits.0)) (operands_opened M.DimOf [] (marked (P.mark M.DimOf) (P.operands_of M.DimOf ∷ []) c.in_ok-place.ensures.read refl (omega arith) begin))))

pub read_dim_of-returns-in_err-expect-clause-follows : goal.read_dim_of-returns-in_err-expect-clause-follows
read_dim_of-returns-in_err-expect-clause-follows t c =
    let p = err_from_is_err_and c.from_residual-in_err-expect.result c.from_residual-in_err-expect.ensures.1 in rw (p.1, p.2) (refused _ (P.mark M.Comma) (P.expression ∷ P.close M.RightParen ∷ []) c.in_err-expect.ensures.stops (shaped (P.mark M.Comma ∷ P.expression ∷ P.close M.RightParen ∷ []) c.in_ok-shape.ensures.read (omega (arith, c.in_ok-open.ensures.read.fits.0)) (bracketed (P.shape ∷ P.mark M.Comma ∷ P.expression ∷ P.close M.RightParen ∷ []) c.in_ok-open.ensures.read (omega (arith, c.in_ok-open.ensures.read.fits.0)) (operands_opened M.DimOf [] (marked (P.mark M.DimOf) (P.operands_of M.DimOf ∷ []) c.in_ok-place.ensures.read refl (omega arith) begin)))))

pub read_dim_of-returns-in_err-axis-clause-follows : goal.read_dim_of-returns-in_err-axis-clause-follows
read_dim_of-returns-in_err-axis-clause-follows t c =
    let p = err_from_is_err_and c.from_residual-in_err-axis.result c.from_residual-in_err-axis.ensures.1 in rw (p.1, p.2) (stop _ (P.expression ∷ []) (P.close M.RightParen ∷ []) c.in_err-axis.ensures.follows (marked (P.mark M.Comma) (P.expression ∷ P.close M.RightParen ∷ []) c.in_ok-expect.ensures.read refl (omega (arith, c.in_ok-open.ensures.read.fits.0)) (shaped (P.mark M.Comma ∷ P.expression ∷ P.close M.RightParen ∷ []) c.in_ok-shape.ensures.read (omega (arith, c.in_ok-open.ensures.read.fits.0)) (bracketed (P.shape ∷ P.mark M.Comma ∷ P.expression ∷ P.close M.RightParen ∷ []) c.in_ok-open.ensures.read (omega (arith, c.in_ok-open.ensures.read.fits.0)) (operands_opened M.DimOf [] (marked (P.mark M.DimOf) (P.operands_of M.DimOf ∷ []) c.in_ok-place.ensures.read refl (omega arith) begin))))) (omega arith))

pub read_dim_of-returns-in_err-expect-2-clause-follows : goal.read_dim_of-returns-in_err-expect-2-clause-follows
read_dim_of-returns-in_err-expect-2-clause-follows t c =
    let p = err_from_is_err_and c.from_residual-in_err-expect-2.result c.from_residual-in_err-expect-2.ensures.1 in rw (p.1, p.2) (refused _ (P.close M.RightParen) [] c.in_err-expect-2.ensures.stops (behind (P.close M.RightParen ∷ []) c.in_ok-axis.ensures.follows (marked (P.mark M.Comma) (P.expression ∷ P.close M.RightParen ∷ []) c.in_ok-expect.ensures.read refl (omega (arith, c.in_ok-open.ensures.read.fits.0)) (shaped (P.mark M.Comma ∷ P.expression ∷ P.close M.RightParen ∷ []) c.in_ok-shape.ensures.read (omega (arith, c.in_ok-open.ensures.read.fits.0)) (bracketed (P.shape ∷ P.mark M.Comma ∷ P.expression ∷ P.close M.RightParen ∷ []) c.in_ok-open.ensures.read (omega (arith, c.in_ok-open.ensures.read.fits.0)) (operands_opened M.DimOf [] (marked (P.mark M.DimOf) (P.operands_of M.DimOf ∷ []) c.in_ok-place.ensures.read refl (omega arith) begin))))) (omega arith)))

pub read_dim_of-returns-clause-follows : goal.read_dim_of-returns-clause-follows
read_dim_of-returns-clause-follows t c =
    marked (P.close M.RightParen) [] c.in_ok-expect-2.ensures.read refl (omega (arith, c.in_ok-open.ensures.read.fits.0)) (behind (P.close M.RightParen ∷ []) c.in_ok-axis.ensures.follows (marked (P.mark M.Comma) (P.expression ∷ P.close M.RightParen ∷ []) c.in_ok-expect.ensures.read refl (omega (arith, c.in_ok-open.ensures.read.fits.0)) (shaped (P.mark M.Comma ∷ P.expression ∷ P.close M.RightParen ∷ []) c.in_ok-shape.ensures.read (omega (arith, c.in_ok-open.ensures.read.fits.0)) (bracketed (P.shape ∷ P.mark M.Comma ∷ P.expression ∷ P.close M.RightParen ∷ []) c.in_ok-open.ensures.read (omega (arith, c.in_ok-open.ensures.read.fits.0)) (operands_opened M.DimOf [] (marked (P.mark M.DimOf) (P.operands_of M.DimOf ∷ []) c.in_ok-place.ensures.read refl (omega arith) begin))))) (omega arith))

pub read_scan-returns-in_err-place-clause-follows : goal.read_scan-returns-in_err-place-clause-follows
read_scan-returns-in_err-place-clause-follows t c =
    let p = err_from_is_err_and c.from_residual.result c.from_residual.ensures.1 in rw (p.1, p.2) (refused _ (P.mark M.Scan) (P.operands_of M.Scan ∷ []) c.in_err-place.ensures.stops begin)

pub read_scan-returns-in_err-open-clause-follows : goal.read_scan-returns-in_err-open-clause-follows
read_scan-returns-in_err-open-clause-follows t c =
    let p = err_from_is_err_and c.from_residual-in_err-open.result c.from_residual-in_err-open.ensures.1 in rw (p.1, p.2) (unopened _ M.LeftParen (P.expression ∷ P.mark M.Comma ∷ P.expression ∷ P.mark M.Comma ∷ P.combiner ∷ P.mark M.Comma ∷ P.direction ∷ P.mark M.Comma ∷ P.segment_mode ∷ P.mark M.Comma ∷ P.bit ∷ P.mark M.Comma ∷ P.inclusion ∷ P.close M.RightParen ∷ []) c.in_err-open.ensures.stops (omega arith) (operands_opened M.Scan [] (marked (P.mark M.Scan) (P.operands_of M.Scan ∷ []) c.in_ok-place.ensures.read refl (omega arith) begin)))

pub read_scan-returns-in_err-source-clause-follows : goal.read_scan-returns-in_err-source-clause-follows
read_scan-returns-in_err-source-clause-follows t c =
    let p = err_from_is_err_and c.from_residual-in_err-source.result c.from_residual-in_err-source.ensures.1 in rw (p.1, p.2) (stop _ (P.expression ∷ []) (P.mark M.Comma ∷ P.expression ∷ P.mark M.Comma ∷ P.combiner ∷ P.mark M.Comma ∷ P.direction ∷ P.mark M.Comma ∷ P.segment_mode ∷ P.mark M.Comma ∷ P.bit ∷ P.mark M.Comma ∷ P.inclusion ∷ P.close M.RightParen ∷ []) c.in_err-source.ensures.follows (bracketed (P.expression ∷ P.mark M.Comma ∷ P.expression ∷ P.mark M.Comma ∷ P.combiner ∷ P.mark M.Comma ∷ P.direction ∷ P.mark M.Comma ∷ P.segment_mode ∷ P.mark M.Comma ∷ P.bit ∷ P.mark M.Comma ∷ P.inclusion ∷ P.close M.RightParen ∷ []) c.in_ok-open.ensures.read (omega (arith, c.in_ok-open.ensures.read.fits.0)) (operands_opened M.Scan [] (marked (P.mark M.Scan) (P.operands_of M.Scan ∷ []) c.in_ok-place.ensures.read refl (omega arith) begin))) (omega arith))

pub read_scan-returns-in_err-expect-clause-follows : goal.read_scan-returns-in_err-expect-clause-follows
read_scan-returns-in_err-expect-clause-follows t c =
    let p = err_from_is_err_and c.from_residual-in_err-expect.result c.from_residual-in_err-expect.ensures.1 in rw (p.1, p.2) (refused _ (P.mark M.Comma) (P.expression ∷ P.mark M.Comma ∷ P.combiner ∷ P.mark M.Comma ∷ P.direction ∷ P.mark M.Comma ∷ P.segment_mode ∷ P.mark M.Comma ∷ P.bit ∷ P.mark M.Comma ∷ P.inclusion ∷ P.close M.RightParen ∷ []) c.in_err-expect.ensures.stops (behind (P.mark M.Comma ∷ P.expression ∷ P.mark M.Comma ∷ P.combiner ∷ P.mark M.Comma ∷ P.direction ∷ P.mark M.Comma ∷ P.segment_mode ∷ P.mark M.Comma ∷ P.bit ∷ P.mark M.Comma ∷ P.inclusion ∷ P.close M.RightParen ∷ []) c.in_ok-source.ensures.follows (bracketed (P.expression ∷ P.mark M.Comma ∷ P.expression ∷ P.mark M.Comma ∷ P.combiner ∷ P.mark M.Comma ∷ P.direction ∷ P.mark M.Comma ∷ P.segment_mode ∷ P.mark M.Comma ∷ P.bit ∷ P.mark M.Comma ∷ P.inclusion ∷ P.close M.RightParen ∷ []) c.in_ok-open.ensures.read (omega (arith, c.in_ok-open.ensures.read.fits.0)) (operands_opened M.Scan [] (marked (P.mark M.Scan) (P.operands_of M.Scan ∷ []) c.in_ok-place.ensures.read refl (omega arith) begin))) (omega arith)))

pub read_scan-returns-in_err-axis-clause-follows : goal.read_scan-returns-in_err-axis-clause-follows
read_scan-returns-in_err-axis-clause-follows t c =
    let p = err_from_is_err_and c.from_residual-in_err-axis.result c.from_residual-in_err-axis.ensures.1 in rw (p.1, p.2) (stop _ (P.expression ∷ []) (P.mark M.Comma ∷ P.combiner ∷ P.mark M.Comma ∷ P.direction ∷ P.mark M.Comma ∷ P.segment_mode ∷ P.mark M.Comma ∷ P.bit ∷ P.mark M.Comma ∷ P.inclusion ∷ P.close M.RightParen ∷ []) c.in_err-axis.ensures.follows (marked (P.mark M.Comma) (P.expression ∷ P.mark M.Comma ∷ P.combiner ∷ P.mark M.Comma ∷ P.direction ∷ P.mark M.Comma ∷ P.segment_mode ∷ P.mark M.Comma ∷ P.bit ∷ P.mark M.Comma ∷ P.inclusion ∷ P.close M.RightParen ∷ []) c.in_ok-expect.ensures.read refl (omega (arith, c.in_ok-open.ensures.read.fits.0)) (behind (P.mark M.Comma ∷ P.expression ∷ P.mark M.Comma ∷ P.combiner ∷ P.mark M.Comma ∷ P.direction ∷ P.mark M.Comma ∷ P.segment_mode ∷ P.mark M.Comma ∷ P.bit ∷ P.mark M.Comma ∷ P.inclusion ∷ P.close M.RightParen ∷ []) c.in_ok-source.ensures.follows (bracketed (P.expression ∷ P.mark M.Comma ∷ P.expression ∷ P.mark M.Comma ∷ P.combiner ∷ P.mark M.Comma ∷ P.direction ∷ P.mark M.Comma ∷ P.segment_mode ∷ P.mark M.Comma ∷ P.bit ∷ P.mark M.Comma ∷ P.inclusion ∷ P.close M.RightParen ∷ []) c.in_ok-open.ensures.read (omega (arith, c.in_ok-open.ensures.read.fits.0)) (operands_opened M.Scan [] (marked (P.mark M.Scan) (P.operands_of M.Scan ∷ []) c.in_ok-place.ensures.read refl (omega arith) begin))) (omega arith))) (omega arith))

pub read_scan-returns-in_err-options-clause-follows : goal.read_scan-returns-in_err-options-clause-follows
read_scan-returns-in_err-options-clause-follows t c =
    let p = err_from_is_err_and c.from_residual-in_err-options.result c.from_residual-in_err-options.ensures.1 in rw (p.1, p.2) (stop _ (P.mark M.Comma ∷ P.combiner ∷ P.mark M.Comma ∷ P.direction ∷ P.mark M.Comma ∷ P.segment_mode ∷ P.mark M.Comma ∷ P.bit ∷ P.mark M.Comma ∷ P.inclusion ∷ P.close M.RightParen ∷ []) [] (c.in_err-options.ensures.follows c.args.levels c.in_ok-open.ensures.read.fits.0) (behind (P.mark M.Comma ∷ P.combiner ∷ P.mark M.Comma ∷ P.direction ∷ P.mark M.Comma ∷ P.segment_mode ∷ P.mark M.Comma ∷ P.bit ∷ P.mark M.Comma ∷ P.inclusion ∷ P.close M.RightParen ∷ []) c.in_ok-axis.ensures.follows (marked (P.mark M.Comma) (P.expression ∷ P.mark M.Comma ∷ P.combiner ∷ P.mark M.Comma ∷ P.direction ∷ P.mark M.Comma ∷ P.segment_mode ∷ P.mark M.Comma ∷ P.bit ∷ P.mark M.Comma ∷ P.inclusion ∷ P.close M.RightParen ∷ []) c.in_ok-expect.ensures.read refl (omega (arith, c.in_ok-open.ensures.read.fits.0)) (behind (P.mark M.Comma ∷ P.expression ∷ P.mark M.Comma ∷ P.combiner ∷ P.mark M.Comma ∷ P.direction ∷ P.mark M.Comma ∷ P.segment_mode ∷ P.mark M.Comma ∷ P.bit ∷ P.mark M.Comma ∷ P.inclusion ∷ P.close M.RightParen ∷ []) c.in_ok-source.ensures.follows (bracketed (P.expression ∷ P.mark M.Comma ∷ P.expression ∷ P.mark M.Comma ∷ P.combiner ∷ P.mark M.Comma ∷ P.direction ∷ P.mark M.Comma ∷ P.segment_mode ∷ P.mark M.Comma ∷ P.bit ∷ P.mark M.Comma ∷ P.inclusion ∷ P.close M.RightParen ∷ []) c.in_ok-open.ensures.read (omega (arith, c.in_ok-open.ensures.read.fits.0)) (operands_opened M.Scan [] (marked (P.mark M.Scan) (P.operands_of M.Scan ∷ []) c.in_ok-place.ensures.read refl (omega arith) begin))) (omega arith))) (omega arith)) (omega arith))

pub read_scan-returns-clause-follows : goal.read_scan-returns-clause-follows
read_scan-returns-clause-follows t c =
    behind [] (c.in_ok-options.ensures.follows c.args.levels c.in_ok-open.ensures.read.fits.0) (behind (P.mark M.Comma ∷ P.combiner ∷ P.mark M.Comma ∷ P.direction ∷ P.mark M.Comma ∷ P.segment_mode ∷ P.mark M.Comma ∷ P.bit ∷ P.mark M.Comma ∷ P.inclusion ∷ P.close M.RightParen ∷ []) c.in_ok-axis.ensures.follows (marked (P.mark M.Comma) (P.expression ∷ P.mark M.Comma ∷ P.combiner ∷ P.mark M.Comma ∷ P.direction ∷ P.mark M.Comma ∷ P.segment_mode ∷ P.mark M.Comma ∷ P.bit ∷ P.mark M.Comma ∷ P.inclusion ∷ P.close M.RightParen ∷ []) c.in_ok-expect.ensures.read refl (omega (arith, c.in_ok-open.ensures.read.fits.0)) (behind (P.mark M.Comma ∷ P.expression ∷ P.mark M.Comma ∷ P.combiner ∷ P.mark M.Comma ∷ P.direction ∷ P.mark M.Comma ∷ P.segment_mode ∷ P.mark M.Comma ∷ P.bit ∷ P.mark M.Comma ∷ P.inclusion ∷ P.close M.RightParen ∷ []) c.in_ok-source.ensures.follows (bracketed (P.expression ∷ P.mark M.Comma ∷ P.expression ∷ P.mark M.Comma ∷ P.combiner ∷ P.mark M.Comma ∷ P.direction ∷ P.mark M.Comma ∷ P.segment_mode ∷ P.mark M.Comma ∷ P.bit ∷ P.mark M.Comma ∷ P.inclusion ∷ P.close M.RightParen ∷ []) c.in_ok-open.ensures.read (omega (arith, c.in_ok-open.ensures.read.fits.0)) (operands_opened M.Scan [] (marked (P.mark M.Scan) (P.operands_of M.Scan ∷ []) c.in_ok-place.ensures.read refl (omega arith) begin))) (omega arith))) (omega arith)) (omega arith)

pub read_enumerate-returns-in_err-place-clause-follows : goal.read_enumerate-returns-in_err-place-clause-follows
read_enumerate-returns-in_err-place-clause-follows t c =
    let p = err_from_is_err_and c.from_residual.result c.from_residual.ensures.1 in rw (p.1, p.2) (refused _ (P.mark M.Enumerate) (P.operands_of M.Enumerate ∷ []) c.in_err-place.ensures.stops begin)

pub read_enumerate-returns-in_err-open-clause-follows : goal.read_enumerate-returns-in_err-open-clause-follows
read_enumerate-returns-in_err-open-clause-follows t c =
    let p = err_from_is_err_and c.from_residual-in_err-open.result c.from_residual-in_err-open.ensures.1 in rw (p.1, p.2) (unopened _ M.LeftParen (P.expression ∷ P.mark M.Comma ∷ P.direction ∷ P.mark M.Comma ∷ P.inclusion ∷ P.mark M.Comma ∷ P.segment_mode ∷ P.mark M.Comma ∷ P.bit ∷ P.close M.RightParen ∷ []) c.in_err-open.ensures.stops (omega arith) (operands_opened M.Enumerate [] (marked (P.mark M.Enumerate) (P.operands_of M.Enumerate ∷ []) c.in_ok-place.ensures.read refl (omega arith) begin)))

pub read_enumerate-returns-in_err-axis-clause-follows : goal.read_enumerate-returns-in_err-axis-clause-follows
read_enumerate-returns-in_err-axis-clause-follows t c =
    let p = err_from_is_err_and c.from_residual-in_err-axis.result c.from_residual-in_err-axis.ensures.1 in rw (p.1, p.2) (stop _ (P.expression ∷ []) (P.mark M.Comma ∷ P.direction ∷ P.mark M.Comma ∷ P.inclusion ∷ P.mark M.Comma ∷ P.segment_mode ∷ P.mark M.Comma ∷ P.bit ∷ P.close M.RightParen ∷ []) c.in_err-axis.ensures.follows (bracketed (P.expression ∷ P.mark M.Comma ∷ P.direction ∷ P.mark M.Comma ∷ P.inclusion ∷ P.mark M.Comma ∷ P.segment_mode ∷ P.mark M.Comma ∷ P.bit ∷ P.close M.RightParen ∷ []) c.in_ok-open.ensures.read (omega (arith, c.in_ok-open.ensures.read.fits.0)) (operands_opened M.Enumerate [] (marked (P.mark M.Enumerate) (P.operands_of M.Enumerate ∷ []) c.in_ok-place.ensures.read refl (omega arith) begin))) (omega arith))

pub read_enumerate-returns-in_err-options-clause-follows : goal.read_enumerate-returns-in_err-options-clause-follows
read_enumerate-returns-in_err-options-clause-follows t c =
    let p = err_from_is_err_and c.from_residual-in_err-options.result c.from_residual-in_err-options.ensures.1 in rw (p.1, p.2) (stop _ (P.mark M.Comma ∷ P.direction ∷ P.mark M.Comma ∷ P.inclusion ∷ P.mark M.Comma ∷ P.segment_mode ∷ P.mark M.Comma ∷ P.bit ∷ P.close M.RightParen ∷ []) [] (c.in_err-options.ensures.follows c.args.levels c.in_ok-open.ensures.read.fits.0) (behind (P.mark M.Comma ∷ P.direction ∷ P.mark M.Comma ∷ P.inclusion ∷ P.mark M.Comma ∷ P.segment_mode ∷ P.mark M.Comma ∷ P.bit ∷ P.close M.RightParen ∷ []) c.in_ok-axis.ensures.follows (bracketed (P.expression ∷ P.mark M.Comma ∷ P.direction ∷ P.mark M.Comma ∷ P.inclusion ∷ P.mark M.Comma ∷ P.segment_mode ∷ P.mark M.Comma ∷ P.bit ∷ P.close M.RightParen ∷ []) c.in_ok-open.ensures.read (omega (arith, c.in_ok-open.ensures.read.fits.0)) (operands_opened M.Enumerate [] (marked (P.mark M.Enumerate) (P.operands_of M.Enumerate ∷ []) c.in_ok-place.ensures.read refl (omega arith) begin))) (omega arith)) (omega arith))

pub read_enumerate-returns-clause-follows : goal.read_enumerate-returns-clause-follows
read_enumerate-returns-clause-follows t c =
    behind [] (c.in_ok-options.ensures.follows c.args.levels c.in_ok-open.ensures.read.fits.0) (behind (P.mark M.Comma ∷ P.direction ∷ P.mark M.Comma ∷ P.inclusion ∷ P.mark M.Comma ∷ P.segment_mode ∷ P.mark M.Comma ∷ P.bit ∷ P.close M.RightParen ∷ []) c.in_ok-axis.ensures.follows (bracketed (P.expression ∷ P.mark M.Comma ∷ P.direction ∷ P.mark M.Comma ∷ P.inclusion ∷ P.mark M.Comma ∷ P.segment_mode ∷ P.mark M.Comma ∷ P.bit ∷ P.close M.RightParen ∷ []) c.in_ok-open.ensures.read (omega (arith, c.in_ok-open.ensures.read.fits.0)) (operands_opened M.Enumerate [] (marked (P.mark M.Enumerate) (P.operands_of M.Enumerate ∷ []) c.in_ok-place.ensures.read refl (omega arith) begin))) (omega arith)) (omega arith)

pub read_printf-returns-in_err-place-clause-follows : goal.read_printf-returns-in_err-place-clause-follows
read_printf-returns-in_err-place-clause-follows t c =
    let p = err_from_is_err_and c.from_residual.result c.from_residual.ensures.1 in rw (p.1, p.2) (refused _ (P.mark M.Printf) (P.operands_of M.Printf ∷ []) c.in_err-place.ensures.stops begin)

pub read_printf-returns-in_err-open-clause-follows : goal.read_printf-returns-in_err-open-clause-follows
read_printf-returns-in_err-open-clause-follows t c =
    let p = err_from_is_err_and c.from_residual-in_err-open.result c.from_residual-in_err-open.ensures.1 in rw (p.1, p.2) (unopened _ M.LeftParen (P.text ∷ P.more_arguments ∷ []) c.in_err-open.ensures.stops (omega arith) (operands_opened M.Printf [] (marked (P.mark M.Printf) (P.operands_of M.Printf ∷ []) c.in_ok-place.ensures.read refl (omega arith) begin)))

pub read_printf-returns-in_err-text-clause-follows : goal.read_printf-returns-in_err-text-clause-follows
read_printf-returns-in_err-text-clause-follows t c =
    let p = err_from_is_err_and c.from_residual-in_err-text.result c.from_residual-in_err-text.ensures.1 in rw (p.1, p.2) (refused _ P.text (P.more_arguments ∷ []) c.in_err-text.ensures.stops (bracketed (P.text ∷ P.more_arguments ∷ []) c.in_ok-open.ensures.read (omega (arith, c.in_ok-open.ensures.read.fits.0)) (operands_opened M.Printf [] (marked (P.mark M.Printf) (P.operands_of M.Printf ∷ []) c.in_ok-place.ensures.read refl (omega arith) begin))))

pub read_printf-returns-in_err-arguments-clause-follows : goal.read_printf-returns-in_err-arguments-clause-follows
read_printf-returns-in_err-arguments-clause-follows t c =
    let p = err_from_is_err_and c.from_residual-in_err-arguments.result c.from_residual-in_err-arguments.ensures.1 in rw (p.1, p.2) (stop _ (P.more_arguments ∷ []) [] (c.in_err-arguments.ensures.follows c.args.levels refl) (text_read (P.more_arguments ∷ []) c.in_ok-text.ensures.read (omega (arith, c.in_ok-open.ensures.read.fits.0)) (bracketed (P.text ∷ P.more_arguments ∷ []) c.in_ok-open.ensures.read (omega (arith, c.in_ok-open.ensures.read.fits.0)) (operands_opened M.Printf [] (marked (P.mark M.Printf) (P.operands_of M.Printf ∷ []) c.in_ok-place.ensures.read refl (omega arith) begin)))) (omega arith))

pub read_printf-returns-clause-follows : goal.read_printf-returns-clause-follows
read_printf-returns-clause-follows t c =
    behind [] (c.in_ok-arguments.ensures.follows c.args.levels refl) (text_read (P.more_arguments ∷ []) c.in_ok-text.ensures.read (omega (arith, c.in_ok-open.ensures.read.fits.0)) (bracketed (P.text ∷ P.more_arguments ∷ []) c.in_ok-open.ensures.read (omega (arith, c.in_ok-open.ensures.read.fits.0)) (operands_opened M.Printf [] (marked (P.mark M.Printf) (P.operands_of M.Printf ∷ []) c.in_ok-place.ensures.read refl (omega arith) begin)))) (omega arith)
