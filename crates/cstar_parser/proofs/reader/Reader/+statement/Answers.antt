use Rattle.std.proofs.Common.{arith, [], ◌∷◌, ◌∙◌, ap, refl, sym, rules}
use Rattle.std.proofs.lemmas.Result.{err_from_is_err_and}
use Rattle.cstar_tree.specs.declared.token.Kind.TheVariants as K
use Rattle.cstar_tree.specs.declared.token.Mark.TheVariants as M
use Rattle.cstar_tree.specs.Positions.{token_kind}
use Rattle.grammar_parts.specs.Parts as P
use Rattle.cstar_parser.specs.Outside.{is_branch, is_jump}
use Rattle.cstar_parser.proofs.FollowingExpressions.{mark_real}
use Rattle.cstar_parser.proofs.Outside.{begin_outside, behind_outside, bracket_of, deep_statement, finished, marked_outside, no_declaration, no_statement, not_else, opened_outside, refused_outside, simple_statement, simple_other, skipped_outside, some_statement, statement_real, stop_outside, turned_outside, unmissed}
use Rattle.cstar_tree.specs.Bounds.{declaration_expressions}
use Rattle.cstar_tree.specs.Declarations as D
use Rattle.cstar_tree.specs.Statements as X
use Rattle.cstar_parser.proofs.StatementNodes as node
use Rattle.cstar_parser.proofs.StatementNodes.{alone, for_is, with_else}
use Rattle.cstar_parser.proofs.StatementFitting as fitting
use Rattle.cstar_parser.proofs.reader.Reader.+statement.Goals.{read_statement-in_default-via-in-Some+in_default, read_statement-in_default-via-in_default}
use Rattle.cstar_parser.proofs.reader.Reader.+statement.Goals as goal

pub read_block-declarations-init : goal.read_block-declarations-init
read_block-declarations-init t c =
    let begin = c.in_ok-place.ensures.read in
    (begin.forward, begin.inside, rw c.new-declarations.ensures.items D.no_declaration, rw c.new-declarations.ensures.items (fitting.fit_each_none declaration_expressions c.requires.depth), marked_outside (P.mark M.LeftBrace) (P.declarations ∷ P.statements ∷ []) c.in_ok-place.ensures.read refl (omega arith) (opened_outside P.block (P.mark M.LeftBrace) (P.declarations ∷ P.statements ∷ []) [] (bracket_of (token_kind c.args.self.now.tokens.now c.args.spot.now.at) M.LeftBrace (P.declarations ∷ P.statements ∷ [])) (mark_real (token_kind c.args.self.now.tokens.now c.args.spot.now.at) M.LeftBrace) begin_outside))

pub read_block-declarations-preserved : goal.read_block-declarations-preserved
read_block-declarations-preserved t c =
    let next = c.in_ok-read_declaration.ensures.read in
    (omega arith, next.inside, rw c.in_ok-push.ensures.items (D.one_more c.declarations.invariant.2 next.spelled), rw c.in_ok-push.ensures.items (fitting.fit_more declaration_expressions _ _ c.declarations.invariant.3 next.fits), behind_outside (P.statements ∷ []) (c.in_ok-read_declaration.ensures.follows (sym c.begins_type.ensures.word ∙ c.declarations-test.true)) c.declarations.invariant.4 (omega arith))

pub read_block-statements-init : goal.read_block-statements-init
read_block-statements-init t c = (omega arith, omega arith, rw c.new-statements.ensures.items X.no_stmt, rw c.new-statements.ensures.items (fitting.no_statements c.requires.depth), skipped_outside P.declarations (P.statements ∷ []) (no_declaration _ (sym c.begins_type.ensures.word ∙ c.declarations-test.false)) c.declarations.invariant.4)

pub read_block-statements-preserved : goal.read_block-statements-preserved
read_block-statements-preserved t c =
    let next = c.in_ok-statement.ensures.read in
    (omega arith, next.inside, rw (c.in_ok-push-2.ensures.items, c.into_inner.ensures) (X.one_more c.statements.invariant.2 next.spelled), rw (c.in_ok-push-2.ensures.items, c.into_inner.ensures) (fitting.statements_more _ c.statements.invariant.3 next.fits), behind_outside (P.statements ∷ []) c.in_ok-statement.ensures.follows (opened_outside P.statements P.statement (P.statements ∷ []) [] (some_statement _ (c.is_mark.ensures.no c.statements-test.true)) (statement_real (token_kind c.args.self.now.tokens.now c.statements.spot.at)) c.statements.invariant.4) (omega arith))

pub read_block-returns-clause-read : goal.read_block-returns-clause-read
read_block-returns-clause-read t c =
    let begin = c.in_ok-place.ensures.read in
    let end = c.in_ok-expect.ensures.read in
    record { spelled = X.block _ begin.spelled c.declarations.invariant.2 c.statements.invariant.2 end.spelled; fits = fitting.body_fits _ c.declarations.invariant.3 c.statements.invariant.3; forward = omega arith; inside = end.inside }

pub read_statement-returns-in_ok-new-in-Some-LeftBrace-clause-read : goal.read_statement-returns-in_ok-new-in-Some-LeftBrace-clause-read
read_statement-returns-in_ok-new-in-Some-LeftBrace-clause-read t c = node.block_is c.in_ok-new-in-Some-LeftBrace.ensures.ok c.in_ok-block-in-Some-LeftBrace.ensures.read

pub read_branches-returns-then-not-is_mark-clause-read : goal.read_branches-returns-then-not-is_mark-clause-read
read_branches-returns-then-not-is_mark-clause-read t c =
    let head = c.in_ok-head.ensures.read in
    let then = c.in_ok-then.ensures.read in
    let is = c.in_ok-statement.ensures in
    record { spelled = alone _ is head.spelled then.spelled (c.is_mark.ensures.no c.if-not-is_mark.true); fits = fitting.alone c.in_ok-head.head _ is head.fits then.fits; forward = omega arith; inside = then.inside }

pub read_branches-returns-clause-read : goal.read_branches-returns-clause-read
read_branches-returns-clause-read t c =
    let head = c.in_ok-head.ensures.read in
    let then = c.in_ok-then.ensures.read in
    let word = c.in_ok-expect.ensures.read in
    let otherwise = c.in_ok-otherwise.ensures.read in
    let is = c.in_ok-statement-2.ensures in
    record { spelled = with_else _ _ is head.spelled then.spelled word.spelled otherwise.spelled; fits = fitting.with_else c.in_ok-head.head _ _ is head.fits then.fits otherwise.fits; forward = omega arith; inside = otherwise.inside }

pub read_while-returns-clause-read : goal.read_while-returns-clause-read
read_while-returns-clause-read t c = node.while_is c.in_ok-while_statement.ensures c.in_ok-place.ensures.read c.in_ok-test.ensures.read c.in_ok-body.ensures.read

pub read_do-returns-clause-read : goal.read_do-returns-clause-read
read_do-returns-clause-read t c = node.do_is c.in_ok-do_statement.ensures c.in_ok-place.ensures.read c.in_ok-body.ensures.read c.in_ok-expect.ensures.read c.in_ok-test.ensures.read c.in_ok-expect-2.ensures.read

pub read_for-returns-clause-read : goal.read_for-returns-clause-read
read_for-returns-clause-read t c =
    let head = c.in_ok-head.ensures.read in
    let body = c.in_ok-body.ensures.read in
    let is = c.in_ok-statement.ensures in
    record { spelled = for_is is head.spelled body.spelled; fits = fitting.loop_fits c.in_ok-head.head is head.fits body.fits; forward = omega arith; inside = body.inside }

pub read_with-returns-clause-read : goal.read_with-returns-clause-read
read_with-returns-clause-read t c = node.with_is c.in_ok-new.ensures.ok c.in_ok-place.ensures.read c.in_ok-shape.ensures.read c.in_ok-body.ensures.read

pub read_everywhere-returns-clause-read : goal.read_everywhere-returns-clause-read
read_everywhere-returns-clause-read t c = node.everywhere_is c.in_ok-new.ensures.ok c.in_ok-place.ensures.read c.in_ok-body.ensures.read

pub read_block-returns-in_err-place-clause-follows : goal.read_block-returns-in_err-place-clause-follows
read_block-returns-in_err-place-clause-follows t c =
    let p = err_from_is_err_and c.from_residual.result c.from_residual.ensures.1 in rw (p.1, p.2) (refused_outside _ (P.mark M.LeftBrace) (P.declarations ∷ P.statements ∷ []) c.in_err-place.ensures.stops (opened_outside P.block (P.mark M.LeftBrace) (P.declarations ∷ P.statements ∷ []) [] (bracket_of (token_kind c.args.self.now.tokens.now c.args.spot.now.at) M.LeftBrace (P.declarations ∷ P.statements ∷ [])) (mark_real (token_kind c.args.self.now.tokens.now c.args.spot.now.at) M.LeftBrace) begin_outside))

pub read_block-returns-in_err-read_declaration-clause-follows : goal.read_block-returns-in_err-read_declaration-clause-follows
read_block-returns-in_err-read_declaration-clause-follows t c =
    let p = err_from_is_err_and c.from_residual-in_err-read_declaration.result c.from_residual-in_err-read_declaration.ensures.1 in rw (p.1, p.2) (stop_outside _ (P.declarations ∷ []) (P.statements ∷ []) (c.in_err-read_declaration.ensures.follows (sym c.begins_type.ensures.word ∙ c.declarations-test.true)) c.declarations.invariant.4 (omega arith))

pub read_block-returns-in_err-statement-clause-follows : goal.read_block-returns-in_err-statement-clause-follows
read_block-returns-in_err-statement-clause-follows t c =
    let p = err_from_is_err_and c.from_residual-in_err-statement.result c.from_residual-in_err-statement.ensures.1 in rw (p.1, p.2) (stop_outside _ (P.statement ∷ []) (P.statements ∷ []) c.in_err-statement.ensures.follows (opened_outside P.statements P.statement (P.statements ∷ []) [] (some_statement _ (c.is_mark.ensures.no c.statements-test.true)) (statement_real (token_kind c.args.self.now.tokens.now c.statements.spot.at)) c.statements.invariant.4) (omega arith))

pub read_block-returns-in_err-expect-clause-follows : goal.read_block-returns-in_err-expect-clause-follows
read_block-returns-in_err-expect-clause-follows t c =
    let p = err_from_is_err_and c.from_residual-in_err-expect.result c.from_residual-in_err-expect.ensures.1 in rw (p.1, p.2) (refused_outside _ (P.mark M.RightBrace) [] c.in_err-expect.ensures.stops (turned_outside P.statements (P.mark M.RightBrace) [] [] (c.is_mark.ensures.yes c.statements-test.false) refl tt c.statements.invariant.4))

pub read_block-returns-clause-follows : goal.read_block-returns-clause-follows
read_block-returns-clause-follows t c =
    marked_outside (P.mark M.RightBrace) [] c.in_ok-expect.ensures.read refl (omega arith) (turned_outside P.statements (P.mark M.RightBrace) [] [] (c.is_mark.ensures.yes c.statements-test.false) refl tt c.statements.invariant.4)

pub read_statement-returns-then-not-begins_statement-clause-follows : goal.read_statement-returns-then-not-begins_statement-clause-follows
read_statement-returns-then-not-begins_statement-clause-follows t c =
    rw c.hopeless.ensures (no_statement [] (c.begins_statement.ensures.no c.if-not-begins_statement.true) begin_outside)

pub read_statement-returns-then-levels-ge-LEVELS-clause-follows : goal.read_statement-returns-then-levels-ge-LEVELS-clause-follows
read_statement-returns-then-levels-ge-LEVELS-clause-follows t c =
    rw c.too_deep.ensures (deep_statement [] (c.begins_statement.ensures.yes c.if-not-begins_statement.false) (omega arith) begin_outside)

pub read_statement-returns-in_err-block-in-Some-LeftBrace-clause-follows : goal.read_statement-returns-in_err-block-in-Some-LeftBrace-clause-follows
read_statement-returns-in_err-block-in-Some-LeftBrace-clause-follows t c =
    let p = err_from_is_err_and c.from_residual.result c.from_residual.ensures.1 in rw (p.1, p.2) (stop_outside _ (P.block ∷ []) (P.ended ∷ []) c.in_err-block-in-Some-LeftBrace.ensures.follows (turned_outside {kind = K.Mark M.LeftBrace} P.statement P.block (P.ended ∷ []) [] (cc c.in-Some-LeftBrace.ensures.found) refl tt begin_outside) (omega arith))

pub read_statement-returns-in_ok-new-in-Some-LeftBrace-clause-follows : goal.read_statement-returns-in_ok-new-in-Some-LeftBrace-clause-follows
read_statement-returns-in_ok-new-in-Some-LeftBrace-clause-follows t c =
    skipped_outside P.ended [] refl (behind_outside (P.ended ∷ []) c.in_ok-block-in-Some-LeftBrace.ensures.follows (turned_outside {kind = K.Mark M.LeftBrace} P.statement P.block (P.ended ∷ []) [] (cc c.in-Some-LeftBrace.ensures.found) refl tt begin_outside) (omega arith))

pub read_statement-returns-in-Some-While-clause-follows : goal.read_statement-returns-in-Some-While-clause-follows
read_statement-returns-in-Some-While-clause-follows t c =
    finished c.args.self.now.tokens.now c.args.levels c.args.spot.now c.read_while.new.spot c.read_while.result (c.read_while.ensures.follows c.args.levels refl (cc c.in-Some-While.ensures.found))

pub read_statement-returns-in-Some-Do-clause-follows : goal.read_statement-returns-in-Some-Do-clause-follows
read_statement-returns-in-Some-Do-clause-follows t c =
    finished c.args.self.now.tokens.now c.args.levels c.args.spot.now c.read_do.new.spot c.read_do.result (c.read_do.ensures.follows c.args.levels refl (cc c.in-Some-Do.ensures.found))

pub read_statement-returns-in-Some-For-clause-follows : goal.read_statement-returns-in-Some-For-clause-follows
read_statement-returns-in-Some-For-clause-follows t c =
    finished c.args.self.now.tokens.now c.args.levels c.args.spot.now c.read_for.new.spot c.read_for.result (c.read_for.ensures.follows c.args.levels refl (cc c.in-Some-For.ensures.found))

pub read_statement-returns-in-Some-With-clause-follows : goal.read_statement-returns-in-Some-With-clause-follows
read_statement-returns-in-Some-With-clause-follows t c =
    finished c.args.self.now.tokens.now c.args.levels c.args.spot.now c.read_with.new.spot c.read_with.result (c.read_with.ensures.follows c.args.levels refl (cc c.in-Some-With.ensures.found))

pub read_statement-returns-in-Some-Everywhere-clause-follows : goal.read_statement-returns-in-Some-Everywhere-clause-follows
read_statement-returns-in-Some-Everywhere-clause-follows t c =
    finished c.args.self.now.tokens.now c.args.levels c.args.spot.now c.read_everywhere.new.spot c.read_everywhere.result (c.read_everywhere.ensures.follows c.args.levels refl (cc c.in-Some-Everywhere.ensures.found))

pub read_statement-returns-in-Some-If-clause-follows : goal.read_statement-returns-in-Some-If-clause-follows
read_statement-returns-in-Some-If-clause-follows t c =
    finished c.args.self.now.tokens.now c.args.levels c.args.spot.now c.read_branches.new.spot c.read_branches.result (c.read_branches.ensures.follows c.args.levels refl (ap is_branch c.in-Some-If.ensures.found ∙ search rules))

pub read_statement-returns-in-Some-Break-clause-follows : goal.read_statement-returns-in-Some-Break-clause-follows
read_statement-returns-in-Some-Break-clause-follows t c =
    finished c.args.self.now.tokens.now c.args.levels c.args.spot.now c.read_jump.new.spot c.read_jump.result (c.read_jump.ensures.follows c.args.levels refl (ap is_jump c.in-Some-Break.ensures.found ∙ grind arith))

pub read_statement-returns-in_default-clause-follows : goal.read_statement-returns-in_default-clause-follows
read_statement-returns-in_default-clause-follows t c =
    finished c.args.self.now.tokens.now c.args.levels c.args.spot.now c.read_simple.new.spot c.read_simple.result (c.read_simple.ensures.follows c.args.levels refl (elim c.in_default.branch [
      | read_statement-in_default-via-in-Some+in_default w ↦ simple_statement _ w.in_default.field-0 (rw w.in_default.is at c.mark_at.ensures.found) (search rules) (search rules) (search rules) (search rules) (search rules) (search rules) (search rules) (search rules) (search rules) (search rules) (search rules)
      | read_statement-in_default-via-in_default w ↦ simple_other _ (rw w.in_default.is at c.mark_at.ensures.missing)
    ]))

pub read_branches-returns-in_err-head-clause-follows : goal.read_branches-returns-in_err-head-clause-follows
read_branches-returns-in_err-head-clause-follows t c =
    let p = err_from_is_err_and c.from_residual.result c.from_residual.ensures.1 in rw (p.1, p.2) (λ around e is. c.in_err-head.ensures.follows around e is)

pub read_branches-returns-in_err-then-clause-follows : goal.read_branches-returns-in_err-then-clause-follows
read_branches-returns-in_err-then-clause-follows t c =
    let p = err_from_is_err_and c.from_residual-in_err-then.result c.from_residual-in_err-then.ensures.1 in rw (p.1, p.2) (λ around e is. stop_outside _ (P.statement ∷ []) (P.else_or_none ∷ P.ended ∷ []) c.in_err-then.ensures.follows (c.in_ok-head.ensures.follows around e is) (omega arith))

pub read_branches-returns-then-not-is_mark-clause-follows : goal.read_branches-returns-then-not-is_mark-clause-follows
read_branches-returns-then-not-is_mark-clause-follows t c =
    λ around e is. skipped_outside P.else_or_none (P.ended ∷ []) (not_else _ (c.is_mark.ensures.no c.if-not-is_mark.true)) (behind_outside (P.else_or_none ∷ P.ended ∷ []) c.in_ok-then.ensures.follows (c.in_ok-head.ensures.follows around e is) (omega arith))

pub read_branches-returns-in_err-expect-clause-follows : goal.read_branches-returns-in_err-expect-clause-follows
read_branches-returns-in_err-expect-clause-follows t c =
    let p = err_from_is_err_and c.from_residual-in_err-expect.result c.from_residual-in_err-expect.ensures.1 in rw (p.1, p.2) (λ around e is. refused_outside _ (P.mark M.Else) (P.statement ∷ P.ended ∷ []) c.in_err-expect.ensures.stops (turned_outside P.else_or_none (P.mark M.Else) (P.statement ∷ []) (P.ended ∷ []) (c.is_mark.ensures.yes c.if-not-is_mark.false) refl tt (behind_outside (P.else_or_none ∷ P.ended ∷ []) c.in_ok-then.ensures.follows (c.in_ok-head.ensures.follows around e is) (omega arith))))

pub read_branches-returns-in_err-otherwise-clause-follows : goal.read_branches-returns-in_err-otherwise-clause-follows
read_branches-returns-in_err-otherwise-clause-follows t c =
    let p = err_from_is_err_and c.from_residual-in_err-otherwise.result c.from_residual-in_err-otherwise.ensures.1 in rw (p.1, p.2) (λ around e is. stop_outside _ (P.statement ∷ []) (P.ended ∷ []) c.in_err-otherwise.ensures.follows (marked_outside (P.mark M.Else) (P.statement ∷ P.ended ∷ []) c.in_ok-expect.ensures.read refl (omega arith) (turned_outside P.else_or_none (P.mark M.Else) (P.statement ∷ []) (P.ended ∷ []) (c.is_mark.ensures.yes c.if-not-is_mark.false) refl tt (behind_outside (P.else_or_none ∷ P.ended ∷ []) c.in_ok-then.ensures.follows (c.in_ok-head.ensures.follows around e is) (omega arith)))) (omega arith))

pub read_branches-returns-clause-follows : goal.read_branches-returns-clause-follows
read_branches-returns-clause-follows t c =
    λ around e is. behind_outside (P.ended ∷ []) c.in_ok-otherwise.ensures.follows (marked_outside (P.mark M.Else) (P.statement ∷ P.ended ∷ []) c.in_ok-expect.ensures.read refl (omega arith) (turned_outside P.else_or_none (P.mark M.Else) (P.statement ∷ []) (P.ended ∷ []) (c.is_mark.ensures.yes c.if-not-is_mark.false) refl tt (behind_outside (P.else_or_none ∷ P.ended ∷ []) c.in_ok-then.ensures.follows (c.in_ok-head.ensures.follows around e is) (omega arith)))) (omega arith)

pub read_while-returns-in_err-place-clause-follows : goal.read_while-returns-in_err-place-clause-follows
read_while-returns-in_err-place-clause-follows t c =
    let p = err_from_is_err_and c.from_residual.result c.from_residual.ensures.1 in rw (p.1, p.2) (λ around e found. unmissed _ M.While found c.in_err-place.ensures.stops begin_outside)

pub read_while-returns-in_err-test-clause-follows : goal.read_while-returns-in_err-test-clause-follows
read_while-returns-in_err-test-clause-follows t c =
    let p = err_from_is_err_and c.from_residual-in_err-test.result c.from_residual-in_err-test.ensures.1 in rw (p.1, p.2) (λ around e found. stop_outside _ (P.condition ∷ []) (P.statement ∷ P.ended ∷ []) c.in_err-test.ensures.follows (marked_outside P.statement [] c.in_ok-place.ensures.read refl (omega arith) begin_outside) (omega arith))

pub read_while-returns-in_err-body-clause-follows : goal.read_while-returns-in_err-body-clause-follows
read_while-returns-in_err-body-clause-follows t c =
    let p = err_from_is_err_and c.from_residual-in_err-body.result c.from_residual-in_err-body.ensures.1 in rw (p.1, p.2) (λ around e found. stop_outside _ (P.statement ∷ []) (P.ended ∷ []) c.in_err-body.ensures.follows (behind_outside (P.statement ∷ P.ended ∷ []) c.in_ok-test.ensures.follows (marked_outside P.statement [] c.in_ok-place.ensures.read refl (omega arith) begin_outside) (omega arith)) (omega arith))

pub read_while-returns-clause-follows : goal.read_while-returns-clause-follows
read_while-returns-clause-follows t c =
    λ around e found. behind_outside (P.ended ∷ []) c.in_ok-body.ensures.follows (behind_outside (P.statement ∷ P.ended ∷ []) c.in_ok-test.ensures.follows (marked_outside P.statement [] c.in_ok-place.ensures.read refl (omega arith) begin_outside) (omega arith)) (omega arith)

pub read_do-returns-in_err-place-clause-follows : goal.read_do-returns-in_err-place-clause-follows
read_do-returns-in_err-place-clause-follows t c =
    let p = err_from_is_err_and c.from_residual.result c.from_residual.ensures.1 in rw (p.1, p.2) (λ around e found. unmissed _ M.Do found c.in_err-place.ensures.stops begin_outside)

pub read_do-returns-in_err-body-clause-follows : goal.read_do-returns-in_err-body-clause-follows
read_do-returns-in_err-body-clause-follows t c =
    let p = err_from_is_err_and c.from_residual-in_err-body.result c.from_residual-in_err-body.ensures.1 in rw (p.1, p.2) (λ around e found. stop_outside _ (P.statement ∷ []) (P.mark M.While ∷ P.condition ∷ P.mark M.Semicolon ∷ P.ended ∷ []) c.in_err-body.ensures.follows (marked_outside P.statement [] c.in_ok-place.ensures.read refl (omega arith) begin_outside) (omega arith))

pub read_do-returns-in_err-expect-clause-follows : goal.read_do-returns-in_err-expect-clause-follows
read_do-returns-in_err-expect-clause-follows t c =
    let p = err_from_is_err_and c.from_residual-in_err-expect.result c.from_residual-in_err-expect.ensures.1 in rw (p.1, p.2) (λ around e found. refused_outside _ (P.mark M.While) (P.condition ∷ P.mark M.Semicolon ∷ P.ended ∷ []) c.in_err-expect.ensures.stops (behind_outside (P.mark M.While ∷ P.condition ∷ P.mark M.Semicolon ∷ P.ended ∷ []) c.in_ok-body.ensures.follows (marked_outside P.statement [] c.in_ok-place.ensures.read refl (omega arith) begin_outside) (omega arith)))

pub read_do-returns-in_err-test-clause-follows : goal.read_do-returns-in_err-test-clause-follows
read_do-returns-in_err-test-clause-follows t c =
    let p = err_from_is_err_and c.from_residual-in_err-test.result c.from_residual-in_err-test.ensures.1 in rw (p.1, p.2) (λ around e found. stop_outside _ (P.condition ∷ []) (P.mark M.Semicolon ∷ P.ended ∷ []) c.in_err-test.ensures.follows (marked_outside (P.mark M.While) (P.condition ∷ P.mark M.Semicolon ∷ P.ended ∷ []) c.in_ok-expect.ensures.read refl (omega arith) (behind_outside (P.mark M.While ∷ P.condition ∷ P.mark M.Semicolon ∷ P.ended ∷ []) c.in_ok-body.ensures.follows (marked_outside P.statement [] c.in_ok-place.ensures.read refl (omega arith) begin_outside) (omega arith))) (omega arith))

pub read_do-returns-in_err-expect-2-clause-follows : goal.read_do-returns-in_err-expect-2-clause-follows
read_do-returns-in_err-expect-2-clause-follows t c =
    let p = err_from_is_err_and c.from_residual-in_err-expect-2.result c.from_residual-in_err-expect-2.ensures.1 in rw (p.1, p.2) (λ around e found. refused_outside _ (P.mark M.Semicolon) (P.ended ∷ []) c.in_err-expect-2.ensures.stops (behind_outside (P.mark M.Semicolon ∷ P.ended ∷ []) c.in_ok-test.ensures.follows (marked_outside (P.mark M.While) (P.condition ∷ P.mark M.Semicolon ∷ P.ended ∷ []) c.in_ok-expect.ensures.read refl (omega arith) (behind_outside (P.mark M.While ∷ P.condition ∷ P.mark M.Semicolon ∷ P.ended ∷ []) c.in_ok-body.ensures.follows (marked_outside P.statement [] c.in_ok-place.ensures.read refl (omega arith) begin_outside) (omega arith))) (omega arith)))

pub read_do-returns-clause-follows : goal.read_do-returns-clause-follows
read_do-returns-clause-follows t c =
    λ around e found. marked_outside (P.mark M.Semicolon) (P.ended ∷ []) c.in_ok-expect-2.ensures.read refl (omega arith) (behind_outside (P.mark M.Semicolon ∷ P.ended ∷ []) c.in_ok-test.ensures.follows (marked_outside (P.mark M.While) (P.condition ∷ P.mark M.Semicolon ∷ P.ended ∷ []) c.in_ok-expect.ensures.read refl (omega arith) (behind_outside (P.mark M.While ∷ P.condition ∷ P.mark M.Semicolon ∷ P.ended ∷ []) c.in_ok-body.ensures.follows (marked_outside P.statement [] c.in_ok-place.ensures.read refl (omega arith) begin_outside) (omega arith))) (omega arith))

pub read_for-returns-in_err-head-clause-follows : goal.read_for-returns-in_err-head-clause-follows
read_for-returns-in_err-head-clause-follows t c =
    let p = err_from_is_err_and c.from_residual.result c.from_residual.ensures.1 in rw (p.1, p.2) (λ around e found. c.in_err-head.ensures.follows around e found)

pub read_for-returns-in_err-body-clause-follows : goal.read_for-returns-in_err-body-clause-follows
read_for-returns-in_err-body-clause-follows t c =
    let p = err_from_is_err_and c.from_residual-in_err-body.result c.from_residual-in_err-body.ensures.1 in rw (p.1, p.2) (λ around e found. stop_outside _ (P.statement ∷ []) (P.ended ∷ []) c.in_err-body.ensures.follows (c.in_ok-head.ensures.follows around e found) (omega arith))

pub read_for-returns-clause-follows : goal.read_for-returns-clause-follows
read_for-returns-clause-follows t c =
    λ around e found. behind_outside (P.ended ∷ []) c.in_ok-body.ensures.follows (c.in_ok-head.ensures.follows around e found) (omega arith)

pub read_with-returns-in_err-place-clause-follows : goal.read_with-returns-in_err-place-clause-follows
read_with-returns-in_err-place-clause-follows t c =
    let p = err_from_is_err_and c.from_residual.result c.from_residual.ensures.1 in rw (p.1, p.2) (λ around e found. unmissed _ M.With found c.in_err-place.ensures.stops begin_outside)

pub read_with-returns-in_err-shape-clause-follows : goal.read_with-returns-in_err-shape-clause-follows
read_with-returns-in_err-shape-clause-follows t c =
    let p = err_from_is_err_and c.from_residual-in_err-shape.result c.from_residual-in_err-shape.ensures.1 in rw (p.1, p.2) (λ around e found. stop_outside _ (P.mark M.LeftParen ∷ P.shape ∷ P.mark M.RightParen ∷ []) (P.statement ∷ P.ended ∷ []) (c.in_err-shape.ensures.follows c.args.levels c.requires.depth) (marked_outside P.statement [] c.in_ok-place.ensures.read refl (omega arith) begin_outside) (omega arith))

pub read_with-returns-in_err-body-clause-follows : goal.read_with-returns-in_err-body-clause-follows
read_with-returns-in_err-body-clause-follows t c =
    let p = err_from_is_err_and c.from_residual-in_err-body.result c.from_residual-in_err-body.ensures.1 in rw (p.1, p.2) (λ around e found. stop_outside _ (P.statement ∷ []) (P.ended ∷ []) c.in_err-body.ensures.follows (behind_outside (P.statement ∷ P.ended ∷ []) (c.in_ok-shape.ensures.follows c.args.levels c.requires.depth) (marked_outside P.statement [] c.in_ok-place.ensures.read refl (omega arith) begin_outside) (omega arith)) (omega arith))

pub read_with-returns-clause-follows : goal.read_with-returns-clause-follows
read_with-returns-clause-follows t c =
    λ around e found. behind_outside (P.ended ∷ []) c.in_ok-body.ensures.follows (behind_outside (P.statement ∷ P.ended ∷ []) (c.in_ok-shape.ensures.follows c.args.levels c.requires.depth) (marked_outside P.statement [] c.in_ok-place.ensures.read refl (omega arith) begin_outside) (omega arith)) (omega arith)

pub read_everywhere-returns-in_err-place-clause-follows : goal.read_everywhere-returns-in_err-place-clause-follows
read_everywhere-returns-in_err-place-clause-follows t c =
    let p = err_from_is_err_and c.from_residual.result c.from_residual.ensures.1 in rw (p.1, p.2) (λ around e found. unmissed _ M.Everywhere found c.in_err-place.ensures.stops begin_outside)

pub read_everywhere-returns-in_err-body-clause-follows : goal.read_everywhere-returns-in_err-body-clause-follows
read_everywhere-returns-in_err-body-clause-follows t c =
    let p = err_from_is_err_and c.from_residual-in_err-body.result c.from_residual-in_err-body.ensures.1 in rw (p.1, p.2) (λ around e found. stop_outside _ (P.statement ∷ []) (P.ended ∷ []) c.in_err-body.ensures.follows (marked_outside P.statement [] c.in_ok-place.ensures.read refl (omega arith) begin_outside) (omega arith))

pub read_everywhere-returns-clause-follows : goal.read_everywhere-returns-clause-follows
read_everywhere-returns-clause-follows t c =
    λ around e found. behind_outside (P.ended ∷ []) c.in_ok-body.ensures.follows (marked_outside P.statement [] c.in_ok-place.ensures.read refl (omega arith) begin_outside) (omega arith)
