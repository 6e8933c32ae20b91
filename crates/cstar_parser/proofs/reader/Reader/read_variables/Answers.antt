use Rattle.std.proofs.Common.{arith, [], ◌∷◌, refl}
use Rattle.std.proofs.lemmas.Result.{err_from_is_err_and}
use Rattle.cstar_tree.specs.declared.token.Mark.TheVariants as M
use Rattle.cstar_tree.specs.Positions.{token_kind}
use Rattle.grammar_parts.specs.Parts as P
use Rattle.cstar_parser.proofs.FollowingExpressions.{mark_real}
use Rattle.cstar_parser.proofs.Outside.{begin_outside, behind_outside, last_name, marked_outside, name_outside, opened_outside, refused_outside, stop_outside, turned_outside}
use Rattle.cstar_tree.specs.Bounds.{declarator_expressions}
use Rattle.cstar_tree.specs.Declarations as X
use Rattle.cstar_parser.proofs.StatementFitting.{fit_first, fit_more}
use Rattle.cstar_parser.proofs.reader.Reader.read_variables.Goals as goal

pub variables-init : goal.variables-init
variables-init c =
    let first = c.in_ok-read_declarator.ensures.read in
    (first.forward, first.inside, (λ from named. rw (c.in_ok-push.ensures.items, c.new-variables.ensures.items) (X.first_name (first.spelled from named))), rw (c.in_ok-push.ensures.items, c.new-variables.ensures.items) (fit_first declarator_expressions c.in_ok-read_declarator.field-0 first.fits), behind_outside (P.more_names ∷ []) c.in_ok-read_declarator.ensures.follows begin_outside (omega arith))

pub variables-preserved : goal.variables-preserved
variables-preserved c =
    let comma = c.in_ok-expect.ensures.read in
    let name = c.in_ok-name.ensures.read in
    let next = c.in_ok-read_declarator-2.ensures.read in
    (omega arith, next.inside, (λ from named. rw c.in_ok-push-2.ensures.items (X.next_name (c.variables.invariant.2 from named) comma.spelled (next.spelled _ name.spelled))), rw c.in_ok-push-2.ensures.items (fit_more declarator_expressions _ _ c.variables.invariant.3 next.fits), behind_outside (P.more_names ∷ []) c.in_ok-read_declarator-2.ensures.follows (name_outside P.name (P.length_or_none ∷ P.initial_or_none ∷ P.more_names ∷ []) c.in_ok-name.ensures.read refl (omega arith) (marked_outside (P.mark M.Comma) (P.name ∷ P.length_or_none ∷ P.initial_or_none ∷ P.more_names ∷ []) c.in_ok-expect.ensures.read refl (omega arith) (turned_outside P.more_names (P.mark M.Comma) (P.name ∷ P.length_or_none ∷ P.initial_or_none ∷ P.more_names ∷ []) [] (c.is_mark.ensures.yes c.variables-test.true) refl tt c.variables.invariant.4))) (omega arith))

pub returns-clause-read : goal.returns-clause-read
returns-clause-read c =
    let end = c.in_ok-expect-2.ensures.read in
    record { spelled = λ from mid type_is named. X.declaration type_is (c.variables.invariant.2 mid named) end.spelled; fits = c.variables.invariant.3; forward = omega arith; inside = end.inside }

pub returns-in_err-read_declarator-clause-follows : goal.returns-in_err-read_declarator-clause-follows
returns-in_err-read_declarator-clause-follows c =
    let p = err_from_is_err_and c.from_residual.result c.from_residual.ensures.1 in rw (p.1, p.2) (stop_outside _ (P.length_or_none ∷ P.initial_or_none ∷ []) (P.more_names ∷ []) c.in_err-read_declarator.ensures.follows begin_outside (omega arith))

pub returns-in_err-expect-clause-follows : goal.returns-in_err-expect-clause-follows
returns-in_err-expect-clause-follows c =
    let p = err_from_is_err_and c.from_residual-in_err-expect.result c.from_residual-in_err-expect.ensures.1 in rw (p.1, p.2) (refused_outside _ (P.mark M.Comma) (P.name ∷ P.length_or_none ∷ P.initial_or_none ∷ P.more_names ∷ []) c.in_err-expect.ensures.stops (turned_outside P.more_names (P.mark M.Comma) (P.name ∷ P.length_or_none ∷ P.initial_or_none ∷ P.more_names ∷ []) [] (c.is_mark.ensures.yes c.variables-test.true) refl tt c.variables.invariant.4))

pub returns-in_err-name-clause-follows : goal.returns-in_err-name-clause-follows
returns-in_err-name-clause-follows c =
    let p = err_from_is_err_and c.from_residual-in_err-name.result c.from_residual-in_err-name.ensures.1 in rw (p.1, p.2) (refused_outside _ P.name (P.length_or_none ∷ P.initial_or_none ∷ P.more_names ∷ []) c.in_err-name.ensures.stops (marked_outside (P.mark M.Comma) (P.name ∷ P.length_or_none ∷ P.initial_or_none ∷ P.more_names ∷ []) c.in_ok-expect.ensures.read refl (omega arith) (turned_outside P.more_names (P.mark M.Comma) (P.name ∷ P.length_or_none ∷ P.initial_or_none ∷ P.more_names ∷ []) [] (c.is_mark.ensures.yes c.variables-test.true) refl tt c.variables.invariant.4)))

pub returns-in_err-read_declarator-2-clause-follows : goal.returns-in_err-read_declarator-2-clause-follows
returns-in_err-read_declarator-2-clause-follows c =
    let p = err_from_is_err_and c.from_residual-in_err-read_declarator-2.result c.from_residual-in_err-read_declarator-2.ensures.1 in rw (p.1, p.2) (stop_outside _ (P.length_or_none ∷ P.initial_or_none ∷ []) (P.more_names ∷ []) c.in_err-read_declarator-2.ensures.follows (name_outside P.name (P.length_or_none ∷ P.initial_or_none ∷ P.more_names ∷ []) c.in_ok-name.ensures.read refl (omega arith) (marked_outside (P.mark M.Comma) (P.name ∷ P.length_or_none ∷ P.initial_or_none ∷ P.more_names ∷ []) c.in_ok-expect.ensures.read refl (omega arith) (turned_outside P.more_names (P.mark M.Comma) (P.name ∷ P.length_or_none ∷ P.initial_or_none ∷ P.more_names ∷ []) [] (c.is_mark.ensures.yes c.variables-test.true) refl tt c.variables.invariant.4))) (omega arith))

pub returns-in_err-expect-2-clause-follows : goal.returns-in_err-expect-2-clause-follows
returns-in_err-expect-2-clause-follows c =
    let p = err_from_is_err_and c.from_residual-in_err-expect-2.result c.from_residual-in_err-expect-2.ensures.1 in rw (p.1, p.2) (refused_outside _ (P.mark M.Semicolon) [] c.in_err-expect-2.ensures.stops (opened_outside P.more_names (P.mark M.Semicolon) [] [] (last_name _ (c.is_mark.ensures.no c.variables-test.false)) (mark_real (token_kind c.args.self.now.tokens.now c.variables.spot.at) M.Semicolon) c.variables.invariant.4))

pub returns-clause-follows : goal.returns-clause-follows
returns-clause-follows c =
    marked_outside (P.mark M.Semicolon) [] c.in_ok-expect-2.ensures.read refl (omega arith) (opened_outside P.more_names (P.mark M.Semicolon) [] [] (last_name _ (c.is_mark.ensures.no c.variables-test.false)) (mark_real (token_kind c.args.self.now.tokens.now c.variables.spot.at) M.Semicolon) c.variables.invariant.4)
