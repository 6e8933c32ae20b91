use Rattle.std.proofs.Common.{arith, [], ◌∷◌, ap, refl}
use Rattle.std.proofs.lemmas.Result.{err_from_is_err_and}
use Rattle.cstar_tree.specs.declared.token.Mark.TheVariants as M
use Rattle.grammar_parts.specs.Parts as P
use Rattle.grammar_parts.specs.Actions.{act}
use Rattle.cstar_parser.proofs.Outside.{begin_outside, behind_outside, last_parameter, marked_outside, refused_outside, skipped_outside, some_parameters, stop_outside, turned_outside}
use Rattle.cstar_tree.specs.Items as X
use Rattle.cstar_parser.proofs.reader.Reader.read_parameters.Goals as goal

pub returns-then-is_mark-clause-read : goal.returns-then-is_mark-clause-read
returns-then-is_mark-clause-read c =
    let word = c.in_ok-expect.ensures.read in
    record { spelled = rw c.new-parameters.ensures.items (X.void word.spelled); fits = tt; forward = omega arith; inside = word.inside }

pub returns-then-is_mark-2-clause-read : goal.returns-then-is_mark-2-clause-read
returns-then-is_mark-2-clause-read c = record { spelled = rw c.new-parameters.ensures.items X.nothing; fits = tt; forward = omega arith; inside = c.requires.within }

pub parameters-init : goal.parameters-init
parameters-init c =
    let first = c.in_ok-read_parameter.ensures.read in
    (first.forward, first.inside, rw (c.in_ok-push.ensures.items, c.new-parameters.ensures.items) (X.first_parameter first.spelled), behind_outside (P.more_parameters ∷ P.mark M.RightParen ∷ []) c.in_ok-read_parameter.ensures.follows (some_parameters [] (c.is_mark.ensures.no c.if-is_mark.false) (c.is_mark-2.ensures.no c.if-is_mark-2.false) begin_outside) (omega arith))

pub parameters-preserved : goal.parameters-preserved
parameters-preserved c =
    let comma = c.in_ok-expect-2.ensures.read in
    let next = c.in_ok-read_parameter-2.ensures.read in
    (omega arith, next.inside, rw c.in_ok-push-2.ensures.items (X.next_parameter c.parameters.invariant.2 comma.spelled next.spelled), behind_outside (P.more_parameters ∷ P.mark M.RightParen ∷ []) c.in_ok-read_parameter-2.ensures.follows (marked_outside (P.mark M.Comma) (P.parameter ∷ P.more_parameters ∷ P.mark M.RightParen ∷ []) c.in_ok-expect-2.ensures.read refl (omega arith) (turned_outside P.more_parameters (P.mark M.Comma) (P.parameter ∷ P.more_parameters ∷ []) (P.mark M.RightParen ∷ []) (c.is_mark-in-parameters.ensures.yes c.parameters-test.true) refl tt c.parameters.invariant.3)) (omega arith))

pub returns-clause-read : goal.returns-clause-read
returns-clause-read c = record { spelled = X.named c.parameters.invariant.2; fits = tt; forward = omega arith; inside = c.parameters.invariant.1 }

pub returns-in_err-expect-clause-follows : goal.returns-in_err-expect-clause-follows
returns-in_err-expect-clause-follows c =
    let p = err_from_is_err_and c.from_residual.result c.from_residual.ensures.1 in rw (p.1, p.2) (refused_outside _ (P.mark M.Void) (P.mark M.RightParen ∷ []) c.in_err-expect.ensures.stops (turned_outside P.parameters (P.mark M.Void) [] (P.mark M.RightParen ∷ []) (c.is_mark.ensures.yes c.if-is_mark.true) refl tt begin_outside))

pub returns-then-is_mark-clause-follows : goal.returns-then-is_mark-clause-follows
returns-then-is_mark-clause-follows c =
    marked_outside (P.mark M.Void) (P.mark M.RightParen ∷ []) c.in_ok-expect.ensures.read refl (omega arith) (turned_outside P.parameters (P.mark M.Void) [] (P.mark M.RightParen ∷ []) (c.is_mark.ensures.yes c.if-is_mark.true) refl tt begin_outside)

pub returns-then-is_mark-2-clause-follows : goal.returns-then-is_mark-2-clause-follows
returns-then-is_mark-2-clause-follows c =
    skipped_outside P.parameters (P.mark M.RightParen ∷ []) (ap (act P.parameters) (c.is_mark-2.ensures.yes c.if-is_mark-2.true)) begin_outside

pub returns-in_err-read_parameter-clause-follows : goal.returns-in_err-read_parameter-clause-follows
returns-in_err-read_parameter-clause-follows c =
    let p = err_from_is_err_and c.from_residual-in_err-read_parameter.result c.from_residual-in_err-read_parameter.ensures.1 in rw (p.1, p.2) (stop_outside _ (P.parameter ∷ []) (P.more_parameters ∷ P.mark M.RightParen ∷ []) c.in_err-read_parameter.ensures.follows (some_parameters [] (c.is_mark.ensures.no c.if-is_mark.false) (c.is_mark-2.ensures.no c.if-is_mark-2.false) begin_outside) (omega arith))

pub returns-in_err-expect-2-clause-follows : goal.returns-in_err-expect-2-clause-follows
returns-in_err-expect-2-clause-follows c =
    let p = err_from_is_err_and c.from_residual-in_err-expect-2.result c.from_residual-in_err-expect-2.ensures.1 in rw (p.1, p.2) (refused_outside _ (P.mark M.Comma) (P.parameter ∷ P.more_parameters ∷ P.mark M.RightParen ∷ []) c.in_err-expect-2.ensures.stops (turned_outside P.more_parameters (P.mark M.Comma) (P.parameter ∷ P.more_parameters ∷ []) (P.mark M.RightParen ∷ []) (c.is_mark-in-parameters.ensures.yes c.parameters-test.true) refl tt c.parameters.invariant.3))

pub returns-in_err-read_parameter-2-clause-follows : goal.returns-in_err-read_parameter-2-clause-follows
returns-in_err-read_parameter-2-clause-follows c =
    let p = err_from_is_err_and c.from_residual-in_err-read_parameter-2.result c.from_residual-in_err-read_parameter-2.ensures.1 in rw (p.1, p.2) (stop_outside _ (P.parameter ∷ []) (P.more_parameters ∷ P.mark M.RightParen ∷ []) c.in_err-read_parameter-2.ensures.follows (marked_outside (P.mark M.Comma) (P.parameter ∷ P.more_parameters ∷ P.mark M.RightParen ∷ []) c.in_ok-expect-2.ensures.read refl (omega arith) (turned_outside P.more_parameters (P.mark M.Comma) (P.parameter ∷ P.more_parameters ∷ []) (P.mark M.RightParen ∷ []) (c.is_mark-in-parameters.ensures.yes c.parameters-test.true) refl tt c.parameters.invariant.3)) (omega arith))

pub returns-clause-follows : goal.returns-clause-follows
returns-clause-follows c =
    skipped_outside P.more_parameters (P.mark M.RightParen ∷ []) (last_parameter _ (c.is_mark-in-parameters.ensures.no c.parameters-test.false)) c.parameters.invariant.3
