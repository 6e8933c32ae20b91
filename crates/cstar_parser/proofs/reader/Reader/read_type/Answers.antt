use Rattle.std.proofs.Common.{[], ◌∷◌, ap, arith, refl}
use Rattle.std.proofs.lemmas.Result.{err_from_is_err_and}
use Rattle.cstar_tree.specs.declared.token.Mark.TheVariants as M
use Rattle.cstar_tree.specs.Types as T
use Rattle.grammar_parts.specs.Actions.{act}
use Rattle.grammar_parts.specs.Parts as P
use Rattle.cstar_parser.proofs.Following.{begin, hopeless, no_colon, nothing_behind, operated, refused, shaped, skipped, turned, unwritten}
use Rattle.cstar_parser.proofs.reader.Reader.read_type.Goals as goal

pub returns-then-not-is_mark-clause-read : goal.returns-then-not-is_mark-clause-read
returns-then-not-is_mark-clause-read c =
    let elem = c.in_ok-elem.ensures.read in
    record { spelled = T.scalar c.place_at-place.ensures elem.spelled; fits = omega arith; forward = elem.forward; inside = elem.inside }

pub returns-clause-read : goal.returns-clause-read
returns-clause-read c =
    let elem = c.in_ok-elem.ensures.read in
    let colon = c.in_ok-expect_operator.ensures.read in
    let shape = c.in_ok-read_shape.ensures.read in
    record { spelled = T.parallel c.place_at-place.ensures elem.spelled colon.spelled shape.spelled; fits = omega arith; forward = omega arith; inside = shape.inside }

pub returns-then-spot-self-clause-follows : goal.returns-then-spot-self-clause-follows
returns-then-spot-self-clause-follows c = rw c.hopeless.ensures (λ around few. hopeless P.type [] (ap (act P.type) (nothing_behind _ _ c.if-spot-self.true)) begin)

pub returns-in_err-elem-clause-follows : goal.returns-in_err-elem-clause-follows
returns-in_err-elem-clause-follows c = let p = err_from_is_err_and c.from_residual.result c.from_residual.ensures.1 in rw (p.1, p.2) c.in_err-elem.ensures.follows

pub returns-then-not-is_mark-clause-follows : goal.returns-then-not-is_mark-clause-follows
returns-then-not-is_mark-clause-follows c = λ around few. skipped P.shape_or_none [] (no_colon _ (c.is_mark.ensures.no c.if-not-is_mark.true)) (c.in_ok-elem.ensures.follows around few)

pub returns-in_err-expect_operator-clause-follows : goal.returns-in_err-expect_operator-clause-follows
returns-in_err-expect_operator-clause-follows c =
    let p = err_from_is_err_and c.from_residual-in_err-expect_operator.result c.from_residual-in_err-expect_operator.ensures.1 in rw (p.1, p.2) (λ around few. unwritten _ M.Colon (P.shape ∷ []) c.in_err-expect_operator.ensures.stops (turned P.shape_or_none (P.operator M.Colon) (P.shape ∷ []) [] (c.is_mark.ensures.yes c.if-not-is_mark.false) refl tt (c.in_ok-elem.ensures.follows around few)))

pub returns-in_err-read_shape-clause-follows : goal.returns-in_err-read_shape-clause-follows
returns-in_err-read_shape-clause-follows c =
    let p = err_from_is_err_and c.from_residual-in_err-read_shape.result c.from_residual-in_err-read_shape.ensures.1 in rw (p.1, p.2) (λ around few. refused _ P.shape [] c.in_err-read_shape.ensures.stops (operated (P.operator M.Colon) (P.shape ∷ []) c.in_ok-expect_operator.ensures.read refl (omega arith) (turned P.shape_or_none (P.operator M.Colon) (P.shape ∷ []) [] (c.is_mark.ensures.yes c.if-not-is_mark.false) refl tt (c.in_ok-elem.ensures.follows around few))))

pub returns-clause-follows : goal.returns-clause-follows
returns-clause-follows c = λ around few. shaped [] c.in_ok-read_shape.ensures.read (omega arith) (operated (P.operator M.Colon) (P.shape ∷ []) c.in_ok-expect_operator.ensures.read refl (omega arith) (turned P.shape_or_none (P.operator M.Colon) (P.shape ∷ []) [] (c.is_mark.ensures.yes c.if-not-is_mark.false) refl tt (c.in_ok-elem.ensures.follows around few)))
