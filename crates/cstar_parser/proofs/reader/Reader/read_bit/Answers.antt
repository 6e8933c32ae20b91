use Rattle.std.proofs.Common.{[], ◌∷◌, arith, refl}
use Rattle.std.proofs.lemmas.Result.{err_from_is_err_and}
use Rattle.cstar_tree.specs.declared.token.Mark.TheVariants as M
use Rattle.cstar_tree.specs.Options as O
use Rattle.cstar_tree.specs.Positions.{token_kind}
use Rattle.grammar_parts.specs.Parts as P
use Rattle.cstar_parser.proofs.Following.{begin, bit_named, marked, name_read, opened, operated, operator_real, refused, turned, unwritten}
use Rattle.cstar_parser.proofs.reader.Reader.read_bit.Goals as goal

pub returns-then-is_mark-clause-read : goal.returns-then-is_mark-clause-read
returns-then-is_mark-clause-read c =
    let comma = c.in_ok-expect.ensures.read in
    let word = c.in_ok-expect-2.ensures.read in
    record { spelled = O.no_bit comma.spelled word.spelled; fits = omega arith; forward = omega arith; inside = word.inside }

pub returns-clause-read : goal.returns-clause-read
returns-clause-read c =
    let comma = c.in_ok-expect.ensures.read in
    let sign = c.in_ok-expect_operator.ensures.read in
    let name = c.in_ok-read_name.ensures.read in
    record { spelled = O.bit comma.spelled sign.spelled name.spelled; fits = omega arith; forward = omega arith; inside = name.inside }

pub returns-in_err-expect-clause-follows : goal.returns-in_err-expect-clause-follows
returns-in_err-expect-clause-follows c =
    let p = err_from_is_err_and c.from_residual.result c.from_residual.ensures.1 in rw (p.1, p.2) (λ around few. refused _ (P.mark M.Comma) (P.bit ∷ []) c.in_err-expect.ensures.stops begin)

pub returns-in_err-expect-2-clause-follows : goal.returns-in_err-expect-2-clause-follows
returns-in_err-expect-2-clause-follows c =
    let p = err_from_is_err_and c.from_residual-in_err-expect-2.result c.from_residual-in_err-expect-2.ensures.1 in rw (p.1, p.2) (λ around few. refused _ (P.mark M.NoField) [] c.in_err-expect-2.ensures.stops (turned P.bit (P.mark M.NoField) [] [] (c.is_mark.ensures.yes c.if-is_mark.true) refl tt (marked (P.mark M.Comma) (P.bit ∷ []) c.in_ok-expect.ensures.read refl (omega arith) begin)))

pub returns-then-is_mark-clause-follows : goal.returns-then-is_mark-clause-follows
returns-then-is_mark-clause-follows c =
    λ around few. marked (P.mark M.NoField) [] c.in_ok-expect-2.ensures.read refl (omega arith) (turned P.bit (P.mark M.NoField) [] [] (c.is_mark.ensures.yes c.if-is_mark.true) refl tt (marked (P.mark M.Comma) (P.bit ∷ []) c.in_ok-expect.ensures.read refl (omega arith) begin))

pub returns-in_err-expect_operator-clause-follows : goal.returns-in_err-expect_operator-clause-follows
returns-in_err-expect_operator-clause-follows c =
    let p = err_from_is_err_and c.from_residual-in_err-expect_operator.result c.from_residual-in_err-expect_operator.ensures.1 in rw (p.1, p.2) (λ around few. unwritten _ M.Ampersand (P.name ∷ []) c.in_err-expect_operator.ensures.stops (opened P.bit (P.operator M.Ampersand) (P.name ∷ []) [] (bit_named _ (c.is_mark.ensures.no c.if-is_mark.false)) (operator_real (token_kind c.args.self.now.tokens.now c.expect.new.spot.at) M.Ampersand) (marked (P.mark M.Comma) (P.bit ∷ []) c.in_ok-expect.ensures.read refl (omega arith) begin)))

pub returns-in_err-read_name-clause-follows : goal.returns-in_err-read_name-clause-follows
returns-in_err-read_name-clause-follows c =
    let p = err_from_is_err_and c.from_residual-in_err-read_name.result c.from_residual-in_err-read_name.ensures.1 in rw (p.1, p.2) (λ around few. refused _ P.name [] c.in_err-read_name.ensures.stops (operated (P.operator M.Ampersand) (P.name ∷ []) c.in_ok-expect_operator.ensures.read refl (omega arith) (opened P.bit (P.operator M.Ampersand) (P.name ∷ []) [] (bit_named _ (c.is_mark.ensures.no c.if-is_mark.false)) (operator_real (token_kind c.args.self.now.tokens.now c.expect.new.spot.at) M.Ampersand) (marked (P.mark M.Comma) (P.bit ∷ []) c.in_ok-expect.ensures.read refl (omega arith) begin))))

pub returns-clause-follows : goal.returns-clause-follows
returns-clause-follows c =
    λ around few. name_read P.name [] c.in_ok-read_name.ensures.read refl (omega arith) (operated (P.operator M.Ampersand) (P.name ∷ []) c.in_ok-expect_operator.ensures.read refl (omega arith) (opened P.bit (P.operator M.Ampersand) (P.name ∷ []) [] (bit_named _ (c.is_mark.ensures.no c.if-is_mark.false)) (operator_real (token_kind c.args.self.now.tokens.now c.expect.new.spot.at) M.Ampersand) (marked (P.mark M.Comma) (P.bit ∷ []) c.in_ok-expect.ensures.read refl (omega arith) begin)))
