use Rattle.std.proofs.Common.{arith, [], ◌∷◌, refl}
use Rattle.std.proofs.lemmas.Result.{err_from_is_err_and}
use Rattle.cstar_tree.specs.Positions.{token_kind}
use Rattle.grammar_parts.specs.Parts as P
use Rattle.cstar_parser.proofs.Outside.{begin_outside, entered_outside, name_outside, refused_outside, stopped_outside, type_start}
use Rattle.cstar_tree.specs.Items as X
use Rattle.cstar_parser.proofs.reader.Reader.read_parameter.Goals as goal

pub returns-clause-read : goal.returns-clause-read
returns-clause-read c =
    let type_name = c.in_ok-type_name.ensures.read in
    let name = c.in_ok-name.ensures.read in
    record { spelled = X.parameter type_name.spelled name.spelled; fits = tt; forward = omega arith; inside = name.inside }

pub returns-in_err-type_name-clause-follows : goal.returns-in_err-type_name-clause-follows
returns-in_err-type_name-clause-follows c =
    let p = err_from_is_err_and c.from_residual.result c.from_residual.ensures.1 in rw (p.1, p.2) (stopped_outside _ P.parameter P.type (P.name ∷ []) [] refl (type_start (token_kind c.args.self.now.tokens.now c.args.spot.now.at)) (c.in_err-type_name.ensures.follows 0 (omega arith)) (omega arith) begin_outside)

pub returns-in_err-name-clause-follows : goal.returns-in_err-name-clause-follows
returns-in_err-name-clause-follows c =
    let p = err_from_is_err_and c.from_residual-in_err-name.result c.from_residual-in_err-name.ensures.1 in rw (p.1, p.2) (refused_outside _ P.name [] c.in_err-name.ensures.stops (entered_outside P.parameter P.type (P.name ∷ []) [] refl (type_start (token_kind c.args.self.now.tokens.now c.args.spot.now.at)) (c.in_ok-type_name.ensures.follows 0 (omega arith)) (omega arith) begin_outside))

pub returns-clause-follows : goal.returns-clause-follows
returns-clause-follows c =
    name_outside P.name [] c.in_ok-name.ensures.read refl (omega arith) (entered_outside P.parameter P.type (P.name ∷ []) [] refl (type_start (token_kind c.args.self.now.tokens.now c.args.spot.now.at)) (c.in_ok-type_name.ensures.follows 0 (omega arith)) (omega arith) begin_outside)
