use Rattle.std.proofs.Common.{arith, [], ◌∷◌, refl}
use Rattle.std.proofs.lemmas.Result.{err_from_is_err_and}
use Rattle.cstar_tree.specs.declared.token.Mark.TheVariants as M
use Rattle.cstar_tree.specs.Positions.{token_kind}
use Rattle.grammar_parts.specs.Parts as P
use Rattle.cstar_parser.proofs.Outside.{begin_outside, behind_outside, entered_outside, name_outside, refused_outside, stop_outside, stopped_outside, turned_outside, type_start, typed_item, variables_behind}
use Rattle.cstar_tree.specs.Items as X
use Rattle.cstar_parser.proofs.StatementFitting.{function_fits, variables_fit}
use Rattle.cstar_parser.proofs.reader.Reader.read_typed.Goals as goal

pub returns-then-is_mark-clause-read : goal.returns-then-is_mark-clause-read
returns-then-is_mark-clause-read c =
    let type_name = c.in_ok-type_name.ensures.read in
    let name = c.in_ok-name.ensures.read in
    let function = c.in_ok-function.ensures.read in
    record { spelled = X.function_is (function.spelled _ _ c.place_at-place.ensures (X.written type_name.spelled) name.spelled); fits = function_fits _ function.fits; forward = omega arith; inside = function.inside }

pub returns-clause-read : goal.returns-clause-read
returns-clause-read c =
    let type_name = c.in_ok-type_name.ensures.read in
    let name = c.in_ok-name.ensures.read in
    let variables = c.in_ok-variables.ensures.read in
    record { spelled = X.variables (variables.spelled _ _ type_name.spelled name.spelled); fits = variables_fit _ variables.fits; forward = omega arith; inside = variables.inside }

pub returns-in_err-type_name-clause-follows : goal.returns-in_err-type_name-clause-follows
returns-in_err-type_name-clause-follows c =
    let p = err_from_is_err_and c.from_residual.result c.from_residual.ensures.1 in rw (p.1, p.2) (λ unshaped typed. stopped_outside _ P.items P.type (P.name ∷ P.behind_typed_name ∷ P.items ∷ []) [] (typed_item _ unshaped typed) (type_start (token_kind c.args.self.now.tokens.now c.args.spot.now.at)) (c.in_err-type_name.ensures.follows 0 (omega arith)) (omega arith) begin_outside)

pub returns-in_err-name-clause-follows : goal.returns-in_err-name-clause-follows
returns-in_err-name-clause-follows c =
    let p = err_from_is_err_and c.from_residual-in_err-name.result c.from_residual-in_err-name.ensures.1 in rw (p.1, p.2) (λ unshaped typed. refused_outside _ P.name (P.behind_typed_name ∷ P.items ∷ []) c.in_err-name.ensures.stops (entered_outside P.items P.type (P.name ∷ P.behind_typed_name ∷ P.items ∷ []) [] (typed_item _ unshaped typed) (type_start (token_kind c.args.self.now.tokens.now c.args.spot.now.at)) (c.in_ok-type_name.ensures.follows 0 (omega arith)) (omega arith) begin_outside))

pub returns-in_err-function-clause-follows : goal.returns-in_err-function-clause-follows
returns-in_err-function-clause-follows c =
    let p = err_from_is_err_and c.from_residual-in_err-function.result c.from_residual-in_err-function.ensures.1 in rw (p.1, p.2) (λ unshaped typed. stop_outside _ (P.mark M.LeftParen ∷ P.parameters ∷ P.mark M.RightParen ∷ P.block ∷ []) (P.items ∷ []) c.in_err-function.ensures.follows (turned_outside P.behind_typed_name (P.mark M.LeftParen) (P.parameters ∷ P.mark M.RightParen ∷ P.block ∷ []) (P.items ∷ []) (c.is_mark.ensures.yes c.if-is_mark.true) refl tt (name_outside P.name (P.behind_typed_name ∷ P.items ∷ []) c.in_ok-name.ensures.read refl (omega arith) (entered_outside P.items P.type (P.name ∷ P.behind_typed_name ∷ P.items ∷ []) [] (typed_item _ unshaped typed) (type_start (token_kind c.args.self.now.tokens.now c.args.spot.now.at)) (c.in_ok-type_name.ensures.follows 0 (omega arith)) (omega arith) begin_outside))) (omega arith))

pub returns-then-is_mark-clause-follows : goal.returns-then-is_mark-clause-follows
returns-then-is_mark-clause-follows c =
    λ unshaped typed. behind_outside (P.items ∷ []) c.in_ok-function.ensures.follows (turned_outside P.behind_typed_name (P.mark M.LeftParen) (P.parameters ∷ P.mark M.RightParen ∷ P.block ∷ []) (P.items ∷ []) (c.is_mark.ensures.yes c.if-is_mark.true) refl tt (name_outside P.name (P.behind_typed_name ∷ P.items ∷ []) c.in_ok-name.ensures.read refl (omega arith) (entered_outside P.items P.type (P.name ∷ P.behind_typed_name ∷ P.items ∷ []) [] (typed_item _ unshaped typed) (type_start (token_kind c.args.self.now.tokens.now c.args.spot.now.at)) (c.in_ok-type_name.ensures.follows 0 (omega arith)) (omega arith) begin_outside))) (omega arith)

pub returns-in_err-variables-clause-follows : goal.returns-in_err-variables-clause-follows
returns-in_err-variables-clause-follows c =
    let p = err_from_is_err_and c.from_residual-in_err-variables.result c.from_residual-in_err-variables.ensures.1 in rw (p.1, p.2) (λ unshaped typed. stop_outside _ (P.length_or_none ∷ P.initial_or_none ∷ P.more_names ∷ []) (P.items ∷ []) c.in_err-variables.ensures.follows (variables_behind (P.items ∷ []) (c.is_mark.ensures.no c.if-is_mark.false) (name_outside P.name (P.behind_typed_name ∷ P.items ∷ []) c.in_ok-name.ensures.read refl (omega arith) (entered_outside P.items P.type (P.name ∷ P.behind_typed_name ∷ P.items ∷ []) [] (typed_item _ unshaped typed) (type_start (token_kind c.args.self.now.tokens.now c.args.spot.now.at)) (c.in_ok-type_name.ensures.follows 0 (omega arith)) (omega arith) begin_outside))) (omega arith))

pub returns-clause-follows : goal.returns-clause-follows
returns-clause-follows c =
    λ unshaped typed. behind_outside (P.items ∷ []) c.in_ok-variables.ensures.follows (variables_behind (P.items ∷ []) (c.is_mark.ensures.no c.if-is_mark.false) (name_outside P.name (P.behind_typed_name ∷ P.items ∷ []) c.in_ok-name.ensures.read refl (omega arith) (entered_outside P.items P.type (P.name ∷ P.behind_typed_name ∷ P.items ∷ []) [] (typed_item _ unshaped typed) (type_start (token_kind c.args.self.now.tokens.now c.args.spot.now.at)) (c.in_ok-type_name.ensures.follows 0 (omega arith)) (omega arith) begin_outside))) (omega arith)
