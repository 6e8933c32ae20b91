use Rattle.std.proofs.Common.{refl, [], ◌∷◌, arith}
use Rattle.std.proofs.lemmas.Result.{err_from_is_err_and}
use Rattle.cstar_tree.specs.Positions.{token_kind}
use Rattle.grammar_parts.specs.Parts as P
use Rattle.cstar_parser.proofs.Outside.{begin_outside, entered_outside, last_outside, name_outside, refused_outside, stopped_outside, type_start, typed_declaration}
use Rattle.cstar_parser.proofs.Behind.{declared}
use Rattle.cstar_parser.proofs.reader.Reader.read_declaration.Goals as goal

pub returns-clause-read : goal.returns-clause-read
returns-clause-read c = declared _ _ _ c.read_variables.result refl c.in_ok-type_name.ensures.read c.in_ok-first.ensures.read c.read_variables.ensures.read

pub returns-in_err-type_name-clause-follows : goal.returns-in_err-type_name-clause-follows
returns-in_err-type_name-clause-follows c =
    let p = err_from_is_err_and c.from_residual.result c.from_residual.ensures.1 in rw (p.1, p.2) (λ typed. stopped_outside _ P.declarations P.type (P.name ∷ P.length_or_none ∷ P.initial_or_none ∷ P.more_names ∷ P.declarations ∷ []) [] (typed_declaration _ typed) (type_start (token_kind c.args.self.now.tokens.now c.args.spot.now.at)) (c.in_err-type_name.ensures.follows c.args.levels c.requires.depth) (omega arith) begin_outside)

pub returns-in_err-first-clause-follows : goal.returns-in_err-first-clause-follows
returns-in_err-first-clause-follows c =
    let p = err_from_is_err_and c.from_residual-in_err-first.result c.from_residual-in_err-first.ensures.1 in rw (p.1, p.2) (λ typed. refused_outside _ P.name (P.length_or_none ∷ P.initial_or_none ∷ P.more_names ∷ P.declarations ∷ []) c.in_err-first.ensures.stops (entered_outside P.declarations P.type (P.name ∷ P.length_or_none ∷ P.initial_or_none ∷ P.more_names ∷ P.declarations ∷ []) [] (typed_declaration _ typed) (type_start (token_kind c.args.self.now.tokens.now c.args.spot.now.at)) (c.in_ok-type_name.ensures.follows c.args.levels c.requires.depth) (omega arith) begin_outside))

pub returns-clause-follows : goal.returns-clause-follows
returns-clause-follows c =
    λ typed. last_outside (P.length_or_none ∷ P.initial_or_none ∷ P.more_names ∷ []) [] (P.declarations ∷ []) c.args.spot.now c.read_name.new.spot c.read_variables.new.spot c.read_variables.result c.read_variables.ensures.follows (name_outside P.name (P.length_or_none ∷ P.initial_or_none ∷ P.more_names ∷ P.declarations ∷ []) c.in_ok-first.ensures.read refl (omega arith) (entered_outside P.declarations P.type (P.name ∷ P.length_or_none ∷ P.initial_or_none ∷ P.more_names ∷ P.declarations ∷ []) [] (typed_declaration _ typed) (type_start (token_kind c.args.self.now.tokens.now c.args.spot.now.at)) (c.in_ok-type_name.ensures.follows c.args.levels c.requires.depth) (omega arith) begin_outside)) (omega arith)
