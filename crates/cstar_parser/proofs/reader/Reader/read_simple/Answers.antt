use Rattle.std.proofs.Common.{[], ◌∷◌, ap, arith}
use Rattle.std.proofs.lemmas.Result.{err_from_is_err_and}
use Rattle.cstar_tree.specs.declared.token.Mark.TheVariants as M
use Rattle.cstar_tree.specs.Positions.{token_kind}
use Rattle.grammar_parts.specs.Parts as P
use Rattle.cstar_parser.specs.Outside.{begins_statement}
use Rattle.cstar_parser.proofs.Following.{nothing_behind}
use Rattle.cstar_parser.proofs.Outside.{begin_outside, behind_outside, no_statement, opened_outside, part_real, stop_outside}
use Rattle.cstar_parser.proofs.StatementNodes.{empty_is, expression_is}
use Rattle.cstar_parser.proofs.reader.Reader.read_simple.Goals as goal

pub returns-in_ok-new-in-Some-clause-read : goal.returns-in_ok-new-in-Some-clause-read
returns-in_ok-new-in-Some-clause-read c =
    let part = c.in_ok-part.ensures.read in
    expression_is c.in_ok-new-in-Some.ensures.ok c.place_at-place.ensures (rw c.into_inner-expr.ensures (rw c.in-Some.is at part.spelled), rw c.into_inner-expr.ensures (rw c.in-Some.is at part.fits), part.forward, part.inside)

pub returns-in_ok-new-in-None-clause-read : goal.returns-in_ok-new-in-None-clause-read
returns-in_ok-new-in-None-clause-read c =
    let part = c.in_ok-part.ensures.read in
    empty_is c.in_ok-new-in-None.ensures.ok c.requires.depth c.place_at-place.ensures (rw c.in-None.is at part.spelled, rw c.in-None.is at part.fits, part.forward, part.inside)

pub returns-then-spot-self-clause-follows : goal.returns-then-spot-self-clause-follows
returns-then-spot-self-clause-follows c =
    rw c.hopeless.ensures (λ around e is. no_statement [] (ap begins_statement (nothing_behind _ _ c.if-spot-self.true)) begin_outside)

pub returns-in_err-part-clause-follows : goal.returns-in_err-part-clause-follows
returns-in_err-part-clause-follows c =
    let p = err_from_is_err_and c.from_residual.result c.from_residual.ensures.1 in rw (p.1, p.2) (λ around e is. stop_outside _ (P.part M.Semicolon ∷ []) (P.ended ∷ []) c.in_err-part.ensures.follows (opened_outside P.statement (P.part M.Semicolon) (P.ended ∷ []) [] is (part_real (token_kind c.args.self.now.tokens.now c.args.spot.now.at) M.Semicolon) begin_outside) (omega arith))

pub returns-in_ok-new-in-Some-clause-follows : goal.returns-in_ok-new-in-Some-clause-follows
returns-in_ok-new-in-Some-clause-follows c =
    λ around e is. behind_outside (P.ended ∷ []) c.in_ok-part.ensures.follows (opened_outside P.statement (P.part M.Semicolon) (P.ended ∷ []) [] is (part_real (token_kind c.args.self.now.tokens.now c.args.spot.now.at) M.Semicolon) begin_outside) (omega arith)

pub returns-in_ok-new-in-None-clause-follows : goal.returns-in_ok-new-in-None-clause-follows
returns-in_ok-new-in-None-clause-follows c =
    λ around e is. behind_outside (P.ended ∷ []) c.in_ok-part.ensures.follows (opened_outside P.statement (P.part M.Semicolon) (P.ended ∷ []) [] is (part_real (token_kind c.args.self.now.tokens.now c.args.spot.now.at) M.Semicolon) begin_outside) (omega arith)
