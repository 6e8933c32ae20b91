use Rattle.std.proofs.Common.{arith, [], ◌∷◌, refl}
use Rattle.std.proofs.lemmas.Result.{err_from_is_err_and}
use Rattle.cstar_tree.specs.declared.token.Mark.TheVariants as M
use Rattle.cstar_tree.specs.Positions.{token_kind}
use Rattle.grammar_parts.specs.Parts as P
use Rattle.cstar_parser.proofs.FollowingExpressions.{name_real}
use Rattle.cstar_parser.proofs.Outside.{begin_outside, last_outside, marked_outside, name_outside, named_item, opened_outside, refused_outside, turned_outside}
use Rattle.cstar_tree.specs.Items as X
use Rattle.cstar_parser.proofs.Behind.{function}
use Rattle.cstar_parser.proofs.reader.Reader.read_untyped.Goals as goal

pub returns-then-is_mark-clause-read : goal.returns-then-is_mark-clause-read
returns-then-is_mark-clause-read c =
    let word = c.in_ok-expect.ensures.read in
    function _ _ c.read_function.result c.place_at-place.ensures (X.void word.spelled) (omega arith) c.in_ok-name.ensures.read c.read_function.ensures.read

pub returns-clause-read : goal.returns-clause-read
returns-clause-read c = function _ _ c.read_function-2.result c.place_at-place.ensures X.unwritten (omega arith) c.in_ok-name-2.ensures.read c.read_function-2.ensures.read

pub returns-in_err-expect-clause-follows : goal.returns-in_err-expect-clause-follows
returns-in_err-expect-clause-follows c =
    let p = err_from_is_err_and c.from_residual.result c.from_residual.ensures.1 in rw (p.1, p.2) (λ unshaped untyped. refused_outside _ (P.mark M.Void) (P.name ∷ P.mark M.LeftParen ∷ P.parameters ∷ P.mark M.RightParen ∷ P.block ∷ P.items ∷ []) c.in_err-expect.ensures.stops (turned_outside P.items (P.mark M.Void) (P.name ∷ P.mark M.LeftParen ∷ P.parameters ∷ P.mark M.RightParen ∷ P.block ∷ P.items ∷ []) [] (c.is_mark.ensures.yes c.if-is_mark.true) refl tt begin_outside))

pub returns-in_err-name-clause-follows : goal.returns-in_err-name-clause-follows
returns-in_err-name-clause-follows c =
    let p = err_from_is_err_and c.from_residual-in_err-name.result c.from_residual-in_err-name.ensures.1 in rw (p.1, p.2) (λ unshaped untyped. refused_outside _ P.name (P.mark M.LeftParen ∷ P.parameters ∷ P.mark M.RightParen ∷ P.block ∷ P.items ∷ []) c.in_err-name.ensures.stops (marked_outside (P.mark M.Void) (P.name ∷ P.mark M.LeftParen ∷ P.parameters ∷ P.mark M.RightParen ∷ P.block ∷ P.items ∷ []) c.in_ok-expect.ensures.read refl (omega arith) (turned_outside P.items (P.mark M.Void) (P.name ∷ P.mark M.LeftParen ∷ P.parameters ∷ P.mark M.RightParen ∷ P.block ∷ P.items ∷ []) [] (c.is_mark.ensures.yes c.if-is_mark.true) refl tt begin_outside)))

pub returns-then-is_mark-clause-follows : goal.returns-then-is_mark-clause-follows
returns-then-is_mark-clause-follows c =
    λ unshaped untyped. last_outside (P.mark M.LeftParen ∷ P.parameters ∷ P.mark M.RightParen ∷ P.block ∷ []) [] (P.items ∷ []) c.args.spot.now c.read_name.new.spot c.read_function.new.spot c.read_function.result c.read_function.ensures.follows (name_outside P.name (P.mark M.LeftParen ∷ P.parameters ∷ P.mark M.RightParen ∷ P.block ∷ P.items ∷ []) c.in_ok-name.ensures.read refl (omega arith) (marked_outside (P.mark M.Void) (P.name ∷ P.mark M.LeftParen ∷ P.parameters ∷ P.mark M.RightParen ∷ P.block ∷ P.items ∷ []) c.in_ok-expect.ensures.read refl (omega arith) (turned_outside P.items (P.mark M.Void) (P.name ∷ P.mark M.LeftParen ∷ P.parameters ∷ P.mark M.RightParen ∷ P.block ∷ P.items ∷ []) [] (c.is_mark.ensures.yes c.if-is_mark.true) refl tt begin_outside))) (omega arith)

pub returns-in_err-name-2-clause-follows : goal.returns-in_err-name-2-clause-follows
returns-in_err-name-2-clause-follows c =
    let p = err_from_is_err_and c.from_residual-in_err-name-2.result c.from_residual-in_err-name-2.ensures.1 in rw (p.1, p.2) (λ unshaped untyped. refused_outside _ P.name (P.mark M.LeftParen ∷ P.parameters ∷ P.mark M.RightParen ∷ P.block ∷ P.items ∷ []) c.in_err-name-2.ensures.stops (opened_outside P.items P.name (P.mark M.LeftParen ∷ P.parameters ∷ P.mark M.RightParen ∷ P.block ∷ P.items ∷ []) [] (named_item _ _ _ c.place_at-place.ensures unshaped untyped (c.is_mark.ensures.no c.if-is_mark.false)) (name_real (token_kind c.args.self.now.tokens.now c.args.spot.now.at)) begin_outside))

pub returns-clause-follows : goal.returns-clause-follows
returns-clause-follows c =
    λ unshaped untyped. last_outside (P.mark M.LeftParen ∷ P.parameters ∷ P.mark M.RightParen ∷ P.block ∷ []) [] (P.items ∷ []) c.args.spot.now c.read_name-2.new.spot c.read_function-2.new.spot c.read_function-2.result c.read_function-2.ensures.follows (name_outside P.name (P.mark M.LeftParen ∷ P.parameters ∷ P.mark M.RightParen ∷ P.block ∷ P.items ∷ []) c.in_ok-name-2.ensures.read refl (omega arith) (opened_outside P.items P.name (P.mark M.LeftParen ∷ P.parameters ∷ P.mark M.RightParen ∷ P.block ∷ P.items ∷ []) [] (named_item _ _ _ c.place_at-place.ensures unshaped untyped (c.is_mark.ensures.no c.if-is_mark.false)) (name_real (token_kind c.args.self.now.tokens.now c.args.spot.now.at)) begin_outside)) (omega arith)
