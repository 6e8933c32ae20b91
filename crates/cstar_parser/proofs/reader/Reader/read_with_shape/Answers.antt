use Rattle.std.proofs.Common.{arith, [], ◌∷◌, refl}
use Rattle.std.proofs.lemmas.Result.{err_from_is_err_and}
use Rattle.cstar_tree.specs.declared.token.Mark.TheVariants as M
use Rattle.grammar_parts.specs.Parts as P
use Rattle.cstar_parser.proofs.Outside.{begin_outside, marked_outside, refused_outside, shaped_outside}
use Rattle.cstar_tree.specs.Options as O
use Rattle.cstar_parser.proofs.reader.Reader.read_with_shape.Goals as goal

pub returns-clause-read : goal.returns-clause-read
returns-clause-read c =
    let begin = c.in_ok-expect.ensures.read in
    let shape = c.in_ok-shape.ensures.read in
    let end = c.in_ok-expect-2.ensures.read in
    record { spelled = O.bracketed begin.spelled shape.spelled end.spelled; fits = tt; forward = omega arith; inside = end.inside }

pub returns-in_err-expect-clause-follows : goal.returns-in_err-expect-clause-follows
returns-in_err-expect-clause-follows c =
    let p = err_from_is_err_and c.from_residual.result c.from_residual.ensures.1 in rw (p.1, p.2) (λ around few. refused_outside _ (P.mark M.LeftParen) (P.shape ∷ P.mark M.RightParen ∷ []) c.in_err-expect.ensures.stops begin_outside)

pub returns-in_err-shape-clause-follows : goal.returns-in_err-shape-clause-follows
returns-in_err-shape-clause-follows c =
    let p = err_from_is_err_and c.from_residual-in_err-shape.result c.from_residual-in_err-shape.ensures.1 in rw (p.1, p.2) (λ around few. refused_outside _ P.shape (P.mark M.RightParen ∷ []) c.in_err-shape.ensures.stops (marked_outside (P.mark M.LeftParen) (P.shape ∷ P.mark M.RightParen ∷ []) c.in_ok-expect.ensures.read refl (omega arith) begin_outside))

pub returns-in_err-expect-2-clause-follows : goal.returns-in_err-expect-2-clause-follows
returns-in_err-expect-2-clause-follows c =
    let p = err_from_is_err_and c.from_residual-in_err-expect-2.result c.from_residual-in_err-expect-2.ensures.1 in rw (p.1, p.2) (λ around few. refused_outside _ (P.mark M.RightParen) [] c.in_err-expect-2.ensures.stops (shaped_outside (P.mark M.RightParen ∷ []) c.in_ok-shape.ensures.read (omega arith) (marked_outside (P.mark M.LeftParen) (P.shape ∷ P.mark M.RightParen ∷ []) c.in_ok-expect.ensures.read refl (omega arith) begin_outside)))

pub returns-clause-follows : goal.returns-clause-follows
returns-clause-follows c =
    λ around few. marked_outside (P.mark M.RightParen) [] c.in_ok-expect-2.ensures.read refl (omega arith) (shaped_outside (P.mark M.RightParen ∷ []) c.in_ok-shape.ensures.read (omega arith) (marked_outside (P.mark M.LeftParen) (P.shape ∷ P.mark M.RightParen ∷ []) c.in_ok-expect.ensures.read refl (omega arith) begin_outside))
