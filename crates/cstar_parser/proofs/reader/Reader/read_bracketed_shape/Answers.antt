use Rattle.std.proofs.Common.{[], ◌∷◌, arith, refl}
use Rattle.std.proofs.lemmas.Result.{err_from_is_err_and}
use Rattle.cstar_tree.specs.declared.token.Mark.TheVariants as M
use Rattle.grammar_parts.specs.Parts as P
use Rattle.cstar_parser.proofs.Following.{begin, bracketed, marked, refused, shaped, unopened}
use Rattle.cstar_parser.proofs.reader.Reader.read_bracketed_shape.Goals as goal

pub returns-in_err-open-clause-follows : goal.returns-in_err-open-clause-follows
returns-in_err-open-clause-follows c =
    let p = err_from_is_err_and c.from_residual.result c.from_residual.ensures.1 in rw (p.1, p.2) (unopened _ M.LeftParen (P.shape ∷ P.close M.RightParen ∷ []) c.in_err-open.ensures.stops (omega arith) begin)

pub returns-in_err-shape-clause-follows : goal.returns-in_err-shape-clause-follows
returns-in_err-shape-clause-follows c =
    let p = err_from_is_err_and c.from_residual-in_err-shape.result c.from_residual-in_err-shape.ensures.1 in rw (p.1, p.2) (refused _ P.shape (P.close M.RightParen ∷ []) c.in_err-shape.ensures.stops (bracketed (P.shape ∷ P.close M.RightParen ∷ []) c.in_ok-open.ensures.read (omega (arith, c.in_ok-open.ensures.read.fits.0)) begin))

pub returns-in_err-expect-clause-follows : goal.returns-in_err-expect-clause-follows
returns-in_err-expect-clause-follows c =
    let p = err_from_is_err_and c.from_residual-in_err-expect.result c.from_residual-in_err-expect.ensures.1 in rw (p.1, p.2) (refused _ (P.close M.RightParen) [] c.in_err-expect.ensures.stops (shaped (P.close M.RightParen ∷ []) c.in_ok-shape.ensures.read (omega (arith, c.in_ok-open.ensures.read.fits.0)) (bracketed (P.shape ∷ P.close M.RightParen ∷ []) c.in_ok-open.ensures.read (omega (arith, c.in_ok-open.ensures.read.fits.0)) begin)))

pub returns-clause-follows : goal.returns-clause-follows
returns-clause-follows c =
    marked (P.close M.RightParen) [] c.in_ok-expect.ensures.read refl (omega (arith, c.in_ok-open.ensures.read.fits.0)) (shaped (P.close M.RightParen ∷ []) c.in_ok-shape.ensures.read (omega (arith, c.in_ok-open.ensures.read.fits.0)) (bracketed (P.shape ∷ P.close M.RightParen ∷ []) c.in_ok-open.ensures.read (omega (arith, c.in_ok-open.ensures.read.fits.0)) begin))
