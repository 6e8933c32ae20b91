use Rattle.std.proofs.Common.{[], ◌∷◌, ◌+◌, arith, refl}
use Rattle.std.proofs.lemmas.Result.{err_from_is_err_and}
use Rattle.cstar_tree.specs.declared.token.Mark.TheVariants as M
use Rattle.grammar_parts.specs.Parts as P
use Rattle.cstar_parser.proofs.Following.{begin, behind, marked, refused, stop}
use Rattle.cstar_parser.proofs.reader.Reader.read_scan_options.Goals as goal

pub returns-in_err-combiner-clause-follows : goal.returns-in_err-combiner-clause-follows
returns-in_err-combiner-clause-follows c =
    let p = err_from_is_err_and c.from_residual.result c.from_residual.ensures.1 in rw (p.1, p.2) (λ around few. stop _ (P.mark M.Comma ∷ P.combiner ∷ []) (P.mark M.Comma ∷ P.direction ∷ P.mark M.Comma ∷ P.segment_mode ∷ P.mark M.Comma ∷ P.bit ∷ P.mark M.Comma ∷ P.inclusion ∷ P.close M.RightParen ∷ []) (c.in_err-combiner.ensures.follows (around + 1) (omega arith)) begin (omega arith))

pub returns-in_err-direction-clause-follows : goal.returns-in_err-direction-clause-follows
returns-in_err-direction-clause-follows c =
    let p = err_from_is_err_and c.from_residual-in_err-direction.result c.from_residual-in_err-direction.ensures.1 in rw (p.1, p.2) (λ around few. stop _ (P.mark M.Comma ∷ P.direction ∷ []) (P.mark M.Comma ∷ P.segment_mode ∷ P.mark M.Comma ∷ P.bit ∷ P.mark M.Comma ∷ P.inclusion ∷ P.close M.RightParen ∷ []) (c.in_err-direction.ensures.follows (around + 1) (omega arith)) (behind (P.mark M.Comma ∷ P.direction ∷ P.mark M.Comma ∷ P.segment_mode ∷ P.mark M.Comma ∷ P.bit ∷ P.mark M.Comma ∷ P.inclusion ∷ P.close M.RightParen ∷ []) (c.in_ok-combiner.ensures.follows (around + 1) (omega arith)) begin (omega arith)) (omega arith))

pub returns-in_err-mode-clause-follows : goal.returns-in_err-mode-clause-follows
returns-in_err-mode-clause-follows c =
    let p = err_from_is_err_and c.from_residual-in_err-mode.result c.from_residual-in_err-mode.ensures.1 in rw (p.1, p.2) (λ around few. stop _ (P.mark M.Comma ∷ P.segment_mode ∷ []) (P.mark M.Comma ∷ P.bit ∷ P.mark M.Comma ∷ P.inclusion ∷ P.close M.RightParen ∷ []) (c.in_err-mode.ensures.follows (around + 1) (omega arith)) (behind (P.mark M.Comma ∷ P.segment_mode ∷ P.mark M.Comma ∷ P.bit ∷ P.mark M.Comma ∷ P.inclusion ∷ P.close M.RightParen ∷ []) (c.in_ok-direction.ensures.follows (around + 1) (omega arith)) (behind (P.mark M.Comma ∷ P.direction ∷ P.mark M.Comma ∷ P.segment_mode ∷ P.mark M.Comma ∷ P.bit ∷ P.mark M.Comma ∷ P.inclusion ∷ P.close M.RightParen ∷ []) (c.in_ok-combiner.ensures.follows (around + 1) (omega arith)) begin (omega arith)) (omega arith)) (omega arith))

pub returns-in_err-bit-clause-follows : goal.returns-in_err-bit-clause-follows
returns-in_err-bit-clause-follows c =
    let p = err_from_is_err_and c.from_residual-in_err-bit.result c.from_residual-in_err-bit.ensures.1 in rw (p.1, p.2) (λ around few. stop _ (P.mark M.Comma ∷ P.bit ∷ []) (P.mark M.Comma ∷ P.inclusion ∷ P.close M.RightParen ∷ []) (c.in_err-bit.ensures.follows (around + 1) (omega arith)) (behind (P.mark M.Comma ∷ P.bit ∷ P.mark M.Comma ∷ P.inclusion ∷ P.close M.RightParen ∷ []) (c.in_ok-mode.ensures.follows (around + 1) (omega arith)) (behind (P.mark M.Comma ∷ P.segment_mode ∷ P.mark M.Comma ∷ P.bit ∷ P.mark M.Comma ∷ P.inclusion ∷ P.close M.RightParen ∷ []) (c.in_ok-direction.ensures.follows (around + 1) (omega arith)) (behind (P.mark M.Comma ∷ P.direction ∷ P.mark M.Comma ∷ P.segment_mode ∷ P.mark M.Comma ∷ P.bit ∷ P.mark M.Comma ∷ P.inclusion ∷ P.close M.RightParen ∷ []) (c.in_ok-combiner.ensures.follows (around + 1) (omega arith)) begin (omega arith)) (omega arith)) (omega arith)) (omega arith))

pub returns-in_err-inclusion-clause-follows : goal.returns-in_err-inclusion-clause-follows
returns-in_err-inclusion-clause-follows c =
    let p = err_from_is_err_and c.from_residual-in_err-inclusion.result c.from_residual-in_err-inclusion.ensures.1 in rw (p.1, p.2) (λ around few. stop _ (P.mark M.Comma ∷ P.inclusion ∷ []) (P.close M.RightParen ∷ []) (c.in_err-inclusion.ensures.follows (around + 1) (omega arith)) (behind (P.mark M.Comma ∷ P.inclusion ∷ P.close M.RightParen ∷ []) (c.in_ok-bit.ensures.follows (around + 1) (omega arith)) (behind (P.mark M.Comma ∷ P.bit ∷ P.mark M.Comma ∷ P.inclusion ∷ P.close M.RightParen ∷ []) (c.in_ok-mode.ensures.follows (around + 1) (omega arith)) (behind (P.mark M.Comma ∷ P.segment_mode ∷ P.mark M.Comma ∷ P.bit ∷ P.mark M.Comma ∷ P.inclusion ∷ P.close M.RightParen ∷ []) (c.in_ok-direction.ensures.follows (around + 1) (omega arith)) (behind (P.mark M.Comma ∷ P.direction ∷ P.mark M.Comma ∷ P.segment_mode ∷ P.mark M.Comma ∷ P.bit ∷ P.mark M.Comma ∷ P.inclusion ∷ P.close M.RightParen ∷ []) (c.in_ok-combiner.ensures.follows (around + 1) (omega arith)) begin (omega arith)) (omega arith)) (omega arith)) (omega arith)) (omega arith))

pub returns-in_err-expect-clause-follows : goal.returns-in_err-expect-clause-follows
returns-in_err-expect-clause-follows c =
    let p = err_from_is_err_and c.from_residual-in_err-expect.result c.from_residual-in_err-expect.ensures.1 in rw (p.1, p.2) (λ around few. refused _ (P.close M.RightParen) [] c.in_err-expect.ensures.stops (behind (P.close M.RightParen ∷ []) (c.in_ok-inclusion.ensures.follows (around + 1) (omega arith)) (behind (P.mark M.Comma ∷ P.inclusion ∷ P.close M.RightParen ∷ []) (c.in_ok-bit.ensures.follows (around + 1) (omega arith)) (behind (P.mark M.Comma ∷ P.bit ∷ P.mark M.Comma ∷ P.inclusion ∷ P.close M.RightParen ∷ []) (c.in_ok-mode.ensures.follows (around + 1) (omega arith)) (behind (P.mark M.Comma ∷ P.segment_mode ∷ P.mark M.Comma ∷ P.bit ∷ P.mark M.Comma ∷ P.inclusion ∷ P.close M.RightParen ∷ []) (c.in_ok-direction.ensures.follows (around + 1) (omega arith)) (behind (P.mark M.Comma ∷ P.direction ∷ P.mark M.Comma ∷ P.segment_mode ∷ P.mark M.Comma ∷ P.bit ∷ P.mark M.Comma ∷ P.inclusion ∷ P.close M.RightParen ∷ []) (c.in_ok-combiner.ensures.follows (around + 1) (omega arith)) begin (omega arith)) (omega arith)) (omega arith)) (omega arith)) (omega arith)))

pub returns-clause-follows : goal.returns-clause-follows
returns-clause-follows c =
    λ around few. marked (P.close M.RightParen) [] c.in_ok-expect.ensures.read refl (omega arith) (behind (P.close M.RightParen ∷ []) (c.in_ok-inclusion.ensures.follows (around + 1) (omega arith)) (behind (P.mark M.Comma ∷ P.inclusion ∷ P.close M.RightParen ∷ []) (c.in_ok-bit.ensures.follows (around + 1) (omega arith)) (behind (P.mark M.Comma ∷ P.bit ∷ P.mark M.Comma ∷ P.inclusion ∷ P.close M.RightParen ∷ []) (c.in_ok-mode.ensures.follows (around + 1) (omega arith)) (behind (P.mark M.Comma ∷ P.segment_mode ∷ P.mark M.Comma ∷ P.bit ∷ P.mark M.Comma ∷ P.inclusion ∷ P.close M.RightParen ∷ []) (c.in_ok-direction.ensures.follows (around + 1) (omega arith)) (behind (P.mark M.Comma ∷ P.direction ∷ P.mark M.Comma ∷ P.segment_mode ∷ P.mark M.Comma ∷ P.bit ∷ P.mark M.Comma ∷ P.inclusion ∷ P.close M.RightParen ∷ []) (c.in_ok-combiner.ensures.follows (around + 1) (omega arith)) begin (omega arith)) (omega arith)) (omega arith)) (omega arith)) (omega arith))
