use Rattle.std.proofs.Common.{[], ◌∷◌, arith, refl}
use Rattle.std.proofs.lemmas.Result.{err_from_is_err_and}
use Rattle.cstar_tree.specs.declared.token.Mark.TheVariants as M
use Rattle.grammar_parts.specs.Parts as P
use Rattle.cstar_parser.proofs.Outside.{begin_outside, behind_outside, jump_word, marked_outside, refused_outside, stop_outside, unmissed}
use Rattle.cstar_parser.proofs.StatementNodes.{break_is, continue_is, return_is}
use Rattle.cstar_parser.proofs.reader.Reader.read_jump.Goals as goal

pub returns-then-is_mark-clause-read : goal.returns-then-is_mark-clause-read
returns-then-is_mark-clause-read c = break_is c.in_ok-new.ensures.ok c.requires.depth c.in_ok-place.ensures.read c.in_ok-expect.ensures.read

pub returns-then-is_mark-2-clause-read : goal.returns-then-is_mark-2-clause-read
returns-then-is_mark-2-clause-read c = continue_is c.in_ok-new-2.ensures.ok c.requires.depth c.in_ok-place-2.ensures.read c.in_ok-expect-2.ensures.read

pub returns-clause-read : goal.returns-clause-read
returns-clause-read c =
    let value = c.in_ok-value.ensures.read in
    return_is c.in_ok-new-3.ensures.ok c.in_ok-place-3.ensures.read (rw c.unboxed-value.ensures (value.spelled, value.fits, value.forward, value.inside))

pub returns-in_err-place-clause-follows : goal.returns-in_err-place-clause-follows
returns-in_err-place-clause-follows c =
    let p = err_from_is_err_and c.from_residual.result c.from_residual.ensures.1 in rw (p.1, p.2) (λ around e is. unmissed _ M.Break (c.is_mark.ensures.yes c.if-is_mark.true) c.in_err-place.ensures.stops begin_outside)

pub returns-in_err-expect-clause-follows : goal.returns-in_err-expect-clause-follows
returns-in_err-expect-clause-follows c =
    let p = err_from_is_err_and c.from_residual-in_err-expect.result c.from_residual-in_err-expect.ensures.1 in rw (p.1, p.2) (λ around e is. refused_outside _ (P.mark M.Semicolon) (P.ended ∷ []) c.in_err-expect.ensures.stops (marked_outside P.statement [] c.in_ok-place.ensures.read refl (omega arith) begin_outside))

pub returns-then-is_mark-clause-follows : goal.returns-then-is_mark-clause-follows
returns-then-is_mark-clause-follows c =
    λ around e is. marked_outside (P.mark M.Semicolon) (P.ended ∷ []) c.in_ok-expect.ensures.read refl (omega arith) (marked_outside P.statement [] c.in_ok-place.ensures.read refl (omega arith) begin_outside)

pub returns-in_err-place-2-clause-follows : goal.returns-in_err-place-2-clause-follows
returns-in_err-place-2-clause-follows c =
    let p = err_from_is_err_and c.from_residual-in_err-place-2.result c.from_residual-in_err-place-2.ensures.1 in rw (p.1, p.2) (λ around e is. unmissed _ M.Continue (c.is_mark-2.ensures.yes c.if-is_mark-2.true) c.in_err-place-2.ensures.stops begin_outside)

pub returns-in_err-expect-2-clause-follows : goal.returns-in_err-expect-2-clause-follows
returns-in_err-expect-2-clause-follows c =
    let p = err_from_is_err_and c.from_residual-in_err-expect-2.result c.from_residual-in_err-expect-2.ensures.1 in rw (p.1, p.2) (λ around e is. refused_outside _ (P.mark M.Semicolon) (P.ended ∷ []) c.in_err-expect-2.ensures.stops (marked_outside P.statement [] c.in_ok-place-2.ensures.read refl (omega arith) begin_outside))

pub returns-then-is_mark-2-clause-follows : goal.returns-then-is_mark-2-clause-follows
returns-then-is_mark-2-clause-follows c =
    λ around e is. marked_outside (P.mark M.Semicolon) (P.ended ∷ []) c.in_ok-expect-2.ensures.read refl (omega arith) (marked_outside P.statement [] c.in_ok-place-2.ensures.read refl (omega arith) begin_outside)

pub returns-in_err-place-3-clause-follows : goal.returns-in_err-place-3-clause-follows
returns-in_err-place-3-clause-follows c =
    let p = err_from_is_err_and c.from_residual-in_err-place-3.result c.from_residual-in_err-place-3.ensures.1 in rw (p.1, p.2) (λ around e is. unmissed _ M.Return (jump_word _ is (c.is_mark.ensures.no c.if-is_mark.false) (c.is_mark-2.ensures.no c.if-is_mark-2.false)) c.in_err-place-3.ensures.stops begin_outside)

pub returns-in_err-value-clause-follows : goal.returns-in_err-value-clause-follows
returns-in_err-value-clause-follows c =
    let p = err_from_is_err_and c.from_residual-in_err-value.result c.from_residual-in_err-value.ensures.1 in rw (p.1, p.2) (λ around e is. stop_outside _ (P.part M.Semicolon ∷ []) (P.ended ∷ []) c.in_err-value.ensures.follows (marked_outside P.statement [] c.in_ok-place-3.ensures.read refl (omega arith) begin_outside) (omega arith))

pub returns-clause-follows : goal.returns-clause-follows
returns-clause-follows c =
    λ around e is. behind_outside (P.ended ∷ []) c.in_ok-value.ensures.follows (marked_outside P.statement [] c.in_ok-place-3.ensures.read refl (omega arith) begin_outside) (omega arith)
