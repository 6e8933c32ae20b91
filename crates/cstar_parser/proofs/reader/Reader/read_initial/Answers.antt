use Rattle.std.proofs.Common.{arith, [], ◌∷◌, refl}
use Rattle.std.proofs.lemmas.Result.{err_from_is_err_and}
use Rattle.cstar_tree.specs.declared.token.Mark.TheVariants as M
use Rattle.grammar_parts.specs.Parts as P
use Rattle.cstar_parser.proofs.Outside.{begin_outside, behind_outside, marked_outside, not_initial, refused_outside, skipped_outside, stop_outside, turned_outside}
use Rattle.cstar_tree.specs.Declarations as X
use Rattle.cstar_parser.proofs.StatementFitting.{fit_none}
use Rattle.cstar_parser.proofs.reader.Reader.read_initial.Goals as goal

pub returns-then-not-is_mark-clause-read : goal.returns-then-not-is_mark-clause-read
returns-then-not-is_mark-clause-read c = record { spelled = X.no_initial; fits = fit_none c.requires.depth; forward = omega arith; inside = c.requires.within }

pub returns-clause-read : goal.returns-clause-read
returns-clause-read c =
    let sign = c.in_ok-place.ensures.read in
    let value = c.in_ok-value.ensures.read in
    rw c.into_inner-value.ensures (record { spelled = X.initial_is sign.spelled value.spelled.spelled; fits = value.fits; forward = omega arith; inside = value.inside })

pub returns-then-not-is_mark-clause-follows : goal.returns-then-not-is_mark-clause-follows
returns-then-not-is_mark-clause-follows c =
    skipped_outside P.initial_or_none [] (not_initial _ (c.is_mark.ensures.no c.if-not-is_mark.true)) begin_outside

pub returns-in_err-place-clause-follows : goal.returns-in_err-place-clause-follows
returns-in_err-place-clause-follows c =
    let p = err_from_is_err_and c.from_residual.result c.from_residual.ensures.1 in rw (p.1, p.2) (refused_outside _ (P.mark M.Equal) (P.whole ∷ []) c.in_err-place.ensures.stops (turned_outside P.initial_or_none (P.mark M.Equal) (P.whole ∷ []) [] (c.is_mark.ensures.yes c.if-not-is_mark.false) refl tt begin_outside))

pub returns-in_err-value-clause-follows : goal.returns-in_err-value-clause-follows
returns-in_err-value-clause-follows c =
    let p = err_from_is_err_and c.from_residual-in_err-value.result c.from_residual-in_err-value.ensures.1 in rw (p.1, p.2) (stop_outside _ (P.whole ∷ []) [] c.in_err-value.ensures.follows (marked_outside (P.mark M.Equal) (P.whole ∷ []) c.in_ok-place.ensures.read refl (omega arith) (turned_outside P.initial_or_none (P.mark M.Equal) (P.whole ∷ []) [] (c.is_mark.ensures.yes c.if-not-is_mark.false) refl tt begin_outside)) (omega arith))

pub returns-clause-follows : goal.returns-clause-follows
returns-clause-follows c =
    behind_outside [] c.in_ok-value.ensures.follows (marked_outside (P.mark M.Equal) (P.whole ∷ []) c.in_ok-place.ensures.read refl (omega arith) (turned_outside P.initial_or_none (P.mark M.Equal) (P.whole ∷ []) [] (c.is_mark.ensures.yes c.if-not-is_mark.false) refl tt begin_outside)) (omega arith)
