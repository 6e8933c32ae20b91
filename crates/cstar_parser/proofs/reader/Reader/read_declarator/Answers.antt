use Rattle.std.proofs.Common.{arith, [], ◌∷◌}
use Rattle.std.proofs.lemmas.Result.{err_from_is_err_and}
use Rattle.grammar_parts.specs.Parts as P
use Rattle.cstar_parser.proofs.Outside.{begin_outside, behind_outside, stop_outside}
use Rattle.cstar_tree.specs.Declarations as X
use Rattle.cstar_parser.proofs.StatementFitting.{fit_both}
use Rattle.cstar_parser.proofs.reader.Reader.read_declarator.Goals as goal

pub returns-clause-read : goal.returns-clause-read
returns-clause-read c =
    let length = c.in_ok-length.ensures.read in
    let initial = c.in_ok-initial.ensures.read in
    record {
      spelled = λ from named. X.declarator named (rw c.unboxed.ensures length.spelled) initial.spelled;
      fits = fit_both _ _ (rw c.unboxed.ensures length.fits) initial.fits;
      forward = omega arith;
      inside = initial.inside;
    }

pub returns-in_err-length-clause-follows : goal.returns-in_err-length-clause-follows
returns-in_err-length-clause-follows c =
    let p = err_from_is_err_and c.from_residual.result c.from_residual.ensures.1 in rw (p.1, p.2) (stop_outside _ (P.length_or_none ∷ []) (P.initial_or_none ∷ []) c.in_err-length.ensures.follows begin_outside (omega arith))

pub returns-in_err-initial-clause-follows : goal.returns-in_err-initial-clause-follows
returns-in_err-initial-clause-follows c =
    let p = err_from_is_err_and c.from_residual-in_err-initial.result c.from_residual-in_err-initial.ensures.1 in rw (p.1, p.2) (stop_outside _ (P.initial_or_none ∷ []) [] c.in_err-initial.ensures.follows (behind_outside (P.initial_or_none ∷ []) c.in_ok-length.ensures.follows begin_outside (omega arith)) (omega arith))

pub returns-clause-follows : goal.returns-clause-follows
returns-clause-follows c =
    behind_outside [] c.in_ok-initial.ensures.follows (behind_outside (P.initial_or_none ∷ []) c.in_ok-length.ensures.follows begin_outside (omega arith)) (omega arith)
