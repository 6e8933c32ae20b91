use Rattle.std.proofs.Common.{◌∙◌, sym}
use Rattle.std.proofs.lemmas.Result.{err_from_is_err_and}
use Rattle.cstar_tree.specs.Items as X
use Rattle.cstar_parser.proofs.StatementFitting.{function_fits}
use Rattle.cstar_parser.proofs.reader.Reader.read_item.Goals as goal

pub returns-clause-read : goal.returns-clause-read
returns-clause-read c =
    let function = c.in_ok-read_untyped.ensures.read in
    record { spelled = X.function_is function.spelled; fits = function_fits _ function.fits; forward = function.forward; inside = function.inside }

pub returns-then-is_mark-clause-follows : goal.returns-then-is_mark-clause-follows
returns-then-is_mark-clause-follows c =
    c.read_shapes.ensures.follows (c.is_mark.ensures.yes c.if-is_mark.true)

pub returns-then-begins_type-clause-follows : goal.returns-then-begins_type-clause-follows
returns-then-begins_type-clause-follows c =
    c.read_typed.ensures.follows (c.is_mark.ensures.no c.if-is_mark.false) (sym c.begins_type.ensures.word ∙ c.if-begins_type.true)

pub returns-in_err-read_untyped-clause-follows : goal.returns-in_err-read_untyped-clause-follows
returns-in_err-read_untyped-clause-follows c =
    let p = err_from_is_err_and c.from_residual.result c.from_residual.ensures.1 in rw (p.1, p.2) (c.in_err-read_untyped.ensures.follows (c.is_mark.ensures.no c.if-is_mark.false) (sym c.begins_type.ensures.word ∙ c.if-begins_type.false))

pub returns-clause-follows : goal.returns-clause-follows
returns-clause-follows c =
    c.in_ok-read_untyped.ensures.follows (c.is_mark.ensures.no c.if-is_mark.false) (sym c.begins_type.ensures.word ∙ c.if-begins_type.false)
