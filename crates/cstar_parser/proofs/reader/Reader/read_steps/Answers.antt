use Rattle.std.proofs.Common.{[], arith}
use Rattle.std.proofs.lemmas.Result.{err_from_is_err_and}
use Rattle.grammar_parts.specs.Parts as P
use Rattle.grammar_parts.proofs.Words.{takes_step}
use Rattle.cstar_parser.proofs.Following.{begin, overfull, skipped}
use Rattle.cstar_parser.proofs.FollowingExpressions.{added, no_step}
use Rattle.cstar_parser.proofs.ExpressionNodes as node
use Rattle.cstar_parser.proofs.reader.Reader.read_steps.Goals as goal

pub steps-init : goal.steps-init
steps-init c = (c.requires.within, (λ levels from before. before), λ around few. begin)

pub steps-preserved : goal.steps-preserved
steps-preserved c =
    let o = c.in_ok-place.ensures.read in
    (o.inside, (λ levels from before. node.postfix c.in_ok-operand.ensures (c.steps.invariant.1 levels from before) c.in-Some.ensures.found o), λ around few. added P.steps [] c.in-Some.ensures.found c.in_ok-place.ensures.read (takes_step c.in-Some.op) (omega arith) (c.steps.invariant.2 around few))

pub returns-clause-read : goal.returns-clause-read
returns-clause-read c = λ levels from before. c.steps.invariant.1 levels from before

pub returns-in_err-place-clause-follows : goal.returns-in_err-place-clause-follows
returns-in_err-place-clause-follows c =
    let p = err_from_is_err_and c.from_residual.result c.from_residual.ensures.1 in rw (p.1, p.2) (λ around few. overfull _ P.steps [] c.in-Some.ensures.found (takes_step c.in-Some.op) c.in_err-place.ensures.stops (c.steps.invariant.2 around few))

pub returns-clause-follows : goal.returns-clause-follows
returns-clause-follows c =
    λ around few. skipped P.steps [] (no_step _ c.in_default.ensures.missing) (c.steps.invariant.2 around few)
