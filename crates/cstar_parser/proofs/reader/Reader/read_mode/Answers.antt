use Rattle.std.proofs.Common.{[], ◌∷◌, ◌∙◌, ap, arith, refl}
use Rattle.std.proofs.lemmas.Result.{err_from_is_err_and}
use Rattle.cstar_tree.specs.declared.token.Mark.TheVariants as M
use Rattle.grammar_parts.specs.Actions.{act, mode_words}
use Rattle.grammar_parts.specs.Parts as P
use Rattle.grammar_parts.specs.Parts.{refuse}
use Rattle.cstar_parser.proofs.Following.{begin, hopeless, marked, no_mark, refused, seen}
use Rattle.cstar_parser.proofs.reader.Reader.read_mode.Goals as goal

pub returns-in_err-expect-clause-follows : goal.returns-in_err-expect-clause-follows
returns-in_err-expect-clause-follows c =
    let p = err_from_is_err_and c.from_residual.result c.from_residual.ensures.1 in rw (p.1, p.2) (λ around few. refused _ (P.mark M.Comma) (P.segment_mode ∷ []) c.in_err-expect.ensures.stops begin)

pub returns-in_default-clause-follows : goal.returns-in_default-clause-follows
returns-in_default-clause-follows c =
    rw c.hopeless.ensures (λ around few. hopeless P.segment_mode [] (no_mark mode_words refuse _ c.in_default.ensures.missing) (marked (P.mark M.Comma) (P.segment_mode ∷ []) c.in_ok-expect.ensures.read refl (omega arith) begin))

pub returns-in_default-mode_of-clause-follows : goal.returns-in_default-mode_of-clause-follows
returns-in_default-mode_of-clause-follows c =
    rw c.hopeless-in_default-mode_of.ensures (λ around few. hopeless P.segment_mode [] (ap (act P.segment_mode) c.in-Some.ensures.found ∙ c.in_default-mode_of.ensures.missing) (marked (P.mark M.Comma) (P.segment_mode ∷ []) c.in_ok-expect.ensures.read refl (omega arith) begin))

pub returns-clause-follows : goal.returns-clause-follows
returns-clause-follows c =
    λ around few. seen c.in-Some.mark P.segment_mode [] c.in-Some.ensures.found c.take.ensures c.in-Some-mode_of.ensures.taken (omega arith) (marked (P.mark M.Comma) (P.segment_mode ∷ []) c.in_ok-expect.ensures.read refl (omega arith) begin)
