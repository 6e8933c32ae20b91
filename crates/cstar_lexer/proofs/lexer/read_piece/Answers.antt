use Rattle.std.proofs.Common.{◌≡◌, true, inl, inr}
use Rattle.std.specs.Prelude.{slice_index}
use Rattle.std.proofs.lemmas.Result.{err_from_is_err_and}
use Rattle.cstar_lexer.specs.Reading.{IsBlank}
use Rattle.cstar_lexer.proofs.FirstLemmas.{first_comment, first_line, first_token}
use Rattle.cstar_lexer.proofs.lexer.read_piece.Goals as goal
use Rattle.cstar_lexer.proofs.lexer.read_piece.Goals.{else-byte-eq35-via-else-byte-eq35, else-byte-eq35-via-then-byte-eq35+else-is_fresh}

pub returns-in_err-directive_line-clause-refused : goal.returns-in_err-directive_line-clause-refused
returns-in_err-directive_line-clause-refused c =
    let p = err_from_is_err_and c.from_residual.result c.from_residual.ensures.1 in
    let told = c.in_err-directive_line.ensures.refused in
    rw (p.1, p.2) (first_line c.args.is_fresh _ c.args.rest.now _ c.if-is_fresh.true told.1 told.2)

pub returns-in-None-clause-refused : goal.returns-in-None-clause-refused
returns-in-None-clause-refused c = first_comment (c.opens_comment.ensures.opens c.if-opens_comment.true) c.in-None.ensures.none

pub returns-in_err-kind-clause-refused : goal.returns-in_err-kind-clause-refused
returns-in_err-kind-clause-refused c =
    let p = err_from_is_err_and c.from_residual-in_err-kind.result c.from_residual-in_err-kind.ensures.1 in
    let no_blank : IsBlank (slice_index c.args.rest.now 0) → ⊥ = λ blank. elim blank [ inl inner ↦ cc (c.is_blank.ensures, c.if-is_blank.false) | inr newline ↦ c.if-byte-eq10.false newline ] in
    let no_line : c.args.is_fresh ≡ true → slice_index c.args.rest.now 0 ≡ 35 → ⊥ = λ fresh hash. elim c.else-byte-eq35.branch [
      | else-byte-eq35-via-then-byte-eq35+else-is_fresh w ↦ cc (w.if-is_fresh.false)
      | else-byte-eq35-via-else-byte-eq35 w ↦ w.if-byte-eq35.false hash
    ] in
    rw (p.1, p.2) (first_token c.args.is_fresh _ c.args.rest.now _ (c.opens_comment.ensures.none c.if-opens_comment.false) no_blank no_line c.in_err-kind.ensures.refused)
