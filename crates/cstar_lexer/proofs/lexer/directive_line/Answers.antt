use Rattle.std.proofs.Common.{◌∙◌, take, length-take-le, Some, arith, ap, subst, sym, refl}
use Rattle.std.proofs.lemmas.Result.{err_from_is_err_and}
use Rattle.cstar_lexer.specs.Directives as D
use Rattle.cstar_lexer.specs.Pieces.{DirectiveIs}
use Rattle.cstar_lexer.specs.declared.directive.Directive.{Directive}
use Rattle.cstar_lexer.proofs.DirectiveLemmas.{number_of_kept}
use Rattle.cstar_lexer.proofs.UnknownLemmas.{first_different, first_large, first_unknown, line_is, other_number, too_large}
use Rattle.cstar_lexer.proofs.lexer.directive_line.Goals as goal

pub returns-in-None-clause-refused : goal.returns-in-None-clause-refused
returns-in-None-clause-refused c =
    let ends = c.line_length-length.ensures in
    (c.line_length-length.result, line_is c.args.rest.now _ c.requires.stands c.requires.begins ends.within ends.one_line ends.whole, first_unknown c.in-None.ensures.none)

pub returns-in_ok-define-in-Some-None-clause-names : goal.returns-in_ok-define-in-Some-None-clause-names
returns-in_ok-define-in-Some-None-clause-names c =
    let define = subst (λ (d : Directive). DirectiveIs d (take c.line_length-length.result c.args.rest.now)) c.in-Some-Define.field-0-is c.in-Some-Define.ensures.found in
    D.define define.2 (number_of_kept define.0 _ _ c.number.result _ define.1 c.in-Some-None.is-0 c.number.ensures) (sym c.get.ensures ∙ c.in-Some-None.is-1) c.in_ok-define-in-Some-None.ensures

pub returns-in_err-define-in-Some-None-clause-refused : goal.returns-in_err-define-in-Some-None-clause-refused
returns-in_err-define-in-Some-None-clause-refused c =
    let ends = c.line_length-length.ensures in
    let line = line_is c.args.rest.now _ c.requires.stands c.requires.begins ends.within ends.one_line ends.whole in
    let p = err_from_is_err_and c.from_residual.result c.from_residual.ensures.1 in rw (p.1, p.2) (c.line_length-length.result, line, tt)

pub returns-then-not-is-clause-refused : goal.returns-then-not-is-clause-refused
returns-then-not-is-clause-refused c =
    let ends = c.line_length-length.ensures in
    let line = line_is c.args.rest.now _ c.requires.stands c.requires.begins ends.within ends.one_line ends.whole in
    let define = subst (λ (d : Directive). DirectiveIs d (take c.line_length-length.result c.args.rest.now)) c.in-Some-Define.field-0-is c.in-Some-Define.ensures.found in
    let is = number_of_kept define.0 _ _ c.number.result _ define.1 c.in-Some-Some.is-0 c.number.ensures in
    (c.line_length-length.result, line, first_different (omega (arith, line.some, length-take-le _ c.args.rest.now ends.within)) define.2 (sym c.get.ensures ∙ c.in-Some-Some.is-1) (other_number _ _ is (c.is.ensures.different c.if-not-is.true)))

pub returns-else-not-is-clause-names : goal.returns-else-not-is-clause-names
returns-else-not-is-clause-names c =
    let define = subst (λ (d : Directive). DirectiveIs d (take c.line_length-length.result c.args.rest.now)) c.in-Some-Define.field-0-is c.in-Some-Define.ensures.found in
    let same = c.is.ensures.same c.if-not-is.false in
    D.again define.2 (number_of_kept define.0 _ _ c.number.result _ define.1 c.in-Some-Some.is-0 c.number.ensures) (sym c.get.ensures ∙ (c.in-Some-Some.is-1 ∙ ap (λ n. Some n) (sym same))) refl

pub returns-in-None-Some-clause-refused : goal.returns-in-None-Some-clause-refused
returns-in-None-Some-clause-refused c =
    let ends = c.line_length-length.ensures in
    let line = line_is c.args.rest.now _ c.requires.stands c.requires.begins ends.within ends.one_line ends.whole in
    let define = subst (λ (d : Directive). DirectiveIs d (take c.line_length-length.result c.args.rest.now)) c.in-Some-Define.field-0-is c.in-Some-Define.ensures.found in
    let large = too_large define.0 _ _ c.number.result define.1 c.in-None-Some.is-0 c.number.ensures in
    (c.line_length-length.result, line, first_different (omega (arith, line.some, length-take-le _ c.args.rest.now ends.within)) define.2 (sym c.get.ensures ∙ c.in-None-Some.is-1) (λ n. omega (arith, large, n.0)))

pub returns-in-None-None-clause-refused : goal.returns-in-None-None-clause-refused
returns-in-None-None-clause-refused c =
    let ends = c.line_length-length.ensures in
    let line = line_is c.args.rest.now _ c.requires.stands c.requires.begins ends.within ends.one_line ends.whole in
    let define = subst (λ (d : Directive). DirectiveIs d (take c.line_length-length.result c.args.rest.now)) c.in-Some-Define.field-0-is c.in-Some-Define.ensures.found in
    let large = too_large define.0 _ _ c.number.result define.1 c.in-None-None.is-0 c.number.ensures in
    (c.line_length-length.result, line, first_large define.2 (sym c.get.ensures ∙ c.in-None-None.is-1) large)
