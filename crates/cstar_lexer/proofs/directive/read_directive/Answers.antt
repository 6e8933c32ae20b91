use Rattle.std.proofs.Common.{◌∙◌, ℕ, List, drop, ap, sym, subst, refl, arith, length, length-drop}
use Rattle.cstar_lexer.specs.Directives.{IsEmptyEnd, behind_blanks}
use Rattle.cstar_lexer.proofs.DirectiveLemmas.{define_is}
use Rattle.cstar_lexer.proofs.UnknownLemmas.{named_here, no_end, no_figure, no_letter, no_named, no_reserved, no_valued, no_word, unknown_header, unknown_word, valued_here}
use Rattle.cstar_lexer.proofs.directive.read_directive.Goals as goal

pub returns-in-Some-clause-none : goal.returns-in-Some-clause-none
returns-in-Some-clause-none c =
    let words = c.behind_blanks-words.ensures.is ∙ ap (λ (xs : List ℕ). behind_blanks xs) c.tail.ensures in
    unknown_header c.args.line.now _ _ words c.in-Some.ensures.cases.0 c.in-Some.ensures.cases.1 c.include.result c.include.ensures.none

pub returns-in_err-strip_prefix-clause-none : goal.returns-in_err-strip_prefix-clause-none
returns-in_err-strip_prefix-clause-none c =
    let words = c.behind_blanks-words.ensures.is ∙ ap (λ (xs : List ℕ). behind_blanks xs) c.tail.ensures in
    rw c.from_residual.ensures (unknown_word c.args.line.now _ words c.in_default.ensures.cases (no_word c.args.line.now _ words c.in_err-strip_prefix.ensures.cases))

pub returns-in_err-named-clause-none : goal.returns-in_err-named-clause-none
returns-in_err-named-clause-none c =
    let words = c.behind_blanks-words.ensures.is ∙ ap (λ (xs : List ℕ). behind_blanks xs) c.tail.ensures in
    let file = c.in_ok-strip_prefix.ensures.cases.1 ∙ ap (λ (xs : List ℕ). drop 6 xs) words in
    rw c.from_residual-in_err-named.ensures (unknown_word c.args.line.now _ words c.in_default.ensures.cases (no_named c.args.line.now _ file c.in_err-named.ensures.none))

pub returns-then-not-begins_name-clause-none : goal.returns-then-not-begins_name-clause-none
returns-then-not-begins_name-clause-none c =
    let words = c.behind_blanks-words.ensures.is ∙ ap (λ (xs : List ℕ). behind_blanks xs) c.tail.ensures in
    let named = named_here c.args.line.now _ _ _ words c.in_ok-strip_prefix.ensures.cases.1 c.in_ok-named.ensures.is in
    unknown_word c.args.line.now _ words c.in_default.ensures.cases (no_letter c.args.line.now _ named (cc))

pub returns-then-is_some-clause-none : goal.returns-then-is_some-clause-none
returns-then-is_some-clause-none c =
    let words = c.behind_blanks-words.ensures.is ∙ ap (λ (xs : List ℕ). behind_blanks xs) c.tail.ensures in
    let named = named_here c.args.line.now _ _ _ words c.in_ok-strip_prefix.ensures.cases.1 c.in_ok-named.ensures.is in
    unknown_word c.args.line.now _ words c.in_default.ensures.cases (no_reserved c.args.line.now _ _ _ c.reserved.result named c.name_length.ensures.run c.split_at.ensures.front (sym c.is_some.ensures ∙ c.if-is_some.true) c.reserved.ensures.found)

pub returns-in_err-valued-clause-none : goal.returns-in_err-valued-clause-none
returns-in_err-valued-clause-none c =
    let words = c.behind_blanks-words.ensures.is ∙ ap (λ (xs : List ℕ). behind_blanks xs) c.tail.ensures in
    let named = named_here c.args.line.now _ _ _ words c.in_ok-strip_prefix.ensures.cases.1 c.in_ok-named.ensures.is in
    rw c.from_residual-in_err-valued.ensures (unknown_word c.args.line.now _ words c.in_default.ensures.cases (no_valued c.args.line.now _ _ _ named c.name_length.ensures.run c.split_at.ensures.back c.in_err-valued.ensures.none))

pub returns-then-not-is_figure-clause-none : goal.returns-then-not-is_figure-clause-none
returns-then-not-is_figure-clause-none c =
    let words = c.behind_blanks-words.ensures.is ∙ ap (λ (xs : List ℕ). behind_blanks xs) c.tail.ensures in
    let named = named_here c.args.line.now _ _ _ words c.in_ok-strip_prefix.ensures.cases.1 c.in_ok-named.ensures.is in
    let valued = valued_here c.args.line.now _ _ _ _ named c.name_length.ensures.run c.split_at.ensures.back c.in_ok-valued.ensures.is in
    unknown_word c.args.line.now _ words c.in_default.ensures.cases (no_figure c.args.line.now _ valued (cc))

pub returns-then-not-is_empty_end-clause-none : goal.returns-then-not-is_empty_end-clause-none
returns-then-not-is_empty_end-clause-none c =
    let words = c.behind_blanks-words.ensures.is ∙ ap (λ (xs : List ℕ). behind_blanks xs) c.tail.ensures in
    let named = named_here c.args.line.now _ _ _ words c.in_ok-strip_prefix.ensures.cases.1 c.in_ok-named.ensures.is in
    let valued = valued_here c.args.line.now _ _ _ _ named c.name_length.ensures.run c.split_at.ensures.back c.in_ok-valued.ensures.is in
    let kept = c.read_constant-constant.ensures.longest in
    unknown_word c.args.line.now _ words c.in_default.ensures.cases (no_end c.args.line.now _ _ _ _ valued kept.constant (λ h. c.is_empty_end.ensures.other c.if-not-is_empty_end.true (subst (λ (xs : List ℕ). IsEmptyEnd xs) (sym c.tail-2.ensures) h)))

pub returns-clause-found : goal.returns-clause-found
returns-clause-found c =
    let kept = c.read_constant-constant.ensures.longest in
    let words = c.behind_blanks-words.ensures.is ∙ ap (λ (xs : List ℕ). behind_blanks xs) c.tail.ensures in
    let cases = c.in_ok-strip_prefix.ensures.cases in
    let named = c.in_ok-named.ensures.is in
    let valued = c.in_ok-valued.ensures.is in
    let ends = subst (λ (xs : List ℕ). IsEmptyEnd xs) c.tail-2.ensures (c.is_empty_end.ensures.empty c.if-not-is_empty_end.false) in
    (kept.value, kept.cut, define_is c.args.line.now _ _ _ _ _ _ c.name_length.result _ _ _ _ c.reserved.result words cases.0 cases.1 named (cc) c.name_length.ensures.run c.split_at.ensures.front c.split_at.ensures.back (sym c.is_some.ensures ∙ c.if-is_some.false) c.reserved.ensures.none valued (cc) kept.constant ends refl (omega (arith, c.in_ok-valued.ensures.shorter, c.split_at.ensures.back_len, c.in_ok-named.ensures.shorter, cases.2, c.behind_blanks-words.ensures.shorter, ap length c.tail.ensures, length-drop 1 c.args.line.now)))
