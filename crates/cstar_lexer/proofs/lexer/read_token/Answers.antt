use Rattle.std.proofs.Common.{sym, subst}
use Rattle.std.proofs.lemmas.Result.{err_from_is_err_and}
use Rattle.cstar_tree.specs.declared.token.Kind.{Kind}
use Rattle.cstar_lexer.specs.Names.{names_of}
use Rattle.cstar_lexer.specs.Tokens.{IsToken}
use Rattle.cstar_lexer.specs.Tokens as T
use Rattle.cstar_lexer.proofs.DirectiveLemmas.{word_long}
use Rattle.cstar_lexer.proofs.FirstLemmas.{first_byte, first_character, first_constant, first_text}
use Rattle.cstar_lexer.proofs.lexer.read_token.Goals as goal

pub name_kind-requires : goal.name_kind-requires
name_kind-requires c = word_long c.args.rest.now _ (cc) c.name_length-length.ensures.run

pub returns-then-begins_name-clause-taken : goal.returns-then-begins_name-clause-taken
returns-then-begins_name-clause-taken c = T.word (record { begins = cc; run = c.name_length-length.ensures.run }) c.in_ok-kind.ensures

pub returns-then-is_figure-clause-taken : goal.returns-then-is_figure-clause-taken
returns-then-is_figure-clause-taken c =
    subst (λ (k : Kind). IsToken (names_of c.args.macros.now) c.args.rest.now c.in_ok-number.length k) (sym c.number_kind.ensures) (T.constant c.in_ok-number.ensures.taken)

pub returns-then-byte-eq39-clause-taken : goal.returns-then-byte-eq39-clause-taken
returns-then-byte-eq39-clause-taken c =
    subst (λ (k : Kind). IsToken (names_of c.args.macros.now) c.args.rest.now c.in_ok-number-2.length k) (sym c.number_kind-then-byte-eq39.ensures) (T.character c.in_ok-number-2.ensures.taken)

pub returns-then-byte-eq34-clause-taken : goal.returns-then-byte-eq34-clause-taken
returns-then-byte-eq34-clause-taken c = T.text c.in_ok-word.ensures.taken

pub returns-in-Some-clause-taken : goal.returns-in-Some-clause-taken
returns-in-Some-clause-taken c = T.mark c.in-Some.ensures.found

pub returns-in_err-number-clause-refused : goal.returns-in_err-number-clause-refused
returns-in_err-number-clause-refused c =
    let p = err_from_is_err_and c.from_residual-in_err-number.result c.from_residual-in_err-number.ensures.1 in rw (p.1, p.2) (first_constant (cc) c.in_err-number.ensures.refused)

pub returns-in_err-number-2-clause-refused : goal.returns-in_err-number-2-clause-refused
returns-in_err-number-2-clause-refused c =
    let p = err_from_is_err_and c.from_residual-in_err-number-2.result c.from_residual-in_err-number-2.ensures.1 in rw (p.1, p.2) (first_character c.if-byte-eq39.true c.in_err-number-2.ensures.refused)

pub returns-in_err-word-clause-refused : goal.returns-in_err-word-clause-refused
returns-in_err-word-clause-refused c =
    let p = err_from_is_err_and c.from_residual-in_err-word.result c.from_residual-in_err-word.ensures.1 in rw (p.1, p.2) (first_text c.args.rest.now _ c.if-byte-eq34.true c.in_err-word.ensures.refused)

pub returns-in-None-clause-refused : goal.returns-in-None-clause-refused
returns-in-None-clause-refused c = first_byte (record {
  some = c.requires;
  no_word = cc;
  no_constant = cc;
  no_character = c.if-byte-eq39.false;
  no_text = c.if-byte-eq34.false;
  no_mark = c.in-None.ensures.none;
})
