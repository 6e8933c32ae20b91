use Rattle.std.proofs.Common.{◌∙◌, ℕ, List, length, ap, sym, subst, arith}
use Rattle.cstar_tree.specs.declared.token.Kind.{Kind}
use Rattle.cstar_tree.specs.declared.token.Kind.TheVariants as K
use Rattle.cstar_lexer.specs.Names.{names_of}
use Rattle.cstar_lexer.specs.Tokens.{IsFree, IsNamed}
use Rattle.cstar_lexer.specs.Tokens as T
use Rattle.cstar_lexer.proofs.lexer.name_kind.Goals as goal

pub returns-in-Some : goal.returns-in-Some
returns-in-Some c = T.reserved c.in-Some.ensures.found

pub returns-in-Some-get : goal.returns-in-Some-get
returns-in-Some-get c =
    let free : IsFree c.args.name.now = λ mark e. let empty = c.in_default.ensures.none mark e in omega (arith, c.requires, ap length empty) in
    subst (λ (k : Kind). IsNamed (names_of c.args.macros.now) c.args.name.now k) (sym c.number_kind.ensures) (T.defined free (sym c.get.ensures ∙ c.in-Some-get.is))

pub returns : goal.returns
returns c =
    let free : IsFree c.args.name.now = λ mark e. let empty = c.in_default.ensures.none mark e in omega (arith, c.requires, ap length empty) in
    let word = c.of.ensures ∙ c.in_ok-bytes.ensures.items in
    subst (λ (w : List ℕ). IsNamed (names_of c.args.macros.now) c.args.name.now (K.Name w)) (sym word) (T.name free (sym c.get.ensures ∙ c.in_default-get.is))
