use Rattle.std.proofs.Common.{ℕ, List, refl, subst}
use Rattle.cstar_lexer.specs.Quoted.{IsBad, IsCut, IsEscape}
use Rattle.cstar_lexer.specs.Quoted as Q
use Rattle.cstar_lexer.proofs.CharacterLemmas.{first_bad, first_empty, first_open, first_wide}
use Rattle.cstar_lexer.proofs.NumberLemmas.{told}
use Rattle.cstar_lexer.proofs.quoted.read_character.Goals as goal

pub returns-then-ends_line-clause-refused : goal.returns-then-ends_line-clause-refused
returns-then-ends_line-clause-refused c = told c.flaw.ensures.same c.flaw.ensures.at (first_open (Q.ended c.requires (c.ends_line.ensures.ends c.if-ends_line.true)))

pub returns-then-byte-eq39-clause-refused : goal.returns-then-byte-eq39-clause-refused
returns-then-byte-eq39-clause-refused c = told c.flaw-then-byte-eq39.ensures.same c.flaw-then-byte-eq39.ensures.at (first_empty c.requires c.if-byte-eq39.true)

pub closed-requires-clause-one : goal.closed-requires-clause-one
closed-requires-clause-one c = Q.plain (record { on_line = c.ends_line.ensures.goes_on c.if-ends_line.false; no_quote = c.if-byte-eq39.false; no_escape = c.if-byte-ne92.true }) refl refl

pub closed-requires-in-Byte-clause-one : goal.closed-requires-in-Byte-clause-one
closed-requires-in-Byte-clause-one c = Q.escape (subst (λ (xs : List ℕ). IsEscape xs c.in-Byte.length c.in-Byte.value) c.tail.ensures c.in-Byte.ensures.is.0)

pub returns-then-ends_line-2-clause-refused : goal.returns-then-ends_line-2-clause-refused
returns-then-ends_line-2-clause-refused c =
    let wide = c.in-Wide.ensures.is in
    let escape = subst (λ (xs : List ℕ). IsEscape xs c.in-Wide.length wide.0) c.tail.ensures wide.1 in
    told c.flaw-then-ends_line-2.ensures.same c.flaw-then-ends_line-2.ensures.at (first_open (Q.unclosed c.requires (Q.escape escape) (c.ends_line-in-Wide.ensures.ends c.if-ends_line-2.true)))

pub returns-else-ends_line-2-clause-refused : goal.returns-else-ends_line-2-clause-refused
returns-else-ends_line-2-clause-refused c =
    let wide = c.in-Wide.ensures.is in
    let escape = subst (λ (xs : List ℕ). IsEscape xs c.in-Wide.length wide.0) c.tail.ensures wide.1 in
    told c.flaw-else-ends_line-2.ensures.same c.flaw-else-ends_line-2.ensures.at (first_wide c.requires escape wide.2 (c.ends_line-in-Wide.ensures.goes_on c.if-ends_line-2.false))

pub returns-in-Bad-clause-refused : goal.returns-in-Bad-clause-refused
returns-in-Bad-clause-refused c =
    told c.flaw-in-Bad.ensures.same c.flaw-in-Bad.ensures.at (first_bad c.requires (subst (λ (xs : List ℕ). IsBad xs) c.tail.ensures c.in-Bad.ensures.is))

pub returns-in-Ends-clause-refused : goal.returns-in-Ends-clause-refused
returns-in-Ends-clause-refused c =
    told c.flaw-in-Ends.ensures.same c.flaw-in-Ends.ensures.at (first_open (Q.cut c.requires (subst (λ (xs : List ℕ). IsCut xs) c.tail.ensures c.in-Ends.ensures.is)))
