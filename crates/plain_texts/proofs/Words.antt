-- The tokens of a text have words for numbers, and no more of them stand than bytes.
use Rattle.std.proofs.Common.{◌≡◌, ℕ, zero, suc, ◌+◌, ◌<◌, ◌≤◌, ◌^◌, Bool, true, false, nat_lt, List, [], ◌∷◌, length, if◌then◌else◌, Option, Some, unwrap_or, arith, refl, sym, ap, ◌∙◌, subst}
use Rattle.std.specs.List.{All}
use Rattle.std.specs.Map.{lookup}
use Rattle.std.proofs.lemmas.List.Elements.{All-nil, All-cons, All-head, All-tail, All-push, All-append}
use Rattle.std.proofs.lemmas.Map.Entries.{lookup_head, lookup_tail}
use Rattle.std.proofs.lemmas.List.{length-append}
use Rattle.cstar_lexer.proofs.TokenLemmas.{token_some}
use Rattle.cstar_lexer.specs.Directives.{IsDirective}
use Rattle.cstar_lexer.specs.Directives as D
use Rattle.cstar_lexer.specs.Names.{Names}
use Rattle.cstar_lexer.specs.Quoted.{character}
use Rattle.cstar_lexer.specs.Reading.{IsNext, IsText, Point, Reads}
use Rattle.cstar_lexer.specs.Reading as R
use Rattle.cstar_lexer.specs.Tokens.{IsNamed, IsToken}
use Rattle.cstar_lexer.specs.Tokens as T
use Rattle.cstar_lexer.specs.declared.number.Number.{Number}
use Rattle.cstar_tree.specs.declared.token.Kind.{Kind}
use Rattle.cstar_tree.specs.declared.token.Kind.TheVariants as K
use Rattle.cstar_tree.specs.declared.token.Token.{Token}
use Rattle.cstar_tree.specs.Positions.{token_kind}
use Rattle.plain_texts.specs.Laws.{HasWords}

-- a defined number is a word, and so is the number of a token
abbrev IsWord : List ℕ × Number → Type 0
IsWord e = e.1.value < 2 ^ 32

abbrev IsWordToken : Token → Type 0
IsWordToken t = (value : ℕ) (unsigned : Bool) → t.kind ≡ K.Num value unsigned → value < 2 ^ 32

found : (test : List ℕ → Bool) (names : Names) (number : Number) → All IsWord names → lookup test names ≡ Some number → number.value < 2 ^ 32
found test [] number all s = absurd (cc)
found test (e ∷ es) number all s = by (test e.0) refl (found test es number (All-tail IsWord e es all)) where
  by : (b : Bool) → test e.0 ≡ b → (lookup test es ≡ Some number → number.value < 2 ^ 32) → number.value < 2 ^ 32
  by true is rest = subst (λ (n : Number). n.value < 2 ^ 32) (ap (λ (o : Option Number). unwrap_or o number) (sym (lookup_head test e es is) ∙ s)) (All-head IsWord e es all)
  by false is rest = rest (sym (lookup_tail test e es is) ∙ s)

byte_word : (byte : ℕ) → byte < 256 → character byte < 2 ^ 32
byte_word byte small = by (nat_lt byte 128) where
  by : (b : Bool) → (if b then byte else byte + 4294967040) < 2 ^ 32
  by true = omega (arith, small)
  by false = omega (arith, small)

abbrev is_below : Kind → Type 0
is_below kind = (value : ℕ) (unsigned : Bool) → kind ≡ K.Num value unsigned → value < 2 ^ 32

number_below : (number : Number) → number.value < 2 ^ 32 → is_below (K.Num number.value number.unsigned)
number_below number below value unsigned is = subst (λ (v : ℕ). v < 2 ^ 32) (cc (is)) below

named_below : {names : Names} {word : List ℕ} {kind : Kind} → All IsWord names → IsNamed names word kind → is_below kind
named_below all (T.reserved e) = λ value unsigned is. absurd (cc (is))
named_below {names} all (T.defined {number = number} free s) = number_below number (found _ names number all s)
named_below all (T.name free s) = λ value unsigned is. absurd (cc (is))

token_below : {names : Names} {bytes : List ℕ} {n : ℕ} {kind : Kind} → All IsWord names → IsToken names bytes n kind → is_below kind
token_below all (T.word w named) = named_below all named
token_below all (T.constant {number = number} c) = number_below number (subst (λ (v : ℕ). v < 2 ^ 32) (sym c.stands_for.1) c.stands_for.0)
token_below all (T.character {number = number} c) = number_below number (subst (λ (v : ℕ). v < 2 ^ 32) (sym c.value) (byte_word c.byte c.small))
token_below all (T.text q) = λ value unsigned is. absurd (cc (is))
token_below all (T.mark m) = λ value unsigned is. absurd (cc (is))

defined : {old new : Names} {line : List ℕ} → All IsWord old → IsDirective old line new → All IsWord new
defined all (D.include a same) = subst (All IsWord) (sym same) all
defined {old} all (D.define {name = name} {number = number} a is none same) = subst (All IsWord) (sym same) (All-push IsWord old (name, number) all (subst (λ (v : ℕ). v < 2 ^ 32) (sym is.1) is.0))
defined all (D.again a b c same) = subst (All IsWord) (sym same) all

-- what a piece adds: its tokens have words, at most one for each of its bytes
record Adds (from to : Point) (tokens : List Token) : Type 0 where
  names : All IsWord to.names
  words : All IsWordToken tokens
  few : from.at + length tokens ≤ to.at

piece_adds : {bytes : List ℕ} {from to : Point} {tokens : List Token} → All IsWord from.names → IsNext bytes from to tokens → Adds from to tokens
piece_adds all (R.blank a b to_is none) =
    rw none (let e = ap (λ (p : Point). p.at) to_is in record { names = subst (All IsWord) (sym (ap (λ (p : Point). p.names) to_is)) all; words = All-nil IsWordToken; few = omega (arith, e) })
piece_adds all (R.comment a to_is none) =
    rw none (let e = ap (λ (p : Point). p.at) to_is in record { names = subst (All IsWord) (sym (ap (λ (p : Point). p.names) to_is)) all; words = All-nil IsWordToken; few = omega (arith, e) })
piece_adds all (R.line a b c to_is none) =
    rw none (let e = ap (λ (p : Point). p.at) to_is in record { names = subst (All IsWord) (sym (ap (λ (p : Point). p.names) to_is)) (defined all c); words = All-nil IsWordToken; few = omega (arith, e) })
piece_adds all (R.token t a b c d place to_is one) =
    rw one (let e = ap (λ (p : Point). p.at) to_is in let some = token_some b in record { names = subst (All IsWord) (sym (ap (λ (p : Point). p.names) to_is)) all; words = All-cons IsWordToken t [] (token_below all b) (All-nil IsWordToken); few = omega (arith, e, some) })

-- the tokens from a point on
record Rest (bytes : List ℕ) (from : Point) (tokens : List Token) : Type 0 where
  words : All IsWordToken tokens
  few : from.at + length tokens ≤ length bytes

rest_of : {bytes : List ℕ} {from : Point} {tokens : List Token} → All IsWord from.names → Reads bytes from tokens → Rest bytes from tokens
rest_of all (R.ends e none) = rw none (record { words = All-nil IsWordToken; few = omega (arith, e) })
rest_of {bytes} {from} all (R.next {first = first} {rest = rest} step text is) =
    let one = piece_adds all step in
    let others = rest_of one.names text in
    let count = length-append first rest in
    let a = one.few in
    let b = others.few in
    subst (Rest bytes from) (sym is) (record { words = All-append IsWordToken first rest one.words others.words; few = omega (arith, count, a, b) })

numbered : (tokens : List Token) (at value : ℕ) (unsigned : Bool) → All IsWordToken tokens → token_kind tokens at ≡ Some (K.Num value unsigned) → value < 2 ^ 32
unfolding token_kind
numbered [] at value unsigned all s = absurd (cc)
numbered (t ∷ rest) zero value unsigned all s = All-head IsWordToken t rest all value unsigned (ap (λ (o : Option Kind). unwrap_or o t.kind) s)
numbered (t ∷ rest) (suc i) value unsigned all s = numbered rest i value unsigned (All-tail IsWordToken t rest all) s

pub text_has_words : (bytes : List ℕ) (tokens : List Token) → length bytes < 2 ^ 32 → IsText bytes tokens → HasWords tokens
text_has_words bytes tokens short text =
    let all = rest_of (All-nil IsWord) text in
    let few = all.few in
    record { few = omega (arith, few, short); numbers = λ at value unsigned s. numbered tokens at value unsigned all.words s }
