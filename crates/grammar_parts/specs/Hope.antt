-- Which beginnings of a text have hope, and where a level or an operator is too many.
use Rattle.std.specs.Prelude.{◌≡◌, ℕ, ◌+◌, ◌<◌, true, List, length, take, map, Some}
use Rattle.cstar_tree.specs.declared.token.Token.{Token}
use Rattle.cstar_tree.specs.declared.token.Kind.{Kind}
use Rattle.cstar_tree.specs.declared.syntax.Item.{Item}
use Rattle.cstar_tree.specs.Items.{AreItems}
use Rattle.grammar_parts.specs.Verdicts.{State, Verdict, depth_at, is_deep, read, start, state_behind, syntax_at}

abbrev pub kinds : List Token → List Kind
kinds tokens = map (λ (t : Token). t.kind) tokens

-- some text of the grammar begins with tokens of the kinds of the first n; behind the last token stands
-- the end, so that from n above their number on the text has exactly these kinds
pub record HasHope (tokens : List Token) (n : ℕ) : Type 0 where
  pub whole : List Token
  pub begins : take n (kinds whole) ≡ take n (kinds tokens)
  pub items : List Item
  pub spelled : AreItems whole 0 items (length whole)

-- the token is the first with which no text goes on
pub record IsFirstHopeless (tokens : List Token) (token : ℕ) : Type 0 where
  pub before : HasHope tokens token
  pub none : HasHope tokens (token + 1) → ⊥

-- the token opens a level or is an operator too many of a text that begins with the tokens up to it
pub record IsTooDeep (tokens : List Token) (token : ℕ) : Type 0 where
  pub hope : HasHope tokens (token + 1)
  pub state : State
  pub reached : state_behind start (take (token + 1) (kinds tokens)) ≡ Some state
  pub deep : is_deep state ≡ true

-- the verdict on the tokens of a text is right: syntax at the first hopeless token, where none before it
-- is too deep, and depth at the first that is
abbrev pub IsRight : List Token → Verdict → Type 0
IsRight tokens read = (token : ℕ) → IsTooDeep tokens token → ⊥
IsRight tokens (syntax_at k) = IsFirstHopeless tokens k × ((token : ℕ) → IsTooDeep tokens token → ⊥)
IsRight tokens (depth_at k) = IsTooDeep tokens k × ((token : ℕ) → token < k → IsTooDeep tokens token → ⊥)
