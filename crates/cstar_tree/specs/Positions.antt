-- What stands at a position of a list of tokens.
use Rattle.std.specs.Prelude.{◌≡◌, ℕ, ◌+◌, List, Option, Some}
use Rattle.std.specs.Option.{option_map}
use Rattle.std.specs.List.{slice_get}
use Rattle.cstar_base.specs.declared.operators.Place.{Place}
use Rattle.cstar_tree.specs.declared.token.Token.{Token}
use Rattle.cstar_tree.specs.declared.token.Kind.{Kind}
use Rattle.cstar_tree.specs.declared.token.Kind.TheVariants as K
use Rattle.cstar_tree.specs.declared.token.Mark.{Mark}

-- the kind and the place of the token at a position, if one stands there
unfoldable pub token_kind : List Token → ℕ → Option Kind
token_kind tokens at = option_map (λ (t : Token). t.kind) (slice_get tokens at)

unfoldable pub token_place : List Token → ℕ → Option Place
token_place tokens at = option_map (λ (t : Token). t.place) (slice_get tokens at)

-- a token of this kind and place stands at a position, and `next` is the position behind it
pub record Stands (tokens : List Token) (at : ℕ) (kind : Kind) (place : Place) (next : ℕ) : Type 0 where
  pub kind_is : token_kind tokens at ≡ Some kind
  pub place_is : token_place tokens at ≡ Some place
  pub next_is : next ≡ at + 1

-- a reserved word or punctuator does
abbrev pub StandsMark : List Token → ℕ → Mark → Place → ℕ → Type 0
StandsMark tokens at mark place next = Stands tokens at (K.Mark mark) place next
