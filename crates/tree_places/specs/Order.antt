-- The order of places, and tokens whose places rise.
use Rattle.std.specs.Prelude.{◌≡◌, ◌≤◌, ℕ, Some}
use Rattle.cstar_base.specs.declared.operators.Place.{Place}
use Rattle.cstar_tree.specs.declared.token.Tokens.{Tokens}
use Rattle.cstar_tree.specs.Positions.{token_place}

-- the first place is not behind the second: on no later line, and on the same line in no later column
pub record NotBehind (p q : Place) : Type 0 where
  pub lines : p.line ≤ q.line
  pub columns : p.line ≡ q.line → p.col ≤ q.col

-- no token stands behind a later one, or behind the end
pub record Rise (tokens : Tokens) : Type 0 where
  pub rising : (i j : ℕ) (p q : Place) → i ≤ j → token_place tokens.list.items i ≡ Some p → token_place tokens.list.items j ≡ Some q → NotBehind p q
  pub ends : (i : ℕ) (p : Place) → token_place tokens.list.items i ≡ Some p → NotBehind p tokens.end
