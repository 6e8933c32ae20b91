-- The numbers of a text, and those of its shapes, as words of 32 bits.
use Rattle.std.specs.Prelude.{ℕ, ◌<◌, ◌^◌, List, length}
use Rattle.std.specs.List.{All}
use Rattle.cstar_tree.specs.declared.syntax.Expr.{Expr}
use Rattle.cstar_tree.specs.declared.syntax.Expr as E
use Rattle.cstar_tree.specs.Constants.{product}
use Rattle.cstar_tree.specs.Scopes.{Here}

-- The numbers in an expression are words, as far as the forms of constants go. The axis of a `dimof`
-- does not count: the typed tree has only the extent that it names.
unfoldable pub HasWords : Expr → Type 0
HasWords (E.Number p value u) = value < 2 ^ 32
HasWords (E.Brackets' p _ inner) = HasWords inner
HasWords (E.Casts' casts _ operand) = HasWords operand
HasWords (E.Prefix' p op _ operand) = HasWords operand
HasWords (E.Binary' p op _ left _ right) = HasWords left × HasWords right
HasWords (E.Choice' p _ test _ second _ third) = HasWords test × HasWords second × HasWords third
HasWords _ = Unit {0}

-- the number of positions, the number of axes and the extents of a shape are words
pub record IsCounted (extents : List ℕ) : Type 0 where
  pub positions : product extents < 2 ^ 32
  pub rank : length extents < 2 ^ 32
  pub each : All (λ n. n < 2 ^ 32) extents

-- so are those of each shape that is known at a place
abbrev pub HasFewPositions : Here → Type 0
HasFewPositions here = All IsCounted here.shapes
