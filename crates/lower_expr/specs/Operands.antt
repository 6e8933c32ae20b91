-- Operands that stand in a register or a field already, that of a constant or a variable's own, and when
-- they may be used there.
use Rattle.std.specs.Prelude.{ℕ, Bool, true, false, not, ◌&&◌, ◌||◌, nat_le, if◌then◌else◌, List, [], ◌∷◌, Option, Some, None, is_none}
use Rattle.cstar_base.specs.Operators.{divides}
use Rattle.source_meaning.specs.Constants.{then_value}
use Rattle.cstar_tree.specs.declared.typed.TExpr.{TExpr, Row_of-TExpr, end_of-TExpr, more_of-TExpr}
use Rattle.cstar_tree.specs.declared.typed.TExpr as T
use Rattle.cstar_tree.specs.declared.typed.Typed.{Typed}
use Rattle.cstar_tree.specs.declared.typed.UnaryOp.{UnaryOp}
use Rattle.cstar_tree.specs.declared.typed.UnaryOp.TheVariants as Un
use Rattle.lower_base.specs.declared.emit.Out.{Out}
use Rattle.lower_base.specs.declared.emit.Out.TheVariants as O
use Rattle.lower_base.specs.Constants.{constant_register}
use Rattle.lower_base.specs.Drafts.{Draft, Made, Makes, then_make, first_bits}
use Rattle.lower_base.specs.Layouts.{Layout, register_of, field_of}
use Rattle.lower_expr.specs.declared.operands.Own.{Own}
use Rattle.lower_expr.specs.Kinds.{is_unchanged}
use Rattle.lower_expr.specs.Steps.{is_kept, register_word}

-- does the expression leave all variables, the turns, the input and the output as they are: it has
-- no assignment, no step, no call, no `printf` and no `getchar`
unfoldable mutual
  pub is_quiet : TExpr → Bool
  is_quiet (T.Choice' ty p test q first r second) = is_quiet test && is_quiet first && is_quiet second
  is_quiet (T.LogicalOr' ty p left q right) = is_quiet left && is_quiet right
  is_quiet (T.LogicalAnd' ty p left q right) = is_quiet left && is_quiet right
  is_quiet (T.Binary' ty place op p left q right) = is_quiet left && is_quiet right
  is_quiet (T.Unary' ty op p operand) = is_quiet operand
  is_quiet (T.Reduce' ty op p operand) = is_quiet operand
  is_quiet (T.Casts' ty elems p operand) = is_quiet operand
  is_quiet (T.ParallelCast' ty p operand) = is_quiet operand
  is_quiet (T.Convert' ty p operand) = is_quiet operand
  is_quiet (T.Promote' ty p operand) = is_quiet operand
  is_quiet (T.Variable ty x) = true
  is_quiet (T.Element' ty place array p index) = is_quiet index
  is_quiet (T.Number ty value) = true
  is_quiet (T.Dot ty axis) = true
  is_quiet (T.Brackets' ty p inner) = is_quiet inner
  is_quiet (T.LeftIndex' ty place p indexes x of) = are_quiet indexes
  is_quiet (T.Pcoord ty axis) = true
  is_quiet (T.PositionsOf ty shape value) = true
  is_quiet (T.RankOf ty shape value) = true
  is_quiet (T.DimOf ty shape axis value) = true
  is_quiet (T.Scan' ty p source axis combiner direction mode bit within) = is_quiet source
  is_quiet (T.Enumerate ty axis direction within mode bit) = true
  is_quiet _ = false

  pub are_quiet : {n : _} → Row_of-TExpr n → Bool
  are_quiet end_of-TExpr = true
  are_quiet (more_of-TExpr e rest) = is_quiet e && are_quiet rest

-- the same of a list as it stands in memory
unfoldable pub all_quiet : List TExpr → Bool
all_quiet [] = true
all_quiet (e ∷ rest) = is_quiet e && all_quiet rest

-- Does the expression have the same value under every context, with nothing changed and no fault? A
-- quotient may fault, as a checked index may, and what goes between positions depends on which are active.
unfoldable pub ignores_context : TExpr → Bool
ignores_context (T.Choice' ty p test q first r second) = ignores_context test && ignores_context first && ignores_context second
ignores_context (T.LogicalOr' ty p left q right) = ignores_context left && ignores_context right
ignores_context (T.LogicalAnd' ty p left q right) = ignores_context left && ignores_context right
ignores_context (T.Binary' ty place op p left q right) = not (divides op) && ignores_context left && ignores_context right
ignores_context (T.Unary' ty op p operand) = ignores_context operand
ignores_context (T.Casts' ty elems p operand) = ignores_context operand
ignores_context (T.ParallelCast' ty p operand) = ignores_context operand
ignores_context (T.Convert' ty p operand) = ignores_context operand
ignores_context (T.Promote' ty p operand) = ignores_context operand
ignores_context (T.Brackets' ty p inner) = ignores_context inner
ignores_context (T.Variable ty x) = true
ignores_context (T.Number ty value) = true
ignores_context (T.Dot ty axis) = true
ignores_context (T.Pcoord ty axis) = true
ignores_context (T.PositionsOf ty shape value) = true
ignores_context (T.RankOf ty shape value) = true
ignores_context (T.DimOf ty shape axis value) = true
ignores_context _ = false

-- The variable in whose own register or field so many bits of the value stand: a scalar one, or a
-- parallel one that is as long; a conversion that leaves these bits as they are has no code.
unfoldable pub own_of : ℕ → TExpr → Option Own
own_of bits (T.Variable ty x) =
    if is_none ty.shape || nat_le bits ty.elem.bits then Some (record { shape = ty.shape; variable = x }) else None
own_of bits (T.Brackets' ty p inner) = own_of bits inner
own_of bits (T.Promote' ty p operand) = own_of bits operand
own_of bits (T.Convert' ty p operand) = if is_unchanged bits ty.elem (is_kept operand) then own_of bits operand else None
own_of bits _ = None

-- that register, or so many bits of that field
unfoldable pub standing : Typed → Layout → ℕ → Own → Draft → Made Out
standing t l bits own d =
    elim own.shape [
      | None ↦ Makes (O.Scalar (register_of l own.variable)) d
      | Some _ ↦ then_make (field_of t l own.variable 0 d) (λ f after. Makes (O.Field (first_bits bits f)) after)
    ]

-- an operand is used where it stands if all is quiet that is evaluated before its use
unfoldable pub in_place : ℕ → Bool → TExpr → Option Own
in_place bits quiet e = if quiet then own_of bits e else None

-- the register in which the word of a scalar constant stands
unfoldable pub held : Layout → TExpr → Option ℕ
held l e = then_value (register_word e) (constant_register l)

-- so many bits of the value of an operand, which has this code where it does not stand anywhere
unfoldable pub operand_by : Typed → Layout → ℕ → (Draft → Made Out) → Bool → TExpr → Draft → Made Out
operand_by t l bits code quiet e d =
    elim (held l e) [
      | Some r ↦ Makes (O.Scalar r) d
      | None ↦ elim (in_place bits quiet e) [ Some own ↦ standing t l bits own d | None ↦ code d ]
    ]

-- how many instructions it has, by the length of that code
unfoldable pub operand_length : Layout → ℕ → ℕ → Bool → TExpr → ℕ
operand_length l bits n quiet e = elim (held l e) [ Some _ ↦ 0 | None ↦ elim (in_place bits quiet e) [ Some _ ↦ 0 | None ↦ n ] ]

-- the operator before an operand that has no code
unfoldable pub is_plus : UnaryOp → Bool
is_plus Un.Plus = true
is_plus _ = false
