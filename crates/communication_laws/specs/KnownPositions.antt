-- The position of scalar indexes that are constants, which lowering computes, is the one that the language says.
use Rattle.std.specs.Prelude.{◌≡◌, ℕ, ◌<◌, ◌^◌, true, List, [], ◌∷◌, Some}
use Rattle.vp_sets.specs.Positions.{is_geometry}
use Rattle.cstar_tree.specs.declared.typed.TExpr.{TExpr}
use Rattle.lower_expr.specs.Positions.{position_from}
use Rattle.lower_expr.specs.Steps.{register_word}
use Rattle.source_meaning.specs.Gets.{Operand, are_within, named_by}
use Rattle.source_meaning.specs.Values.{at}
use Rattle.communication_laws.specs.Indexes.{index_word}

-- an index whose word lowering knows has that word
pub record HasItsWord (e : TExpr) (index : Operand) : Type 0 where
  pub word : (word : ℕ) → register_word e ≡ Some word → index_word index 0 ≡ word
  pub small : at index.value 0 < 2 ^ index.elem.bits

-- and so of as many
abbrev pub HaveTheirWords : List TExpr → List Operand → Type 0
HaveTheirWords [] [] = Unit {0}
HaveTheirWords (e ∷ es) (index ∷ indexes) = HasItsWord e index × HaveTheirWords es indexes
HaveTheirWords _ _ = ⊥

-- Where lowering knows a position, the indexes lie within their extents, and it is the number that they name.
abbrev pub KnownPositionsAreTheLanguages : Type 0
KnownPositionsAreTheLanguages =
    (extents : List ℕ) (es : List TExpr) (indexes : List Operand) (position : ℕ) → is_geometry extents ≡ true → HaveTheirWords es indexes
    → position_from 0 extents es ≡ Some position → (are_within extents indexes 0 ≡ true) × (named_by extents indexes 0 ≡ position)
