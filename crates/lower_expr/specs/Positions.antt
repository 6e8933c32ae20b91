-- Left indexes that are constants within their extents: which position they lead to is known, and
-- nothing is checked.
use Rattle.std.specs.Prelude.{ℕ, ◌+◌, ◌*◌, if◌then◌else◌, nat_lt, List, [], ◌∷◌, slice_get, Option, Some, None, is_none}
use Rattle.cstar_tree.specs.declared.typed.TExpr.{TExpr, out-TExpr}
use Rattle.cstar_tree.specs.declared.typed.TExpr.TheOpen.{TExpr-F}
use Rattle.cstar_tree.specs.declared.typed.Typed.{Typed}
use Rattle.source_meaning.specs.Constants.{then_value}
use Rattle.lower_expr.specs.Steps.{register_word}

-- one more coordinate, within its extent
unfoldable pub with_coordinate : ℕ → ℕ → ℕ → Option ℕ
with_coordinate position extent coordinate = if nat_lt coordinate extent then Some (position * extent + coordinate) else None

-- the same of an index that is a constant
unfoldable pub with_index : ℕ → ℕ → TExpr → Option ℕ
with_index position extent index = then_value (register_word index) (with_coordinate position extent)

-- the position behind these coordinates, from that of those before
unfoldable pub position_from : ℕ → List ℕ → List TExpr → Option ℕ
position_from position [] [] = Some position
position_from position [] (index ∷ indexes) = None
position_from position (extent ∷ extents) [] = None
position_from position (extent ∷ extents) (index ∷ indexes) =
    then_value (with_index position extent index) (λ next. position_from next extents indexes)

-- the position with these coordinates in a shape
unfoldable pub position_in : Typed → ℕ → List TExpr → Option ℕ
position_in t of indexes = elim (slice_get t.shapes.items of) [ None ↦ None | Some info ↦ position_from 0 info.extents.items indexes ]

-- the position of a scalar left index
unfoldable pub known_position : Typed → TExpr → Option ℕ
known_position t e =
    elim (out-TExpr e) [
      | TExpr-F.LeftIndex ty place indexes x of ↦
          if is_none ty.shape then position_in t of indexes.items else None
      | _ ↦ None
    ]
