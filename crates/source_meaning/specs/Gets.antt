-- Left indexes: the position that they name, and what is read there.
use Rattle.std.specs.Prelude.{ℕ, ℤ, pos, Bool, true, false, ◌&&◌, int_lt, int_le, unsigned_abs, List, [], ◌∷◌}
use Rattle.vp_sets.specs.Positions.{number_at}
use Rattle.cstar_base.specs.declared.elem.Elem.{Elem}
use Rattle.cstar_base.specs.Numbers.{number_of}
use Rattle.cstar_tree.specs.declared.typed.Variable.{Variable}
use Rattle.source_meaning.specs.State.{State}
use Rattle.source_meaning.specs.Values.{Value, at}

-- the value of an index or of an argument, with its element type
pub record Operand : Type 0 where
  pub elem : Elem
  pub value : Value

-- the number that an index stands for at a position, by its own type
unfoldable pub index_at : Operand → ℕ → ℤ
index_at index p = number_of index.elem.bits index.elem.signed (at index.value p)

-- does a number lie within an extent
unfoldable pub is_within : ℕ → ℤ → Bool
is_within extent i = int_le (pos 0) i && int_lt i (pos extent)

-- does each index lie within its extent
unfoldable pub are_within : List ℕ → List Operand → ℕ → Bool
are_within [] indexes p = true
are_within (extent ∷ extents) [] p = false
are_within (extent ∷ extents) (index ∷ indexes) p = is_within extent (index_at index p) && are_within extents indexes p

-- the coordinates that indexes name at a position
unfoldable pub coordinates_of : List Operand → ℕ → List ℕ
coordinates_of [] p = []
coordinates_of (index ∷ indexes) p = unsigned_abs (index_at index p) ∷ coordinates_of indexes p

-- the number of the position, of a shape with these extents, that indexes name at a position
unfoldable pub named_by : List ℕ → List Operand → ℕ → ℕ
named_by extents indexes p = number_at extents (coordinates_of indexes p)

-- a get: at each position the value at its target, active there or not
unfoldable pub gotten : State → Variable → (ℕ → ℕ) → ℕ → ℕ
gotten st x to p = st.parallel x 0 (to p)
