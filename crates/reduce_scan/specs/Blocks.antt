-- The fold of a block.
use Rattle.std.specs.Prelude.{ℕ, zero, suc, not, ◌==◌, List, [], map, slice_index, slice_index_or}
use Rattle.block_store.specs.declared.set.Cell.{Cell}
use Rattle.block_store.specs.Stored.{words_in}
use Rattle.cstar_base.specs.Folds.{fold_once, identity_of}
use Rattle.cstar_base.specs.Numbers.{number_of, residue}
use Rattle.bit_planes.specs.declared.plane.Plane.{Plane}
use Rattle.bit_planes.specs.Bits.{bit}
use Rattle.bit_planes.specs.Planes.{plane_at, number}
use Rattle.paris_code.specs.declared.operands.Field.{Field}
use Rattle.paris_code.specs.declared.operands.Reduction.{Reduction}
use Rattle.paris_code.specs.Operators.{combiner_of}
use Rattle.cstar_base.specs.Orders.{fold_below}

-- the number of a lane as the word that a fold takes: read signed where the combiner does
unfoldable pub lane_word : Reduction → List Plane → Field → ℕ → ℕ
lane_word c planes a i = residue 32 (number_of a.len (not (combiner_of c).1) (number planes a.offset a.len i))

-- over the first lanes of a block, those whose context is 1
abbrev pub block_fold : Reduction → List Plane → Field → ℕ → ℕ → ℕ
block_fold c planes a context n =
    fold_below (λ total v. fold_once (combiner_of c).0 (combiner_of c).1 total v) (λ i. bit (plane_at planes context) i == 1) (λ i. lane_word c planes a i)
    (identity_of (combiner_of c).0 (combiner_of c).1) n

-- the folds of the first blocks, as their cells hold them, joined in order
unfoldable pub joined_folds : Reduction → List Cell → ℕ → ℕ
joined_folds c cells zero = identity_of (combiner_of c).0 (combiner_of c).1
joined_folds c cells (suc n) = fold_once (combiner_of c).0 (combiner_of c).1 (joined_folds c cells n) (slice_index (slice_index_or (map words_in cells) n []) 0)
