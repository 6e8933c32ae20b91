-- A cell for each block of each set.
use Rattle.std.proofs.Common.{ℕ, ◌<◌, ◌≤◌, List, [], ◌∷◌, All, length, sym, subst, arith}
use Rattle.std.proofs.lemmas.List.{get_or-map}
use Rattle.bit_planes.specs.declared.block.Block.{Block}
use Rattle.block_store.specs.declared.set.BlockSet.{BlockSet}
use Rattle.block_store.specs.Stored.{blocks_in, blocks_at, AreWhole}
use Rattle.block_store.proofs.Stores.{few_blocks}
use Rattle.paris_code.specs.Shapes.{SetShape}

-- where no set has more blocks than this, none of those with a number has
pub few_at : (sets : List BlockSet) (most : ℕ) → All (λ set. length set.blocks.items ≤ most) sets → (k : ℕ) → k < length sets → length (blocks_at sets k) ≤ most
few_at [] most few k b = absurd (omega arith)
few_at (set ∷ sets) most few k b = subst (λ (bs : List Block). length bs ≤ most) (sym (get_or-map blocks_in (set ∷ sets) k set [] b)) (few k set b)

-- in a whole store no set has more blocks than 2048
pub few_each : (shapes : List SetShape) (sets : List BlockSet) → AreWhole shapes sets → All (λ set. length set.blocks.items ≤ 2048) sets
few_each shapes sets whole = λ k set b.
    subst (λ (bs : List Block). length bs ≤ 2048) (get_or-map blocks_in sets k set [] b) (few_blocks shapes sets k whole (omega (arith, b, whole.count)))
