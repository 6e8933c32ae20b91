-- The home words of a block are those of its positions.
use Rattle.std.proofs.Common.{◌≡◌, ℕ, ◌+◌, ◌*◌, ◌/◌, ◌%◌, ◌<◌, List, [], length, get_or, sym, ◌∙◌, ap, arith}
use Rattle.std.proofs.lemmas.List.{get_or-map}
use Rattle.cstar_base.specs.declared.operators.Winner.{Winner}
use Rattle.bit_planes.specs.declared.block.Block.{Block}
use Rattle.bit_planes.specs.Planes.{number}
use Rattle.paris_code.specs.declared.operands.Field.{Field}
use Rattle.paris_code.specs.Memory.{field_number}
use Rattle.block_store.specs.declared.set.BlockSet.{BlockSet}
use Rattle.block_store.specs.Planes.{planes_in, planes_at}
use Rattle.block_store.specs.Stored.{blocks_at, stored}
use Rattle.block_store.proofs.Fetches.{field_there}

-- the number of a lane of block k is that of its position
pub lane_number : (sets : List BlockSet) (v : Winner) (f : Field) (blocks : List Block) (k i : ℕ) (other : Block) → blocks ≡ blocks_at sets f.set → k < length blocks → i < 512
    → number (planes_in (get_or blocks k other)) f.offset f.len i ≡ field_number (stored sets v) f (512 * k + i)
lane_number sets v f blocks k i other same kb ib =
    let s : ℕ = 512 * k + i in
    ap (λ ps. number ps f.offset f.len i) (sym (get_or-map planes_in blocks k other [] kb) ∙ ap (λ bs. planes_at bs k) same ∙ ap (planes_at (blocks_at sets f.set)) (let e : k ≡ s / 512 = omega (arith, ib) in e))
    ∙ ap (number (planes_at (blocks_at sets f.set) (s / 512)) f.offset f.len) (let e : i ≡ s % 512 = omega (arith, ib) in e)
    ∙ field_there sets v f s
