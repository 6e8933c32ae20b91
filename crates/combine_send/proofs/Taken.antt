-- The blocks that have taken their words are those of the write.
use Rattle.std.proofs.Common.{◌≡◌, ℕ, ◌+◌, ◌*◌, ◌/◌, ◌%◌, ◌^◌, List, ◌∙◌, ap, arith}
use Rattle.std.specs.Prelude.{slice_index}
use Rattle.vp_sets.specs.Positions.{position_count}
use Rattle.cstar_base.specs.Numbers.{converted}
use Rattle.bit_planes.specs.declared.plane.Plane.{Plane}
use Rattle.bit_planes.specs.Bits.{bit}
use Rattle.bit_planes.specs.Planes.{plane_at}
use Rattle.paris_code.specs.declared.operands.Field.{Field}
use Rattle.paris_code.specs.Fetching.{at_all}
use Rattle.paris_code.specs.Memory.{processors}
use Rattle.paris_code.specs.Sending.{word_kind}
use Rattle.paris_code.specs.Shapes.{SetShape, bits_at, extents_at}
use Rattle.phase_meaning.proofs.Widths.{cut_cut}
use Rattle.block_store.specs.Phases.{WrittenInBlock}
use Rattle.block_store.proofs.AllBlocks.{in_block}
use Rattle.combine_send.specs.declared.send.Send.{Send}
use Rattle.combine_send.specs.Back.{HasTaken}

-- a block that has taken its words is as the write has it
pub taken : (shapes : List SetShape) (send : Send) (words : List ℕ) (extents : List ℕ) (context k : ℕ) (old new : List Plane)
    → extents ≡ extents_at shapes send.dest.set → context ≡ bits_at shapes send.dest.set → HasTaken extents context send words k old new
    → WrittenInBlock shapes (at_all send.dest (λ t. converted send.kind word_kind (slice_index words t))) k old new
taken shapes send words extents context k old new grid at done =
    let d : Field = send.dest in
    let word : ℕ → ℕ = λ t. converted send.kind word_kind (slice_index words t) in
    let count : position_count extents ≡ processors shapes d.set = ap position_count grid in
    let place : (p : ℕ) → p / 512 ≡ k → 512 * k + p % 512 ≡ p = λ p e. omega (arith, e) in
    in_block shapes (at_all d word) k done.mask done.numbers old new done.written
    (λ p e b. done.lanes.takes (p % 512) (omega arith) (omega (arith, place p e, b, count)))
    (λ p e past off. done.lanes.quiet (p % 512) (omega arith) (omega (arith, place p e, past, count)) (ap (λ c. bit (plane_at old c) (p % 512)) at ∙ off))
    (λ p e b. ap (λ x. x % 2 ^ d.len) (done.gives (p % 512) (omega arith) (omega (arith, place p e, b, count)))
    ∙ cut_cut (word (512 * k + p % 512)) d.len d.len (omega arith) ∙ ap (λ q. word q % 2 ^ d.len) (place p e))
