-- The bits of a set when one block changes.
use Rattle.std.proofs.Common.{◌≡◌, ◌≢◌, ℕ, ◌+◌, ◌-◌, ◌/◌, ◌%◌, ◌<◌, ◌≤◌, ◌⊎◌, List, [], length, get_or, sym, ◌∙◌, ap, inl, inr, arith}
use Rattle.std.specs.Int.{bit_at}
use Rattle.std.proofs.Math.ListN.{set}
use Rattle.std.proofs.lemmas.Bool.{cases_eq}
use Rattle.bit_planes.specs.declared.block.Block.{Block}
use Rattle.bit_planes.specs.Bits.{bit}
use Rattle.bit_planes.specs.Planes.{plane_at, number, SetsNumber}
use Rattle.cstar_base.proofs.BitCuts.{bit_at-cut}
use Rattle.paris_code.specs.Memory.{run_number}
use Rattle.block_store.specs.Planes.{planes_in, planes_at, block_bit}
use Rattle.phase_meaning.proofs.Entries.{entry, entry_new, entry_other}
use Rattle.bit_planes.proofs.Planes.{number-bits}
use Rattle.block_store.proofs.Lanes.{run_is}

pub number_read : (blocks : List Block) (at offset len n : ℕ) (block : Block) → at / 512 < length blocks → block ≡ get_or blocks (at / 512) block
    → n ≡ number (planes_in block) offset len (at % 512) → n ≡ run_number (block_bit blocks at) offset len
unfolding block_bit
number_read blocks at offset len n block b is e =
    e ∙ ap (λ ps. number ps offset len (at % 512)) (entry planes_in blocks (at / 512) block [] b is)
    ∙ run_is (planes_at blocks (at / 512)) offset len (at % 512)

module _ (blocks : List Block) (at offset len n : ℕ) (block new : Block) (b : at / 512 < length blocks) (is : block ≡ get_or blocks (at / 512) block)
    (change : SetsNumber offset len (at % 512) n (planes_in block) (planes_in new)) where
  pub written_inside : (i : ℕ) → offset ≤ i → i < offset + len → block_bit (set blocks (at / 512) new) at i ≡ bit_at n (i - offset)
  unfolding block_bit
  written_inside i l h =
      ap (λ ps. bit (plane_at ps i) (at % 512)) (entry_new planes_in blocks (at / 512) new [] b)
      ∙ ap (λ k. bit (plane_at (planes_in new) k) (at % 512)) (let e : i ≡ offset + (i - offset) = omega arith in e)
      ∙ sym (number-bits (planes_in new) offset len (at % 512) (i - offset) (omega arith))
      ∙ ap (λ x. bit_at x (i - offset)) change.number ∙ bit_at-cut n len (i - offset) (omega arith)

  lane_outside : (p i : ℕ) → p / 512 ≡ at / 512 → (p ≢ at) ⊎ ((i < offset) ⊎ (offset + len ≤ i)) → bit (plane_at (planes_in new) i) (p % 512) ≡ bit (plane_at (planes_in block) i) (p % 512)
  lane_outside p i e (inl other) = change.other_rows i (p % 512) (omega arith) (λ same. other (omega arith))
  lane_outside p i e (inr out) = ap (λ q. bit q (p % 512)) (change.other_planes i out)

  pub written_outside : (p i : ℕ) → (p ≢ at) ⊎ ((i < offset) ⊎ (offset + len ≤ i)) → block_bit (set blocks (at / 512) new) p i ≡ block_bit blocks p i
  unfolding block_bit
  written_outside p i apart = elim (cases_eq (p / 512) (at / 512)) [
    | inr n ↦ ap (λ ps. bit (plane_at ps i) (p % 512)) (entry_other planes_in blocks (at / 512) new [] (p / 512) n)
    | inl e ↦
        ap (λ k. bit (plane_at (planes_at (set blocks (at / 512) new) k) i) (p % 512)) e
        ∙ ap (λ ps. bit (plane_at ps i) (p % 512)) (entry_new planes_in blocks (at / 512) new [] b)
        ∙ lane_outside p i e apart
        ∙ ap (λ ps. bit (plane_at ps i) (p % 512)) (entry planes_in blocks (at / 512) block [] b is)
        ∙ ap (λ k. bit (plane_at (planes_at blocks k) i) (p % 512)) (sym e)
  ]
