-- The memory of a store when the blocks of one set change.
use Rattle.std.proofs.Common.{◌≡◌, ◌≢◌, ℕ, ◌+◌, ◌-◌, ◌*◌, ◌/◌, ◌<◌, ◌≤◌, ◌⊎◌, List, [], length, get_or, sym, ◌∙◌, ap, subst, inl, inr, refl, arith}
use Rattle.std.specs.Int.{bit_at}
use Rattle.std.proofs.Math.ListN.{set, length-set}
use Rattle.std.proofs.lemmas.Bool.{cases_eq}
use Rattle.vp_sets.specs.Positions.{position_count}
use Rattle.vp_sets.specs.Blocks.{block_count}
use Rattle.vp_sets.proofs.PositionLaws.{geometry_parts}
use Rattle.cstar_base.specs.declared.operators.Winner.{Winner}
use Rattle.bit_planes.specs.declared.block.Block.{Block}
use Rattle.paris_code.specs.declared.operands.Field.{Field}
use Rattle.paris_code.specs.Fetching.{at_one}
use Rattle.paris_code.specs.Memory.{SameBits, processors}
use Rattle.paris_code.specs.Shapes.{SetShape, no_shape, bits_at, extents_at}
use Rattle.paris_code.specs.Writes.{written}
use Rattle.block_store.specs.declared.set.BlockSet.{BlockSet}
use Rattle.block_store.specs.Planes.{block_bit, HasPlanes}
use Rattle.block_store.specs.Stored.{blocks_in, blocks_at, stored, IsWholeSet, AreWhole}
use Rattle.phase_meaning.proofs.Entries.{entry, entry_new, entry_other}
use Rattle.phase_meaning.proofs.RunWrites.{set_written}

pub block_exists : (extents : List ℕ) (p : ℕ) → p < position_count extents → p / 512 < block_count extents
unfolding block_count
block_exists extents p b = omega arith

module _ (sets : List BlockSet) (k : ℕ) (old new : BlockSet) (b : k < length sets) (is : old ≡ get_or sets k old) where
  pub blocks_old : blocks_in old ≡ blocks_at sets k
  blocks_old = entry blocks_in sets k old [] b is

  pub blocks_new : blocks_at (set sets k new) k ≡ blocks_in new
  blocks_new = entry_new blocks_in sets k new [] b

  pub blocks_other : (j : ℕ) → j ≢ k → blocks_at (set sets k new) j ≡ blocks_at sets j
  blocks_other j n = entry_other blocks_in sets k new [] j n

  -- the store stays whole where the set does
  pub whole_kept : (shapes : List SetShape) → (IsWholeSet shapes k (blocks_in old) → IsWholeSet shapes k (blocks_in new)) → AreWhole shapes sets → AreWhole shapes (set sets k new)
  whole_kept shapes keeps whole = record {
    count = length-set sets k new ∙ whole.count;
    grids = whole.grids;
    each = λ s exists. elim (cases_eq s k) [
      | inl e ↦
          let Whole : List Block → Type 0 = λ bs. IsWholeSet shapes k bs in
          subst (λ j. IsWholeSet shapes j (blocks_at (set sets k new) j)) (sym e)
          (subst Whole (sym blocks_new) (keeps (subst Whole (sym blocks_old) (whole.each k (subst (λ j. j < length shapes) e exists)))))
      | inr n ↦ subst (λ (bs : List Block). IsWholeSet shapes s bs) (sym (blocks_other s n)) (whole.each s exists)
    ];
  }

  -- one position is written
  pub one_written : (shapes : List SetShape) (run : Field) (at n : ℕ) (w : Winner) → k ≡ run.set
      → ((i : ℕ) → run.offset ≤ i → i < run.offset + run.len → block_bit (blocks_in new) at i ≡ bit_at n (i - run.offset))
      → ((p i : ℕ) → (p ≢ at) ⊎ ((i < run.offset) ⊎ (run.offset + run.len ≤ i)) → block_bit (blocks_in new) p i ≡ block_bit (blocks_in old) p i)
      → SameBits shapes (stored (set sets k new) w) (written (at_one run at n) (stored sets w))
  unfolding stored written
  one_written shapes run at n w here inside outside =
      let after : ℕ → ℕ → ℕ → ℕ = λ s p i. block_bit (blocks_at (set sets k new) s) p i in
      let before : ℕ → ℕ → ℕ → ℕ = λ s p i. block_bit (blocks_at sets s) p i in
      record {
        bits = λ s p i in_sets in_set bound.
            set_written before after run at n (i + 1)
            (λ s p i m. ap (λ bs. block_bit bs p i) (blocks_other s (λ e. m (e ∙ here))))
            (λ i l h. ap (λ j. block_bit (blocks_at (set sets k new) j) at i) (sym here) ∙ ap (λ bs. block_bit bs at i) blocks_new ∙ inside i l h)
            (λ p i _ apart. ap (λ j. block_bit (blocks_at (set sets k new) j) p i) (sym here) ∙ ap (λ bs. block_bit bs p i) blocks_new
            ∙ outside p i apart ∙ ap (λ bs. block_bit bs p i) blocks_old ∙ ap (λ j. block_bit (blocks_at sets j) p i) here)
            s p i (λ _. omega arith);
        winner = refl;
      }

-- a set stays whole when no position behind its last one is written
pub set_kept : (shapes : List SetShape) (k : ℕ) (old new : List Block) → length new ≡ length old → ((most : ℕ) → HasPlanes most old → HasPlanes most new)
    → ((p : ℕ) → processors shapes k ≤ p → p < 512 * block_count (extents_at shapes k) → block_bit old p (bits_at shapes k) ≡ 0 → block_bit new p (bits_at shapes k) ≡ 0)
    → IsWholeSet shapes k old → IsWholeSet shapes k new
set_kept shapes k old new long planes padding whole = record {
  count = long ∙ whole.count;
  planes = planes (bits_at shapes k + 2) whole.planes;
  padding = λ p from til. padding p from til (whole.padding p from til);
}

-- the blocks of a set that was read from a whole store
pub held : (shapes : List SetShape) (sets : List BlockSet) (k j : ℕ) (set : BlockSet) → AreWhole shapes sets → k < length shapes → j ≡ k → set ≡ get_or sets j set → blocks_in set ≡ blocks_at sets k
held shapes sets k j set whole exists e is = blocks_old sets k set set (omega (arith, whole.count)) (is ∙ ap (λ i. get_or sets i set) e)

-- a set has few blocks
pub few_blocks : (shapes : List SetShape) (sets : List BlockSet) (k : ℕ) → AreWhole shapes sets → k < length shapes → length (blocks_at sets k) ≤ 2048
unfolding block_count
few_blocks shapes sets k whole exists =
    let shape = whole.grids k no_shape exists in
    let fits = (geometry_parts (extents_at shapes k) shape.0).3 in
    omega (arith, (whole.each k exists).count, fits)
