-- The fold over a set, block by block.
use Rattle.std.proofs.Common.{◌≡◌, ℕ, zero, suc, ◌+◌, ◌*◌, ◌/◌, ◌%◌, ◌^◌, ◌<◌, ◌≤◌, ◌-◌, not, eqb, List, [], map, length, get_or, refl, sym, ◌∙◌, ap, arith}
use Rattle.std.proofs.lemmas.List.{get_or-map}
use Rattle.std.specs.Prelude.{slice_index}
use Rattle.std.proofs.Math.Numerals.{add-one}
use Rattle.block_store.specs.declared.set.Cell.{Cell}
use Rattle.vp_sets.specs.Blocks.{block_count}
use Rattle.cstar_base.specs.declared.operators.Winner.{Winner}
use Rattle.bit_planes.specs.declared.block.Block.{Block}
use Rattle.bit_planes.specs.Bits.{bit}
use Rattle.bit_planes.specs.Planes.{plane_at}
use Rattle.cstar_base.specs.Numbers.{number_of, residue}
use Rattle.cstar_base.proofs.NumberLaws.{residue_below}
use Rattle.paris_code.specs.declared.operands.Field.{Field}
use Rattle.paris_code.specs.declared.operands.Reduction.{Reduction}
use Rattle.paris_code.specs.Fetching.{folded_word, global_fold}
use Rattle.paris_code.specs.Memory.{whole_number, is_active, processors}
use Rattle.paris_code.specs.Operators.{combiner_of}
use Rattle.cstar_base.specs.Orders.{fold_below}
use Rattle.paris_code.specs.Shapes.{SetShape, bits_at}
use Rattle.phase_meaning.proofs.Runs.{fold_same}
use Rattle.block_store.specs.declared.set.BlockSet.{BlockSet}
use Rattle.block_store.specs.Planes.{planes_in, planes_at, block_bit}
use Rattle.block_store.specs.Stored.{words_in, blocks_at, stored, AreWhole}
use Rattle.block_store.proofs.Fetches.{field_there, some_cell, some_block}
use Rattle.reduce_scan.specs.Blocks.{block_fold, joined_folds, lane_word}
use Rattle.reduce_scan.proofs.Parts.{once, none, next_part, fold_past}

-- the cells hold the folds of the blocks
abbrev pub Folds : Reduction → List Cell → Field → List Block → ℕ → Type 0
Folds r cells source blocks context = (k : ℕ) (none : Cell) (other : Block) → k < length blocks → k < length cells
    → slice_index (get_or cells k none).words 0 ≡ block_fold r (planes_in (get_or blocks k other)) source context 512

module _ (shapes : List SetShape) (sets : List BlockSet) (whole : AreWhole shapes sets) (r : Reduction) (source : Field) (exists : source.set < length shapes) (w : Winner) where
  -- the fold over the positions before one
  abbrev pub so_far : ℕ → ℕ
  so_far n = fold_below (once r) (λ p. is_active shapes (stored sets w) source.set p) (λ p. folded_word r (stored sets w) source p) (none r) n

  word_fits : (p : ℕ) → folded_word r (stored sets w) source p < 2 ^ 32
  unfolding folded_word
  word_fits p = residue_below 32 (whole_number (stored sets w) (not (combiner_of r).1) source p)

  block_is : (k : ℕ) → block_fold r (planes_at (blocks_at sets source.set) k) source (bits_at shapes source.set) 512
      ≡ fold_below (once r) (λ i. is_active shapes (stored sets w) source.set (512 * k + i)) (λ i. folded_word r (stored sets w) source (512 * k + i)) (none r) 512
  unfolding is_active stored block_bit lane_word folded_word whole_number
  block_is k =
      let bs : List Block = blocks_at sets source.set in
      fold_same _ _ _ _ _ _ 512
      (λ i b. ap (λ j. eqb (bit (plane_at (planes_at bs j) (bits_at shapes source.set)) i) 1) (let e : k ≡ (512 * k + i) / 512 = omega arith in e)
      ∙ ap (λ l. eqb (bit (plane_at (planes_at bs ((512 * k + i) / 512)) (bits_at shapes source.set)) l) 1) (let e : i ≡ (512 * k + i) % 512 = omega arith in e))
      (λ i b. ap (λ j. lane_word r (planes_at bs j) source i) (let e : k ≡ (512 * k + i) / 512 = omega arith in e)
      ∙ ap (λ l. lane_word r (planes_at bs ((512 * k + i) / 512)) source l) (let e : i ≡ (512 * k + i) % 512 = omega arith in e)
      ∙ ap (λ n. residue 32 (number_of source.len (not (combiner_of r).1) n)) (field_there sets w source (512 * k + i)))

  pub next_block : (k : ℕ) → once r (so_far (512 * k)) (block_fold r (planes_at (blocks_at sets source.set) k) source (bits_at shapes source.set) 512) ≡ so_far (512 * (k + 1))
  next_block k =
      ap (once r (so_far (512 * k))) (block_is k)
      ∙ next_part r (λ p. is_active shapes (stored sets w) source.set p) (λ p. folded_word r (stored sets w) source p) (512 * k) 512 word_fits
      ∙ ap so_far (let e : 512 * k + 512 ≡ 512 * (k + 1) = omega arith in e)

  pub all_blocks : (n : ℕ) → n ≡ length (blocks_at sets source.set) → so_far (512 * n) ≡ global_fold shapes (stored sets w) r source
  unfolding global_fold is_active stored block_count
  all_blocks n e =
      let count : ℕ = processors shapes source.set in
      let much : count ≤ 512 * n = omega (arith, e, (whole.each source.set exists).count) in
      ap so_far (let q : 512 * n ≡ count + (512 * n - count) = omega arith in q)
      ∙ fold_past (once r) (λ p. is_active shapes (stored sets w) source.set p) (λ p. folded_word r (stored sets w) source p) (none r) count (512 * n - count)
      (λ p from til. ap (λ b. eqb b 1) ((whole.each source.set exists).padding p from (omega (arith, e, (whole.each source.set exists).count))))

  -- the joined folds are the fold over the positions of their blocks
  pub joined_is : (cells : List Cell) → length (blocks_at sets source.set) ≤ length cells
      → Folds r cells source (blocks_at sets source.set) (bits_at shapes source.set)
      → (n : ℕ) → n ≤ length (blocks_at sets source.set) → joined_folds r cells n ≡ so_far (512 * n)
  unfolding joined_folds fold_below
  joined_is cells much folds zero b = refl
  joined_is cells much folds (suc n) b =
      let bs : List Block = blocks_at sets source.set in
      let held : slice_index (get_or (map words_in cells) n []) 0 ≡ block_fold r (planes_at bs n) source (bits_at shapes source.set) 512 =
      some_cell _ cells n (omega arith) (λ none. some_block _ bs n (omega arith) (λ other.
      ap (λ ws. slice_index ws 0) (get_or-map words_in cells n none [] (omega arith)) ∙ folds n none other (omega arith) (omega arith)
      ∙ ap (λ ps. block_fold r ps source (bits_at shapes source.set) 512) (sym (get_or-map planes_in bs n other [] (omega arith))))) in
      ap (λ v. once r (joined_folds r cells n) v) held
      ∙ ap (λ t. once r t (block_fold r (planes_at bs n) source (bits_at shapes source.set) 512)) (joined_is cells much folds n (omega arith))
      ∙ next_block n ∙ ap (λ k. so_far (512 * k)) (add-one n)
