-- What the room holds is what the positions of a set hold.
use Rattle.std.proofs.Common.{◌≡◌, ℕ, ◌*◌, ◌/◌, ◌%◌, ◌^◌, ◌<◌, ◌≤◌, Bool, true, false, cond, ltb, List, [], ◌∷◌, map, length, get_or, refl, sym, ◌∙◌, ap, subst, arith}
use Rattle.std.specs.Prelude.{slice_index}
use Rattle.std.proofs.lemmas.List.{get_or-map, length-map}
use Rattle.std.proofs.lemmas.Bool.{ltb-true}
use Rattle.vp_sets.specs.Blocks.{block_count}
use Rattle.cstar_base.specs.declared.operators.Winner.{Winner}
use Rattle.bit_planes.specs.declared.block.Block.{Block}
use Rattle.bit_planes.specs.Planes.{number}
use Rattle.bit_planes.proofs.Planes.{number-lt}
use Rattle.paris_code.specs.declared.operands.Field.{Field}
use Rattle.paris_code.specs.Fetching.{number_or_zero}
use Rattle.paris_code.specs.Memory.{field_number, processors}
use Rattle.paris_code.specs.Shapes.{SetShape, no_shape, bits_at, extents_at}
use Rattle.phase_meaning.specs.Apply.{LiesIn}
use Rattle.block_store.specs.declared.set.BlockSet.{BlockSet}
use Rattle.block_store.specs.declared.set.Cell.{Cell}
use Rattle.block_store.specs.declared.set.SetPlan.{SetPlan}
use Rattle.block_store.specs.Planes.{planes_in, planes_at, block_bit}
use Rattle.block_store.specs.Stored.{shape_of_plan, blocks_in, blocks_at, stored, words_in, word_at, word_or_zero, AreWhole}
use Rattle.block_store.proofs.Lanes.{run_is}
use Rattle.block_store.proofs.Stores.{block_exists}

pub word_read : (room : List Cell) (p : ℕ) (none : Cell) → p / 512 < length room → slice_index (get_or room (p / 512) none).words (p % 512) ≡ word_at room p
unfolding word_at
word_read room p none b = ap (λ ws. slice_index ws (p % 512)) (sym (get_or-map words_in room (p / 512) none [] b))

guarded : (t : Bool) (x y : ℕ) → (t ≡ true → x ≡ y) → cond t x 0 ≡ cond t y 0
guarded true x y same = same refl
guarded false x y same = refl

-- some entry stands for those that do not exist
pub some_cell : (P : Type 0) (cells : List Cell) (k : ℕ) → k < length cells → (Cell → P) → P
some_cell P [] k b f = absurd (omega arith)
some_cell P (c ∷ cs) k b f = f c

pub some_block : (P : Type 0) (blocks : List Block) (k : ℕ) → k < length blocks → (Block → P) → P
some_block P [] k b f = absurd (omega arith)
some_block P (c ∷ cs) k b f = f c

abbrev pub Lifted : List Block → List Cell → ℕ → ℕ → Type 0
Lifted blocks cells offset len = (k i : ℕ) (none : Cell) (other : Block) → k < length blocks → k < length cells → i < 512
    → slice_index (get_or cells k none).words i ≡ number (planes_in (get_or blocks k other)) offset len i

-- the field of a position, by the planes of its block
pub field_there : (sets : List BlockSet) (v : Winner) (f : Field) (p : ℕ) → number (planes_at (blocks_at sets f.set) (p / 512)) f.offset f.len (p % 512) ≡ field_number (stored sets v) f p
unfolding field_number stored block_bit
field_there sets v f p = run_is (planes_at (blocks_at sets f.set) (p / 512)) f.offset f.len (p % 512)

module _ (shapes : List SetShape) (sets : List BlockSet) (whole : AreWhole shapes sets) (source : Field) (within : LiesIn shapes source)
    (from : BlockSet) (is : blocks_in from ≡ blocks_at sets source.set) (cells : List Cell) (much : length (blocks_in from) ≤ length cells)
    (lifted : Lifted (blocks_in from) cells source.offset source.len) where
  pub held_word : (v : Winner) (p : ℕ) → p < processors shapes source.set → word_at cells p ≡ field_number (stored sets v) source p
  held_word v p b =
      let k : ℕ = p / 512 in
      let there : k < length (blocks_in from) = omega (arith, ap length is, (whole.each source.set within.0).count, block_exists (extents_at shapes source.set) p b) in
      some_cell _ cells k (omega (arith, much, there)) (λ none. some_block _ (blocks_in from) k there (λ other.
      sym (word_read cells p none (omega (arith, much, there)))
      ∙ lifted k (p % 512) none other there (omega (arith, much, there)) (omega arith)
      ∙ ap (λ ps. number ps source.offset source.len (p % 512)) (sym (get_or-map planes_in (blocks_in from) k other [] there))
      ∙ ap (λ bs. number (planes_at bs k) source.offset source.len (p % 512)) is
      ∙ field_there sets v source p))

  pub fetched_is : (v : Winner) (count n : ℕ) → count ≡ processors shapes source.set → word_or_zero cells count n ≡ number_or_zero shapes (stored sets v) source n
  unfolding number_or_zero
  fetched_is v count n e =
      ap (λ c. cond (ltb n c) (word_at cells n) 0) e
      ∙ guarded (ltb n (processors shapes source.set)) _ _ (λ t. held_word v n (ltb-true n (processors shapes source.set) t))

-- the plan of a set that was read
pub bits_of : (plans : List SetPlan) (set k : ℕ) (plan : SetPlan) → set < length (map shape_of_plan plans) → k ≡ set → plan ≡ get_or plans k plan → (plan.bits ≡ bits_at (map shape_of_plan plans) set) × (plan.geometry ≡ extents_at (map shape_of_plan plans) set)
bits_of plans set k plan b e is =
    let at : shape_of_plan plan ≡ get_or (map shape_of_plan plans) set no_shape =
    ap shape_of_plan (is ∙ ap (λ i. get_or plans i plan) e) ∙ sym (get_or-map shape_of_plan plans set plan no_shape (omega (arith, length-map plans shape_of_plan))) in
    (ap (λ s. s.bits) at, ap (λ s. s.extents) at)

pub room_much : (shapes : List SetShape) (sets : List BlockSet) (set : ℕ) → AreWhole shapes sets → set < length shapes → processors shapes set ≤ 512 * length (blocks_at sets set)
unfolding block_count
room_much shapes sets set whole exists = omega (arith, (whole.each set exists).count)

-- a number of few bits
pub number_below : (sets : List BlockSet) (v : Winner) (f : Field) (p : ℕ) → field_number (stored sets v) f p < 2 ^ f.len
number_below sets v f p = subst (λ n. n < 2 ^ f.len) (field_there sets v f p) (number-lt (planes_at (blocks_at sets f.set) (p / 512)) f.offset f.len (p % 512))
