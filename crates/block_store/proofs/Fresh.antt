-- New blocks, new sets, and the memory of a new store.
use Rattle.std.proofs.Common.{◌≡◌, ℕ, ◌+◌, ◌*◌, ◌/◌, ◌%◌, ◌<◌, ◌≤◌, ◌&&◌, Bool, true, false, cond, eqb, List, [], ◌∷◌, ◌++◌, map, length, get_or, All, refl, sym, ◌∙◌, ap, subst, inl, inr, arith}
use Rattle.std.proofs.Math.ListN.{get_or-append}
use Rattle.std.proofs.Math.Seq.{get_or-append_seam}
use Rattle.std.proofs.lemmas.Bool.{cases_lt, lt-ltb, le-ltb}
use Rattle.std.proofs.lemmas.List.{length_push, length-map, get_or-map}
use Rattle.vp_sets.specs.Blocks.{block_count}
use Rattle.vp_sets.specs.Positions.{position_count}
use Rattle.cstar_base.specs.declared.operators.Winner.TheVariants as W
use Rattle.bit_planes.specs.declared.block.Block.{Block}
use Rattle.bit_planes.specs.Bits.{bit}
use Rattle.bit_planes.specs.Planes.{plane_at}
use Rattle.paris_code.specs.Memory.{SameBits, fresh_memory}
use Rattle.paris_code.specs.Shapes.{SetShape, no_shape, bits_at, extents_at}
use Rattle.paris_code.specs.Sound.{IsShape}
use Rattle.phase_meaning.proofs.Entries.{pushed_before, pushed_last}
use Rattle.block_store.specs.declared.set.BlockSet.{BlockSet}
use Rattle.block_store.specs.Fresh.{fresh_bit, IsFreshBlock, AreFresh, AreFreshSets}
use Rattle.block_store.specs.Planes.{planes_in, planes_at, block_bit}
use Rattle.block_store.specs.declared.set.SetPlan.{SetPlan}
use Rattle.block_store.specs.Stored.{shape_of_plan, blocks_at, stored, AreWhole}
use Rattle.block_store.proofs.Stores.{block_exists}

-- one more block
pub one_block : (shape : SetShape) (blocks : List Block) (block : Block) → AreFresh shape blocks → IsFreshBlock shape (length blocks) (planes_in block) → AreFresh shape (blocks ++ block ∷ [])
unfolding block_bit
one_block shape blocks block before new = record {
  planes = λ k none b. elim (cases_lt k (length blocks)) [
    | inl l ↦ subst (λ (x : Block). shape.bits + 2 ≤ length (planes_in x)) (sym (get_or-append blocks (block ∷ []) none k l)) (before.planes k none l)
    | inr g ↦
        let e : k ≡ length blocks = omega (arith, length_push blocks block) in
        subst (λ (x : Block). shape.bits + 2 ≤ length (planes_in x)) (sym (ap (λ j. get_or (blocks ++ block ∷ []) j none) e ∙ get_or-append_seam blocks block [] none)) (omega (arith, new.long))
  ];
  bits = λ p i b h. elim (cases_lt (p / 512) (length blocks)) [
    | inl l ↦ ap (λ ps. bit (plane_at ps i) (p % 512)) (pushed_before planes_in blocks block [] (p / 512) l) ∙ before.bits p i (omega arith) h
    | inr g ↦
        let e : p / 512 ≡ length blocks = omega (arith, length_push blocks block) in
        ap (λ k. bit (plane_at (planes_at (blocks ++ block ∷ []) k) i) (p % 512)) e
        ∙ ap (λ ps. bit (plane_at ps i) (p % 512)) (pushed_last planes_in blocks block [])
        ∙ new.bits i (p % 512) h (omega arith)
        ∙ ap (λ q. fresh_bit shape q i) (let at : 512 * length blocks + p % 512 ≡ p = omega arith in at)
  ];
}

abbrev flag : Bool → ℕ
flag t = cond t 1 0

-- the flags of padding are 0, and those of positions are 1 at the context
padding_bit : (shape : SetShape) (p i : ℕ) → position_count shape.extents ≤ p → fresh_bit shape p i ≡ 0
padding_bit shape p i past = ap (λ t. flag (eqb i shape.bits && t)) (le-ltb p (position_count shape.extents) past) ∙ neither (eqb i shape.bits)
  where
    neither : (t : Bool) → flag (t && false) ≡ 0
    neither true = refl
    neither false = refl

own_bit : (shape : SetShape) (p i : ℕ) → p < position_count shape.extents → fresh_bit shape p i ≡ flag (eqb i shape.bits)
own_bit shape p i within = ap (λ t. flag (eqb i shape.bits && t)) (lt-ltb p (position_count shape.extents) within) ∙ either_way (eqb i shape.bits)
  where
    either_way : (t : Bool) → flag (t && true) ≡ flag t
    either_way true = refl
    either_way false = refl

-- new sets are whole
pub fresh_whole : (shapes : List SetShape) (sets : List BlockSet) → ((k : ℕ) (none : SetShape) → k < length shapes → IsShape (get_or shapes k none)) → AreFreshSets shapes sets → AreWhole shapes sets
fresh_whole shapes sets grids fresh = record {
  count = fresh.count;
  grids = grids;
  each = λ k b.
      let new = fresh.each k b in
      record {
        count = new.count;
        planes = new.fresh.planes;
        padding = λ p from til. new.fresh.bits p (bits_at shapes k) (omega (arith, new.count)) (omega arith) ∙ padding_bit (get_or shapes k no_shape) p (bits_at shapes k) from;
      };
}

-- and hold what a new memory holds
pub fresh_bits : (shapes : List SetShape) (sets : List BlockSet) → AreFreshSets shapes sets → SameBits shapes (stored sets W.High) (fresh_memory shapes)
unfolding stored fresh_memory
fresh_bits shapes sets fresh = record {
  bits = λ s p i in_sets in_set bound.
      let new = fresh.each s in_sets in
      new.fresh.bits p i (omega (arith, new.count, block_exists (extents_at shapes s) p in_set)) bound ∙ own_bit (get_or shapes s no_shape) p i in_set;
  winner = refl;
}

-- what holds of the shape of each plan holds of each shape
pub all_shapes : (P : SetShape → Type 0) (plans : List SetPlan) → All (λ plan. P (shape_of_plan plan)) plans → (k : ℕ) (none : SetShape) → k < length (map shape_of_plan plans) → P (get_or (map shape_of_plan plans) k none)
all_shapes P [] all k none b = absurd (omega arith)
all_shapes P (plan ∷ plans) all k none b =
    let within : k < length (plan ∷ plans) = omega (arith, length-map (plan ∷ plans) shape_of_plan) in
    subst P (sym (get_or-map shape_of_plan (plan ∷ plans) k plan none within)) (all k plan within)

-- there is a cell for each block of a new set
pub few_cells : (plans : List SetPlan) (sets : List BlockSet) (most : ℕ) → AreFreshSets (map shape_of_plan plans) sets → All (λ plan. block_count plan.geometry ≤ most) plans
    → (set : ℕ) → set < length plans → length (blocks_at sets set) ≤ most
few_cells plans sets most fresh few set b =
    let within : set < length (map shape_of_plan plans) = omega (arith, length-map plans shape_of_plan) in
    let here : block_count (get_or (map shape_of_plan plans) set no_shape).extents ≤ most = all_shapes (λ s. block_count s.extents ≤ most) plans few set no_shape within in
    omega (arith, (fresh.each set within).count, here)
