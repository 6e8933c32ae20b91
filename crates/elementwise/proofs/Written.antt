-- An elementwise instruction that is done in each block is done.
use Rattle.std.proofs.Common.{◌≡◌, ℕ, ◌+◌, ◌-◌, ◌*◌, ◌/◌, ◌%◌, ◌^◌, ◌<◌, ◌≤◌, Bool, true, false, ◌&&◌, cond, eqb, List, [], map, length, get_or, sym, ◌∙◌, ap, subst, inl, inr, arith}
use Rattle.std.specs.Prelude.{◌||◌, slice_index}
use Rattle.std.specs.Int.{bit_at}
use Rattle.std.proofs.Math.ListN.{set}
use Rattle.std.proofs.lemmas.List.{get_or-map, get_or-set_same, get_or-set_other}
use Rattle.std.proofs.lemmas.Bool.{cases_eq}
use Rattle.std.proofs.Math.Nat.{mod-mod}
use Rattle.vp_sets.specs.Blocks.{block_start, block_end}
use Rattle.vp_sets.specs.Positions.{position_count}
use Rattle.cstar_base.specs.declared.operators.Winner.{Winner}
use Rattle.bit_planes.specs.declared.block.Block.{Block}
use Rattle.bit_planes.specs.declared.plane.Plane.{Plane}
use Rattle.bit_planes.specs.Bits.{bit}
use Rattle.bit_planes.specs.Planes.{plane_at}
use Rattle.paris_code.specs.declared.operands.Field.{Field}
use Rattle.paris_code.specs.declared.instr.Instr.{Instr}
use Rattle.paris_code.specs.declared.program.Reply.TheVariants as R
use Rattle.paris_code.specs.Elementwise.{is_elementwise, destination, writes_always, element, elementwise}
use Rattle.paris_code.specs.Meaning.{Means}
use Rattle.paris_code.specs.Memory.{BitMemory, SameBits, processors, is_active}
use Rattle.paris_code.specs.Shapes.{SetShape, bits_at, extents_at}
use Rattle.paris_code.specs.Writes.{covers}
use Rattle.phase_meaning.specs.Apply.{CanApply, active_set}
use Rattle.phase_meaning.proofs.FieldLemmas.{destination_runs}
use Rattle.phase_meaning.proofs.Locality.{AgreeAt, element_same, active_same}
use Rattle.phase_meaning.proofs.Replies.{plain}
use Rattle.block_store.specs.declared.set.BlockSet.{BlockSet}
use Rattle.block_store.specs.declared.set.SetPlan.{SetPlan}
use Rattle.block_store.specs.Phases.{LanesWritten, WrittenInBlock, TakesLanes}
use Rattle.block_store.specs.Planes.{planes_in, planes_at, block_bit}
use Rattle.block_store.specs.Stored.{shape_of_plan, blocks_in, blocks_at, stored, AreWhole}
use Rattle.block_store.proofs.AllBlocks.{in_block, blocks_written, blocks_whole}
use Rattle.block_store.proofs.Stores.{blocks_old, blocks_new, blocks_other, held}
use Rattle.elementwise.specs.Blocks.{block_memory, DoneInBlock}

-- the second of two families
pub second_of : (a b : Bool) → (a || b) ≡ true → a ≡ false → b ≡ true
second_of true b is off = cc
second_of false b is off = is

-- one more of the words of an array
pub one_word : (P : ℕ → ℕ → Type 0) (words : List ℕ) (k x : ℕ) → k < length words → ((j : ℕ) → j < k → P j (slice_index words j)) → P k x → (j : ℕ) → j < k + 1 → P j (slice_index (set words k x) j)
one_word P words k x b before here j h = elim (cases_eq j k) [
  | inl e ↦ subst (λ i. P i (slice_index (set words k x) i)) (sym e) (subst (P k) (sym (get_or-set_same words k x 0 b)) here)
  | inr n ↦ subst (P j) (sym (get_or-set_other words k j x 0 n)) (before j (omega (arith, n, h)))
]

-- the lanes of a block that hold a position
pub range_is : (extents : List ℕ) (k start end : ℕ) → start ≡ block_start k → end ≡ block_end extents k
    → (start ≡ 512 * k) × ((i : ℕ) → i < end - start → (i < 512) × (start + i < position_count extents)) × ((i : ℕ) → i < 512 → 512 * k + i < position_count extents → i < end - start)
unfolding block_start block_end
range_is extents k start end a b = (omega (arith, a), λ i h. (omega (arith, a, b), omega (arith, a, b)), λ i h w. omega (arith, a, b))

-- the lanes that a write takes have the numbers that an instruction gives
pub given_lanes : (shapes : List SetShape) (instr : Instr) (args : List ℕ) (k : ℕ) (always : Bool) (mask : List ℕ) (numbers : ℕ → ℕ) (old new : List Plane)
    → always ≡ writes_always instr
    → LanesWritten (destination shapes instr).offset (destination shapes instr).len mask numbers old new
    → TakesLanes (extents_at shapes (destination shapes instr).set) k always (plane_at old (bits_at shapes (destination shapes instr).set)) mask
    → ((i : ℕ) → i < 512 → 512 * k + i < processors shapes (destination shapes instr).set
    → numbers i % 2 ^ (destination shapes instr).len ≡ element shapes instr args (block_memory old) (512 * k + i) % 2 ^ (destination shapes instr).len)
    → DoneInBlock shapes instr args k old new
unfolding is_active block_memory
given_lanes shapes instr args k always mask numbers old new is done lanes gives =
    let run : Field = destination shapes instr in
    let context : List ℕ = plane_at old (bits_at shapes run.set) in
    in_block shapes (elementwise shapes instr args (block_memory old)) k mask numbers old new done
    (λ p here within. lanes.takes (p % 512) (omega arith) (subst (λ n. n < processors shapes run.set) (let e : p ≡ 512 * k + p % 512 = omega (arith, here) in e) within)
    ∙ ap (λ t. t || eqb (bit context (p % 512)) 1) is)
    (λ p here past none. lanes.quiet (p % 512) (omega arith) (subst (λ n. processors shapes run.set ≤ n) (let e : p ≡ 512 * k + p % 512 = omega (arith, here) in e) past) none)
    (λ p here within.
    let e : p ≡ 512 * k + p % 512 = omega (arith, here) in
    gives (p % 512) (omega arith) (subst (λ n. n < processors shapes run.set) e within)
    ∙ ap (λ n. element shapes instr args (block_memory old) n % 2 ^ run.len) (sym e))

-- the lanes that are taken, by what the run is
pub taken : (shapes : List SetShape) (k : ℕ) (run d : Field) (always : Bool) (extents : List ℕ) (bits : ℕ) (mask : List ℕ) (old : List Plane) → run ≡ d → extents ≡ extents_at shapes run.set → bits ≡ bits_at shapes run.set
    → TakesLanes extents k always (plane_at old bits) mask → TakesLanes (extents_at shapes d.set) k always (plane_at old (bits_at shapes d.set)) mask
taken shapes k run d always extents bits mask old is ge be lanes =
    subst (λ (r : Field). TakesLanes (extents_at shapes r.set) k always (plane_at old (bits_at shapes r.set)) mask) is
    (subst (λ b. TakesLanes (extents_at shapes run.set) k always (plane_at old b) mask) be (subst (λ (e : List ℕ). TakesLanes e k always (plane_at old bits) mask) ge lanes))

-- the same of words that were put into the run
pub given_words : (shapes : List SetShape) (instr : Instr) (args : List ℕ) (k : ℕ) (run : Field) (always : Bool) (extents : List ℕ) (bits : ℕ) (mask words : List ℕ) (old new : List Plane)
    → run ≡ destination shapes instr → always ≡ writes_always instr → extents ≡ extents_at shapes run.set → bits ≡ bits_at shapes run.set
    → LanesWritten run.offset run.len mask (λ i. slice_index words i % 2 ^ run.len) old new
    → TakesLanes extents k always (plane_at old bits) mask
    → ((i : ℕ) → i < 512 → 512 * k + i < processors shapes run.set
    → slice_index words i % 2 ^ (destination shapes instr).len ≡ element shapes instr args (block_memory old) (512 * k + i) % 2 ^ (destination shapes instr).len)
    → DoneInBlock shapes instr args k old new
given_words shapes instr args k run always extents bits mask words old new is at ge be done lanes gives =
    let width : ℕ = 2 ^ (destination shapes instr).len in
    given_lanes shapes instr args k always mask (λ i. slice_index words i % width) old new at
    (subst (λ (r : Field). LanesWritten r.offset r.len mask (λ i. slice_index words i % 2 ^ r.len) old new) is done)
    (taken shapes k run (destination shapes instr) always extents bits mask old is ge be lanes)
    (λ i b within. mod-mod (slice_index words i) width ∙ gives i b (subst (λ (r : Field). 512 * k + i < processors shapes r.set) (sym is) within))

-- the same write of memories that agree on the positions of a block
written_same : (shapes : List SetShape) (instr : Instr) (args : List ℕ) (m n : BitMemory) (k : ℕ) (old new : List Plane) → CanApply shapes instr args → is_elementwise instr ≡ true
    → ((p : ℕ) → p / 512 ≡ k → AgreeAt shapes (active_set instr) p m n)
    → WrittenInBlock shapes (elementwise shapes instr args m) k old new → WrittenInBlock shapes (elementwise shapes instr args n) k old new
written_same shapes instr args m n k old new can is agree done = record {
  long = done.long;
  done = λ p i here within b.
      let run : Field = destination shapes instr in
      let at : AgreeAt shapes run.set p m n = subst (λ s. AgreeAt shapes s p m n) (sym (destination_runs shapes instr args can is).1) (agree p here) in
      let was : ℕ = bit (plane_at old i) (p % 512) in
      done.done p i here within b
      ∙ ap (λ t. cond (covers run run.set i && (writes_always instr || t)) (bit_at (element shapes instr args m p) (i - run.offset)) was) (active_same shapes m n run.set p at)
      ∙ ap (λ x. cond (covers run run.set i && (writes_always instr || is_active shapes n run.set p)) (bit_at x (i - run.offset)) was) (element_same shapes instr args m n p can (agree p here));
  padding = done.padding;
}

-- what was done in each block of a set
abbrev pub Did : List SetPlan → Instr → List ℕ → BlockSet → BlockSet → Type 0
Did plans instr args old new = (j : ℕ) (none : Block) → j < length (blocks_in old)
    → DoneInBlock (map shape_of_plan plans) instr args j (planes_in (get_or (blocks_in old) j none)) (planes_in (get_or (blocks_in new) j none))

-- the set whose blocks are written
pub run_set : (k : ℕ) (run : Field) (given plans : List SetPlan) (instr : Instr) → k ≡ run.set → run ≡ destination (map shape_of_plan given) instr → given ≡ plans → k ≡ (destination (map shape_of_plan plans) instr).set
run_set k run given plans instr is at same = is ∙ ap (λ (r : Field). r.set) at ∙ ap (λ (ps : List SetPlan). (destination (map shape_of_plan ps) instr).set) same

-- the planes of a block are the memory at its positions
pub agree_in_block : (shapes : List SetShape) (sets : List BlockSet) (set j p : ℕ) (old : List Block) (none : Block) (v : Winner) → old ≡ blocks_at sets set → j < length old → p / 512 ≡ j
    → AgreeAt shapes set p (block_memory (planes_in (get_or old j none))) (stored sets v)
unfolding stored block_bit block_memory
agree_in_block shapes sets set j p old none v same b here = λ i _.
    ap (λ (ps : List Plane). bit (plane_at ps i) (p % 512)) (sym (get_or-map planes_in old j none [] b) ∙ ap (λ bs. planes_at bs j) same ∙ ap (λ q. planes_at (blocks_at sets set) q) (sym here))

-- a run of an instruction over all blocks of its set
module _ (shapes : List SetShape) (instr : Instr) (args : List ℕ) (sets : List BlockSet) (old new : BlockSet) (k : ℕ)
    (can : CanApply shapes instr args) (is : is_elementwise instr ≡ true) (whole : AreWhole shapes sets)
    (e : k ≡ (destination shapes instr).set) (at : old ≡ get_or sets k old)
    (count : length (blocks_in new) ≡ length (blocks_in old))
    (each : (j : ℕ) (none : Block) → j < length (blocks_in old) → DoneInBlock shapes instr args j (planes_in (get_or (blocks_in old) j none)) (planes_in (get_or (blocks_in new) j none))) where
  exists : (destination shapes instr).set < length shapes
  exists = (destination_runs shapes instr args can is).0.0

  same : blocks_in old ≡ blocks_at sets (destination shapes instr).set
  same = held shapes sets (destination shapes instr).set k old whole exists e at

  -- and the room is as large as before
  pub ran_room : (n room : ℕ) → ((s : ℕ) → s < n → length (blocks_at sets s) ≤ room) → (s : ℕ) → s < n → length (blocks_at (set sets k new) s) ≤ room
  ran_room n room fits s b =
      let there : k < length sets = omega (arith, exists, e, whole.count) in
      elim (cases_eq s k) [
        | inl q ↦
            let now : blocks_at (set sets k new) s ≡ blocks_in new = ap (blocks_at (set sets k new)) q ∙ blocks_new sets k old new there at in
            let was : blocks_in old ≡ blocks_at sets s = blocks_old sets k old new there at ∙ ap (blocks_at sets) (sym q) in
            omega (arith, ap length now, count, ap length was, fits s b)
        | inr n ↦ subst (λ (bs : List Block). length bs ≤ room) (sym (blocks_other sets k old new there at s n)) (fits s b)
      ]

  by_memory : (v : Winner) (j : ℕ) (none : Block) → j < length (blocks_in old)
      → WrittenInBlock shapes (elementwise shapes instr args (stored sets v)) j (planes_in (get_or (blocks_in old) j none)) (planes_in (get_or (blocks_in new) j none))
  by_memory v j none b =
      written_same shapes instr args (block_memory (planes_in (get_or (blocks_in old) j none))) (stored sets v) j _ _ can is
      (λ p here. subst (λ s. AgreeAt shapes s p (block_memory (planes_in (get_or (blocks_in old) j none))) (stored sets v)) (destination_runs shapes instr args can is).1
      (agree_in_block shapes sets (destination shapes instr).set j p (blocks_in old) none v same b here))
      (each j none b)

  pub ran_whole : Winner → AreWhole shapes (set sets k new)
  ran_whole v = blocks_whole shapes sets old new k (elementwise shapes instr args (stored sets v)) whole exists e at count (by_memory v)

  pub ran_means : (v : Winner) → Means shapes instr args (stored sets v) (stored (set sets k new) v) R.Nothing
  ran_means v =
      let family = plain shapes instr args (stored sets v) is in (
        sym family.2,
        subst (λ (m : BitMemory). SameBits shapes (stored (set sets k new) v) m) (sym family.3) (blocks_written shapes sets old new k (elementwise shapes instr args (stored sets v)) whole exists e at count (by_memory v) v),
      )
