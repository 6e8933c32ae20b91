-- The least position that fails is the first lane of the first block that has one.
use Rattle.std.proofs.Common.{◌≡◌, ℕ, ◌+◌, ◌*◌, ◌/◌, ◌%◌, ◌^◌, ◌<◌, ◌≤◌, Bool, true, false, ◌&&◌, cond, eqb, ltb, min, List, [], map, length, get_or, refl, None, Some, sym, ◌∙◌, ap, subst, inl, inr, w64, arith}
use Rattle.std.specs.Prelude.{slice_index}
use Rattle.std.specs.Int.{trailing_zeros}
use Rattle.std.proofs.lemmas.Bool.{cases_lt, lt-ltb, le-ltb}
use Rattle.std.proofs.lemmas.Nat.Bits.{bit_at-trailing_zeros}
use Rattle.vp_sets.specs.Blocks.{block_count}
use Rattle.cstar_base.specs.declared.operators.Winner.{Winner}
use Rattle.bit_planes.specs.declared.block.Block.{Block}
use Rattle.bit_planes.specs.declared.plane.Plane.{Plane}
use Rattle.bit_planes.specs.Bits.{bit}
use Rattle.bit_planes.specs.Planes.{plane_at}
use Rattle.bit_planes.proofs.Words.{bit-lt}
use Rattle.paris_code.specs.declared.instr.Instr.{Instr}
use Rattle.paris_code.specs.declared.instr.Instr.TheVariants as I
use Rattle.paris_code.specs.Checking.{checked_set, fails, least_failing}
use Rattle.paris_code.specs.Meaning.{bad_or_nothing, reply_of}
use Rattle.paris_code.specs.Memory.{BitMemory, is_active, processors}
use Rattle.paris_code.specs.Shapes.{SetShape, bits_at, extents_at}
use Rattle.phase_meaning.specs.Apply.{CanApply, is_check}
use Rattle.phase_elements.proofs.Checked.{fails_same}
use Rattle.phase_meaning.proofs.FieldLemmas.{own_exists}
use Rattle.phase_meaning.proofs.Locality.{AgreeAt, active_same}
use Rattle.phase_meaning.proofs.Rising.{least_none, least_some}
use Rattle.block_store.specs.declared.set.BlockSet.{BlockSet}
use Rattle.block_store.specs.declared.set.Cell.{Cell}
use Rattle.block_store.specs.declared.set.SetPlan.{SetPlan}
use Rattle.block_store.specs.Planes.{planes_in, HasPlanes}
use Rattle.block_store.specs.Stored.{shape_of_plan, blocks_in, stored, word_at, AreWhole}
use Rattle.block_store.proofs.Fetches.{word_read, some_block}
use Rattle.block_store.proofs.Stores.{block_exists, few_blocks, held}
use Rattle.elementwise.specs.Blocks.{block_memory}
use Rattle.elementwise.specs.Failing.{active_fails, IsFirstFailing}
use Rattle.elementwise.proofs.Written.{agree_in_block}

-- the set that a check is about exists
pub checked_exists : (shapes : List SetShape) (instr : Instr) (args : List ℕ) → CanApply shapes instr args → is_check instr ≡ true → checked_set instr < length shapes
checked_exists shapes (I.CheckTarget set place coordinates) args can is = own_exists shapes set coordinates.items can.set.0 can.set.1.0
checked_exists shapes (I.CheckGrid set place steps) args can is = can.set.0
checked_exists shapes (I.CheckDivisor place a) args can is = can.set
checked_exists shapes _ args can is = cc

-- the reply to a check
pub check_reply : (shapes : List SetShape) (instr : Instr) (args : List ℕ) (m : BitMemory) → is_check instr ≡ true → reply_of shapes instr args m ≡ bad_or_nothing (least_failing shapes instr args m)
check_reply shapes (I.CheckTarget set place coordinates) args m is = refl
check_reply shapes (I.CheckGrid set place steps) args m is = refl
check_reply shapes (I.CheckDivisor place a) args m is = refl
check_reply shapes _ args m is = cc

-- what the cells of a set hold
abbrev pub Looked : List SetPlan → Instr → List ℕ → BlockSet → List Cell → Type 0
Looked plans instr args set cells = (k : ℕ) (none : Cell) (other : Block) → k < length (blocks_in set) → k < length cells
    → IsFirstFailing (map shape_of_plan plans) instr args k (planes_in (get_or (blocks_in set) k other)) (slice_index (get_or cells k none).words 0)

-- and so do its blocks
pub checked_blocks : (shapes : List SetShape) (instr : Instr) (args : List ℕ) (sets : List BlockSet) (set : BlockSet) (own : ℕ) → CanApply shapes instr args → is_check instr ≡ true → AreWhole shapes sets → own ≡ checked_set instr → set ≡ get_or sets own set
    → (length (blocks_in set) ≤ 2048) × (length (blocks_in set) ≡ block_count (extents_at shapes (checked_set instr))) × HasPlanes (bits_at shapes (checked_set instr) + 2) (blocks_in set)
checked_blocks shapes instr args sets set own can is whole e at =
    let exists = checked_exists shapes instr args can is in
    let same = held shapes sets (checked_set instr) own set whole exists e at in
    let is_whole = whole.each (checked_set instr) exists in
    (omega (arith, ap length same, few_blocks shapes sets (checked_set instr) whole exists), ap length same ∙ is_whole.count, subst (λ (bs : List Block). HasPlanes (bits_at shapes (checked_set instr) + 2) bs) (sym same) is_whole.planes)

-- the first word of a cell
pub first_word : (cells : List Cell) (k : ℕ) (none : Cell) → k < length cells → slice_index (get_or cells k none).words 0 ≡ word_at cells (512 * k)
first_word cells k none b =
    ap (λ j. slice_index (get_or cells j none).words 0) (let e : k ≡ 512 * k / 512 = omega arith in e)
    ∙ ap (λ r. slice_index (get_or cells (512 * k / 512) none).words r) (let e : 0 ≡ 512 * k % 512 = omega arith in e)
    ∙ word_read cells (512 * k) none (omega arith)

-- whether a lane holds an active processor that fails, by three planes
lane_fails : (used context failing n count : ℕ) (bad : Bool) → context < 2 → used ≡ cond (ltb n count) 1 0 → failing ≡ cond bad 1 0
    → (min (min used context) failing ≡ 0 → n < count → (eqb context 1 && bad) ≡ false) × (min (min used context) failing ≡ 1 → (n < count) × ((eqb context 1 && bad) ≡ true))
lane_fails used context failing n count true small is_used is_failing = elim (cases_lt n count) [
  | inl l ↦
      let u : used ≡ 1 = is_used ∙ ap (λ t. cond t 1 0) (lt-ltb n count l) in (
        λ e h. ap (λ c. eqb c 1 && true) (let q : context ≡ 0 = omega (arith, e, u, is_failing, small) in q),
        λ e. (l, ap (λ c. eqb c 1 && true) (let q : context ≡ 1 = omega (arith, e, u, is_failing, small) in q)),
      )
  | inr g ↦
      let u : used ≡ 0 = is_used ∙ ap (λ t. cond t 1 0) (le-ltb n count g) in
      (λ e h. absurd (omega (arith, g, h)), λ e. absurd (omega (arith, e, u)))
]
lane_fails used context failing n count false small is_used is_failing =
    (λ e h. and_false (eqb context 1), λ e. absurd (omega (arith, e, is_failing)))
  where
    and_false : (t : Bool) → (t && false) ≡ false
    and_false true = refl
    and_false false = refl

-- the first lane of a block that has one
pub first_is : (shapes : List SetShape) (instr : Instr) (args : List ℕ) (k first : ℕ) (used active failing bad : List ℕ) (planes : List Plane) (bits : ℕ)
    → bits ≡ bits_at shapes (checked_set instr)
    → ((i : ℕ) → i < 512 → bit used i ≡ cond (ltb (512 * k + i) (processors shapes (checked_set instr))) 1 0)
    → ((i : ℕ) → i < 512 → bit active i ≡ min (bit used i) (bit (plane_at planes bits) i))
    → ((i : ℕ) → i < 512 → bit failing i ≡ cond (fails shapes instr args (block_memory planes) (512 * k + i)) 1 0)
    → ((i : ℕ) → i < 512 → bit bad i ≡ min (bit active i) (bit failing i))
    → ((i : ℕ) → i < 512 → i < first → bit bad i ≡ 0) → (first < 512 → bit bad first ≡ 1) → IsFirstFailing shapes instr args k planes first
unfolding is_active block_memory
first_is shapes instr args k first used active failing bad planes bits e is_used is_active is_failing is_bad before here =
    let lane : (i : ℕ) → i < 512 → bit bad i ≡ min (min (bit used i) (bit (plane_at planes (bits_at shapes (checked_set instr))) ((512 * k + i) % 512))) (bit failing i) = λ i b.
    is_bad i b ∙ ap (λ n. min n (bit failing i)) (is_active i b ∙ ap (λ n. min (bit used i) n) (ap (λ j. bit (plane_at planes j) i) e
    ∙ ap (bit (plane_at planes (bits_at shapes (checked_set instr)))) (let q : i ≡ (512 * k + i) % 512 = omega (arith, b) in q))) in
    let known = λ (i : ℕ) (b : i < 512). lane_fails (bit used i) (bit (plane_at planes (bits_at shapes (checked_set instr))) ((512 * k + i) % 512)) (bit failing i) (512 * k + i) (processors shapes (checked_set instr))
    (fails shapes instr args (block_memory planes) (512 * k + i)) (bit-lt _ _) (is_used i b) (is_failing i b) in record {
      before = λ i b h w. (known i b).0 (sym (lane i b) ∙ before i b h) w;
      here = λ h. (known first h).1 (sym (lane first h) ∙ here h);
    }

-- ---- the first lane in which a plane is 1

-- the lowest 1 of a word that is not 0
pub word_first : (plane : List ℕ) (j word t : ℕ) → word ≡ slice_index plane j → 0 < word → word < 2 ^ 64 → t ≡ trailing_zeros w64 word → ((i : ℕ) → i < 64 * j → bit plane i ≡ 0)
    → (t < 64) × ((i : ℕ) → i < 64 * j + t → bit plane i ≡ 0) × (bit plane (64 * j + t) ≡ 1)
unfolding bit
word_first plane j word t is some few zeros before =
    let low = bit_at-trailing_zeros w64 word some few in
    let small : t < 64 = subst (λ n. n < 64) (sym zeros) low.0 in (
      small,
      λ i h. elim (cases_lt i (64 * j)) [
        | inl l ↦ before i l
        | inr g ↦
            ap (λ w. slice_index plane w / 2 ^ (i % 64) % 2) (let q : i / 64 ≡ j = omega (arith, g, h, small) in q) ∙ ap (λ w. w / 2 ^ (i % 64) % 2) (sym is)
            ∙ low.2 (i % 64) (subst (λ n. i % 64 < n) zeros (omega (arith, g, h, small)))
      ],
      ap (λ w. slice_index plane w / 2 ^ ((64 * j + t) % 64) % 2) (let q : (64 * j + t) / 64 ≡ j = omega (arith, small) in q) ∙ ap (λ w. w / 2 ^ ((64 * j + t) % 64) % 2) (sym is)
          ∙ ap (λ n. word / 2 ^ n % 2) ((let q : (64 * j + t) % 64 ≡ t = omega (arith, small) in q) ∙ zeros) ∙ low.1,
    )

module _ (shapes : List SetShape) (instr : Instr) (args : List ℕ) (sets : List BlockSet) (set : BlockSet) (own : ℕ) (cells : List Cell) (v : Winner)
    (can : CanApply shapes instr args) (is : is_check instr ≡ true) (whole : AreWhole shapes sets) (e : own ≡ checked_set instr) (at : set ≡ get_or sets own set) (fits : length (blocks_in set) ≤ length cells)
    (each : (k : ℕ) (none : Cell) (other : Block) → k < length (blocks_in set) → k < length cells
    → IsFirstFailing shapes instr args k (planes_in (get_or (blocks_in set) k other)) (slice_index (get_or cells k none).words 0)) where
  bad : ℕ → Bool
  bad p = active_fails shapes instr args (stored sets v) p

  count : ℕ
  count = processors shapes (checked_set instr)

  Found : ℕ → ℕ → Type 0
  Found k r = ((i : ℕ) → i < 512 → i < r → 512 * k + i < count → bad (512 * k + i) ≡ false) × (r < 512 → (512 * k + r < count) × (bad (512 * k + r) ≡ true))

  same_here : (k i : ℕ) (other : Block) → k < length (blocks_in set) → i < 512 → active_fails shapes instr args (block_memory (planes_in (get_or (blocks_in set) k other))) (512 * k + i) ≡ bad (512 * k + i)
  unfolding bad
  same_here k i other b ib =
      let m : BitMemory = block_memory (planes_in (get_or (blocks_in set) k other)) in
      let agree : AgreeAt shapes (checked_set instr) (512 * k + i) m (stored sets v) =
      agree_in_block shapes sets (checked_set instr) k (512 * k + i) (blocks_in set) other v (held shapes sets (checked_set instr) own set whole (checked_exists shapes instr args can is) e at) b (omega arith) in
      ap (λ t. t && fails shapes instr args m (512 * k + i)) (active_same shapes m (stored sets v) (checked_set instr) (512 * k + i) agree)
      ∙ ap (λ t. is_active shapes (stored sets v) (checked_set instr) (512 * k + i) && t) (fails_same shapes instr args m (stored sets v) (512 * k + i) can agree)

  found_in : (k : ℕ) → k < length (blocks_in set) → Found k (word_at cells (512 * k))
  unfolding Found count
  found_in k b = some_block (Found k (word_at cells (512 * k))) (blocks_in set) k b (λ other.
      subst (Found k) (first_word cells k (record { words = []; cuts = record { bits = [] } }) (omega (arith, fits)))
      (let first = each k (record { words = []; cuts = record { bits = [] } }) other b (omega (arith, fits)) in (
        λ i ib h w. sym (same_here k i other b ib) ∙ first.before i ib h w,
        λ h. (let here = first.here h in (here.0, sym (same_here k _ other b h) ∙ here.1)),
      )))

  exists_at : (p : ℕ) → p < count → p / 512 < length (blocks_in set)
  unfolding count
  exists_at p b =
      let exists = checked_exists shapes instr args can is in
      omega (arith, block_exists (extents_at shapes (checked_set instr)) p b, ap length (held shapes sets (checked_set instr) own set whole exists e at), (whole.each (checked_set instr) exists).count)

  quiet_at : (p : ℕ) → p < count → 512 ≤ word_at cells (512 * (p / 512)) → bad p ≡ false
  unfolding Found
  quiet_at p b h =
      let parts : p ≡ 512 * (p / 512) + p % 512 = omega arith in
      ap bad parts ∙ (found_in (p / 512) (exists_at p b)).0 (p % 512) (omega arith) (omega (arith, h)) (omega (arith, b))

  pub none_fails : ((k : ℕ) → k < length (blocks_in set) → 512 ≤ word_at cells (512 * k)) → least_failing shapes instr args (stored sets v) ≡ None
  unfolding bad count
  none_fails all = least_none bad count (λ p b. quiet_at p b (all (p / 512) (exists_at p b)))

  pub least_fails : (p : ℕ) → p / 512 < length (blocks_in set) → word_at cells (512 * (p / 512)) ≡ p % 512 → ((k : ℕ) → k < p / 512 → 512 ≤ word_at cells (512 * k)) → least_failing shapes instr args (stored sets v) ≡ Some p
  unfolding bad count Found
  least_fails p b is_here before =
      let k : ℕ = p / 512 in
      let r : ℕ = p % 512 in
      let parts : 512 * k + r ≡ p = omega arith in
      let found : Found k r = subst (Found k) is_here (found_in k b) in
      let here = found.1 (omega arith) in
      let inside : p < count = subst (λ n. n < count) parts here.0 in
      least_some bad count p inside (sym (ap bad parts) ∙ here.1)
      (λ j h. elim (cases_lt (j / 512) k) [
        | inl l ↦ quiet_at j (omega (arith, h, inside)) (before (j / 512) l)
        | inr g ↦
            let same : j ≡ 512 * k + j % 512 = omega (arith, h, g) in
            ap bad same ∙ found.0 (j % 512) (omega arith) (omega (arith, h, g)) (omega (arith, h, inside, g))
      ])
