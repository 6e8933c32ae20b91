-- A batch that is done in each block of its set is done.
use Rattle.std.proofs.Common.{◌≡◌, ℕ, ◌+◌, ◌*◌, ◌/◌, ◌<◌, ◌≤◌, false, eqb, List, [], ◌∷◌, length, map, All, get_or, refl, sym, ◌∙◌, ap, subst, inl, inr, arith}
use Rattle.std.proofs.Math.ListN.{set}
use Rattle.std.proofs.lemmas.Bool.{cases_eq}
use Rattle.std.proofs.lemmas.List.{get_or-map}
use Rattle.vp_sets.specs.Blocks.{block_count}
use Rattle.cstar_base.specs.declared.operators.Winner.{Winner}
use Rattle.bit_planes.specs.declared.block.Block.{Block}
use Rattle.bit_planes.specs.declared.plane.Plane.{Plane}
use Rattle.paris_code.specs.Memory.{SameBits, processors}
use Rattle.paris_code.specs.Shapes.{SetShape, bits_at, extents_at}
use Rattle.phase_meaning.proofs.FieldLemmas.{destination_runs}
use Rattle.phase_meaning.proofs.Locality.{AgreeAt}
use Rattle.block_store.specs.declared.set.BlockSet.{BlockSet}
use Rattle.block_store.specs.declared.set.SetPlan.{SetPlan}
use Rattle.block_store.specs.Planes.{planes_in, planes_at, block_bit, HasPlanes}
use Rattle.block_store.specs.Stored.{shape_of_plan, blocks_in, blocks_at, stored, IsWholeSet, AreWhole}
use Rattle.block_store.proofs.Fetches.{some_block}
use Rattle.block_store.proofs.Stores.{blocks_old, blocks_new, blocks_other, block_exists, few_blocks, held, whole_kept, set_kept}
use Rattle.elementwise.specs.Blocks.{block_memory}
use Rattle.instruction_runs.specs.declared.deferring.Deferred.{Deferred}
use Rattle.instruction_runs.specs.declared.deferring.Work.{Work}
use Rattle.instruction_runs.specs.declared.deferring.Work.TheVariants as W
use Rattle.instruction_runs.specs.Passes.{held_in, AllDoneInBlock, PassFits}
use Rattle.instruction_runs.specs.Waiting.{done_all, set_of_work, source_of, AreReady, IsWorkOf}
use Rattle.instruction_runs.proofs.Composed.{all_means, first_ready, others_stay, run_agrees, winner_stays, IsOf, IsSourced}
use Rattle.paris_code.specs.declared.instr.Instr.{Instr}
use Rattle.paris_code.specs.declared.operands.Field.{Field}
use Rattle.phase_meaning.specs.Apply.{CanApply}

-- the set of some instructions exists
work_exists : (shapes : List SetShape) (instr : Instr) (work : Work) → CanApply shapes instr [] → IsWorkOf shapes instr work → set_of_work work < length shapes
work_exists shapes instr (W.Elementwise prepared) can is = subst (λ (r : Field). r.set < length shapes) (sym is.run) (destination_runs shapes instr [] can is.elementwise).0.0
work_exists shapes instr (W.Shift news step) can is = is.dest.0

pub set_exists : (shapes : List SetShape) (set : ℕ) (ds : List Deferred) → AreReady shapes set ds → eqb (length ds) 0 ≡ false → set < length shapes
set_exists shapes set [] ready some = cc
set_exists shapes set (d ∷ rest) ready some =
    let is : IsOf shapes set d = first_ready shapes set d rest ready in
    subst (λ s. s < length shapes) is.1 (work_exists shapes d.instr d.work is.0.can is.0.work)

-- the blocks of the set
pub set_blocks : (shapes : List SetShape) (sets : List BlockSet) (old : BlockSet) (k own : ℕ) → AreWhole shapes sets → own < length shapes → k ≡ own → old ≡ get_or sets k old
    → (length (blocks_in old) ≤ 2048) × (length (blocks_in old) ≡ block_count (extents_at shapes own)) × HasPlanes (bits_at shapes own + 2) (blocks_in old)
set_blocks shapes sets old k own whole exists e at =
    let same : blocks_in old ≡ blocks_at sets own = held shapes sets own k old whole exists e at in
    let is_whole = whole.each own exists in
    (omega (arith, ap length same, few_blocks shapes sets own whole exists), ap length same ∙ is_whole.count, subst (λ (bs : List Block). HasPlanes (bits_at shapes own + 2) bs) (sym same) is_whole.planes)

-- and there is room for a pass over them
pub pass_fits : (shapes : List SetShape) (sets : List BlockSet) (set : ℕ) (held : List Plane) → AreWhole shapes sets → set < length shapes → 32 * length (blocks_at sets set) ≤ length held → PassFits shapes set held
pass_fits shapes sets set held whole exists much = record {
  few = omega (arith, few_blocks shapes sets set whole exists, (whole.each set exists).count);
  enough = omega (arith, much, (whole.each set exists).count);
}

-- what was done in each block of a set
abbrev pub DidAll : List SetPlan → List Plane → ℕ → List Deferred → BlockSet → BlockSet → Type 0
DidAll plans held set ds old new = (j : ℕ) (none : Block) → j < length (blocks_in old)
    → AllDoneInBlock (map shape_of_plan plans) (held_in held) set ds j (planes_in (get_or (blocks_in old) j none)) (planes_in (get_or (blocks_in new) j none))

module _ (shapes : List SetShape) (sets : List BlockSet) (old new : BlockSet) (k own : ℕ) (ds : List Deferred) (held : Field → ℕ → ℕ)
    (whole : AreWhole shapes sets) (exists : own < length shapes) (e : k ≡ own) (at : old ≡ get_or sets k old) (ready : AreReady shapes own ds)
    (count : length (blocks_in new) ≡ length (blocks_in old))
    (each : (j : ℕ) (none : Block) → j < length (blocks_in old) → AllDoneInBlock shapes held own ds j (planes_in (get_or (blocks_in old) j none)) (planes_in (get_or (blocks_in new) j none))) where
  there : k < length sets
  there = omega (arith, whole.count)

  same : blocks_in old ≡ blocks_at sets own
  same = blocks_old sets k old new there at ∙ ap (blocks_at sets) e

  long : length (blocks_in old) ≡ block_count (extents_at shapes own)
  long = ap length same ∙ (whole.each own exists).count

  by_block : (j : ℕ) → j < length (blocks_in old) → AllDoneInBlock shapes held own ds j (planes_at (blocks_in old) j) (planes_at (blocks_in new) j)
  by_block j b = some_block (AllDoneInBlock shapes held own ds j (planes_at (blocks_in old) j) (planes_at (blocks_in new) j)) (blocks_in old) j b (λ none.
      subst (λ ps. AllDoneInBlock shapes held own ds j (planes_at (blocks_in old) j) ps) (sym (get_or-map planes_in (blocks_in new) j none [] (omega (arith, b, count))))
      (subst (λ ps. AllDoneInBlock shapes held own ds j ps (planes_in (get_or (blocks_in new) j none))) (sym (get_or-map planes_in (blocks_in old) j none [] b)) (each j none b)))

  -- a block is the memory at its positions
  agree : (v : Winner) (p : ℕ) → AgreeAt shapes own p (block_memory (planes_at (blocks_in old) (p / 512))) (stored sets v)
  unfolding stored block_bit block_memory
  agree v p = λ i _. ap (λ bs. block_bit bs p i) same

  pub settled : (v : Winner) → All (λ d. IsSourced shapes own held (stored sets v) (source_of d)) ds → SameBits shapes (stored (set sets k new) v) (done_all shapes ds (stored sets v))
  unfolding stored block_bit
  settled v sourced = record {
    bits = λ s p i in_sets in_set bound. elim (cases_eq s own) [
      | inr n ↦
          ap (λ bs. block_bit bs p i) (blocks_other sets k old new there at s (λ q. n (q ∙ e)))
          ∙ sym (others_stay shapes own ds (stored sets v) ready s p i n)
      | inl q ↦
          let within : p < processors shapes own = subst (λ j. p < processors shapes j) q in_set in
          let low : i < bits_at shapes own + 2 = subst (λ j. i < bits_at shapes j + 2) q bound in
          let block : p / 512 < length (blocks_in old) = omega (arith, long, block_exists (extents_at shapes own) p within) in
          ap (λ j. block_bit (blocks_at (set sets k new) j) p i) (q ∙ sym e)
          ∙ ap (λ bs. block_bit bs p i) (blocks_new sets k old new there at)
          ∙ (by_block (p / 512) block).done p i refl within low
          ∙ run_agrees shapes own p held ds (block_memory (planes_at (blocks_in old) (p / 512))) (stored sets v) ready (agree v p) i low
          ∙ all_means shapes own held ds (stored sets v) (stored sets v) ready (λ _ _ _ _. refl) sourced p within i low
          ∙ ap (λ j. (done_all shapes ds (stored sets v)).bit j p i) (sym q)
    ];
    winner = sym (winner_stays shapes own ds (stored sets v) ready);
  }

  kept_block : (p : ℕ) → processors shapes own ≤ p → p < 512 * block_count (extents_at shapes own) → block_bit (blocks_in old) p (bits_at shapes own) ≡ 0
      → block_bit (blocks_in new) p (bits_at shapes own) ≡ 0
  unfolding block_bit
  kept_block p from til zero = (by_block (p / 512) (omega (arith, long, til))).padding p (bits_at shapes own) refl from zero ∙ zero

  kept_planes : (most : ℕ) → HasPlanes most (blocks_in old) → HasPlanes most (blocks_in new)
  kept_planes most has = λ j d b.
      let within : j < length (blocks_in old) = omega (arith, count) in
      let was : most ≤ length (planes_at (blocks_in old) j) = subst (λ ps. most ≤ length ps) (sym (get_or-map planes_in (blocks_in old) j d [] within)) (has j d within) in
      subst (λ ps. most ≤ length ps) (get_or-map planes_in (blocks_in new) j d [] b) (omega (arith, was, (by_block j within).long))

  pub settled_whole : AreWhole shapes (set sets k new)
  settled_whole = whole_kept sets k old new there at shapes
      (subst (λ j. IsWholeSet shapes j (blocks_in old) → IsWholeSet shapes j (blocks_in new)) (sym e) (set_kept shapes own (blocks_in old) (blocks_in new) count kept_planes kept_block)) whole

  -- and the room is as large as before
  pub settled_room : (n room : ℕ) → ((s : ℕ) → s < n → length (blocks_at sets s) ≤ room) → (s : ℕ) → s < n → length (blocks_at (set sets k new) s) ≤ room
  settled_room n room fits s b = elim (cases_eq s k) [
    | inl q ↦
        let now : blocks_at (set sets k new) s ≡ blocks_in new = ap (blocks_at (set sets k new)) q ∙ blocks_new sets k old new there at in
        let was : blocks_in old ≡ blocks_at sets s = blocks_old sets k old new there at ∙ ap (blocks_at sets) (sym q) in
        omega (arith, ap length now, count, ap length was, fits s b)
    | inr n ↦ subst (λ (bs : List Block). length bs ≤ room) (sym (blocks_other sets k old new there at s n)) (fits s b)
  ]
