-- What the blocks of a set have taken from the room is what the memory has at its places.
use Rattle.std.proofs.Common.{◌≡◌, ℕ, ◌+◌, ◌*◌, ◌/◌, ◌%◌, ◌^◌, ◌<◌, ◌≤◌, Bool, true, false, eqb, List, [], length, get_or, sym, ◌∙◌, ap, subst, arith}
use Rattle.std.specs.Prelude.{ℤ, ◌||◌}
use Rattle.std.proofs.lemmas.List.{get_or-map}
use Rattle.vp_sets.specs.Positions.{position_count, shifted}
use Rattle.vp_sets.proofs.PositionLaws.{geometry_parts}
use Rattle.cstar_base.specs.Numbers.{number_of}
use Rattle.cstar_base.specs.declared.operators.Winner.{Winner}
use Rattle.bit_planes.specs.declared.plane.Plane.{Plane}
use Rattle.bit_planes.specs.declared.block.Block.{Block}
use Rattle.bit_planes.specs.Bits.{bit}
use Rattle.bit_planes.specs.Planes.{plane_at, number}
use Rattle.paris_code.specs.declared.operands.Field.{Field}
use Rattle.paris_code.specs.Fetching.{number_or_zero, of_named, of_neighbour}
use Rattle.paris_code.specs.Memory.{BitMemory, field_number, is_active, processors}
use Rattle.paris_code.specs.Shapes.{SetShape, no_shape, bits_at, extents_at, rank_at}
use Rattle.phase_meaning.specs.Apply.{LiesIn}
use Rattle.phase_meaning.specs.Gathered.{gathered}
use Rattle.phase_meaning.proofs.Alike.{shifted_below}
use Rattle.phase_meaning.proofs.Widths.{cut_cut}
use Rattle.block_store.specs.declared.set.BlockSet.{BlockSet}
use Rattle.block_store.specs.declared.set.Cell.{Cell}
use Rattle.block_store.specs.Planes.{planes_in, planes_at, block_bit}
use Rattle.block_store.specs.Phases.{WrittenInBlock}
use Rattle.block_store.specs.Stored.{blocks_in, blocks_at, stored, word_or_zero, AreWhole}
use Rattle.block_store.proofs.AllBlocks.{in_block}
use Rattle.block_store.proofs.Fetches.{Lifted, field_there, fetched_is, some_block}
use Rattle.block_store.proofs.Stores.{block_exists}
use Rattle.news_grid.specs.declared.news.News.{News}
use Rattle.news_grid.specs.declared.news.Taking.{Taking}
use Rattle.news_grid.specs.declared.spread.Fetching.{Fetching}
use Rattle.news_grid.specs.Places.{place, Taken}
use Rattle.news_grid.specs.Steps.{number_held}
use Rattle.news_grid.specs.Takings.{Stepped}

-- a block that has taken the numbers of a NEWS shift is as the write of what is held a step away has it, in a memory in which its lanes are as active
pub taken_steps : (shapes : List SetShape) (m : BitMemory) (taking : Taking) (k : ℕ) (old new : List Plane) → let d : Field = taking.shift.dest in
    taking.plan.now.geometry ≡ extents_at shapes d.set → taking.plan.now.bits ≡ bits_at shapes d.set
    → ((p : ℕ) → p / 512 ≡ k → is_active shapes m d.set p ≡ eqb (bit (plane_at old (bits_at shapes d.set)) (p % 512)) 1)
    → (word : ℕ → ℕ) → ((p : ℕ) → p / 512 ≡ k → p < processors shapes d.set → number_held taking.held.now d.len (shifted (extents_at shapes d.set) p taking.shift.axis (number_of 32 true taking.shift.by)) ≡ word p)
    → Stepped taking k old new → WrittenInBlock shapes (gathered shapes m d taking.shift.always word) k old new
taken_steps shapes m taking k old new grid at active word same done =
    let d : Field = taking.shift.dest in
    let always : Bool = taking.shift.always in
    let by : ℤ = number_of 32 true taking.shift.by in
    let inside : (p : ℕ) → p / 512 ≡ k → 512 * k + p % 512 ≡ p = λ p e. omega (arith, e) in
    in_block shapes (gathered shapes m d always word) k done.mask done.numbers old new done.written
    (λ p e b. done.lanes.takes (p % 512) (omega arith) (omega (arith, inside p e, b, ap position_count grid))
    ∙ ap (λ c. always || eqb (bit (plane_at old c) (p % 512)) 1) at ∙ ap (λ t. always || t) (sym (active p e)))
    (λ p e past off. done.lanes.quiet (p % 512) (omega arith) (omega (arith, inside p e, past, ap position_count grid)) (ap (λ c. bit (plane_at old c) (p % 512)) at ∙ off))
    (λ p e b. ap (λ x. x % 2 ^ d.len) (done.there (p % 512) (omega arith) (omega (arith, inside p e, b, ap position_count grid))
    ∙ ap (λ n. number_held taking.held.now d.len (shifted taking.plan.now.geometry n taking.shift.axis by)) (inside p e)
    ∙ ap (λ xs. number_held taking.held.now d.len (shifted xs p taking.shift.axis by)) grid
    ∙ same p e b))

module _ (shapes : List SetShape) (sets : List BlockSet) (whole : AreWhole shapes sets) (source : Field) (within : LiesIn shapes source)
    (from : BlockSet) (is : blocks_in from ≡ blocks_at sets source.set) (cells : List Cell) (much : length (blocks_in from) ≤ length cells) where
  -- a block that has taken the words of a get is as the write has it
  pub taken : (taking : Fetching) → Lifted (blocks_in from) cells source.offset source.len → cells ≡ taking.cells.now → taking.count ≡ processors shapes source.set → taking.address.set ≡ taking.dest.set
      → taking.plan.now.geometry ≡ extents_at shapes taking.dest.set → taking.plan.now.bits ≡ bits_at shapes taking.dest.set
      → (v : Winner) (blocks : List Block) → blocks ≡ blocks_at sets taking.dest.set → (k : ℕ) (none : Block) (new : List Plane) → k < length blocks
      → Taken taking k (planes_in (get_or blocks k none)) new
      → WrittenInBlock shapes (gathered shapes (stored sets v) taking.dest false (of_named shapes (stored sets v) taking.address source)) k (planes_in (get_or blocks k none)) new
  unfolding is_active of_named stored block_bit
  taken taking lifted same_cells all home grid at v blocks same k none new b done =
      let d : Field = taking.dest in
      let old : List Plane = planes_in (get_or blocks k none) in
      let here : (p : ℕ) → p / 512 ≡ k → old ≡ planes_at (blocks_at sets d.set) (p / 512) =
      λ p e. sym (get_or-map planes_in blocks k none [] b) ∙ ap (λ bs. planes_at bs k) same ∙ ap (planes_at (blocks_at sets d.set)) (sym e) in
      let inside : (p : ℕ) → p / 512 ≡ k → 512 * k + p % 512 ≡ p = λ p e. omega (arith, e) in
      in_block shapes (gathered shapes (stored sets v) d false (of_named shapes (stored sets v) taking.address source)) k done.mask (λ i. word_or_zero taking.cells.now taking.count (place taking old i) % 2 ^ d.len) old new done.written
      (λ p e b. done.lanes.takes (p % 512) (omega arith) (omega (arith, inside p e, b, ap position_count grid))
      ∙ ap (λ c. eqb (bit (plane_at old c) (p % 512)) 1) at ∙ ap (λ ps. eqb (bit (plane_at ps (bits_at shapes d.set)) (p % 512)) 1) (here p e))
      (λ p e past off. done.lanes.quiet (p % 512) (omega arith) (omega (arith, inside p e, past, ap position_count grid)) (ap (λ c. bit (plane_at old c) (p % 512)) at ∙ off))
      (λ p e b.
      let n : ℕ = place taking old (p % 512) in
      let named : n ≡ field_number (stored sets v) taking.address p =
      ap (λ ps. place taking ps (p % 512)) (here p e) ∙ ap (λ s. place taking (planes_at (blocks_at sets s) (p / 512)) (p % 512)) (sym home) ∙ field_there sets v taking.address p in
      cut_cut (word_or_zero taking.cells.now taking.count n) d.len d.len (omega arith)
      ∙ ap (λ x. x % 2 ^ d.len) (ap (λ cs. word_or_zero cs taking.count n) (sym same_cells) ∙ fetched_is shapes sets whole source within from is cells much lifted v taking.count n all ∙ ap (number_or_zero shapes (stored sets v) source) named))

-- the planes of a field of each block, side by side
abbrev pub HeldOf : List Block → Field → List Plane → Type 0
HeldOf blocks f planes = (k i : ℕ) (other : Block) → k < length blocks → number planes (k * f.len) f.len i ≡ number (planes_in (get_or blocks k other)) f.offset f.len i

module _ (shapes : List SetShape) (sets : List BlockSet) (whole : AreWhole shapes sets) (source : Field) (within : LiesIn shapes source)
    (from : BlockSet) (is : blocks_in from ≡ blocks_at sets source.set) (planes : List Plane) (held : HeldOf (blocks_in from) source planes) where
  -- what is held of the source is what the positions have
  pub held_number : (v : Winner) (p : ℕ) → p < processors shapes source.set → number_held planes source.len p ≡ field_number (stored sets v) source p
  held_number v p b =
      let k : ℕ = p / 512 in
      let there : k < length (blocks_in from) = omega (arith, ap length is, (whole.each source.set within.0).count, block_exists (extents_at shapes source.set) p b) in
      some_block _ (blocks_in from) k there (λ other.
      held k (p % 512) other there
      ∙ ap (λ ps. number ps source.offset source.len (p % 512)) (sym (get_or-map planes_in (blocks_in from) k other [] there))
      ∙ ap (λ bs. number (planes_at bs k) source.offset source.len (p % 512)) is
      ∙ field_there sets v source p)

  -- a block that has taken the numbers of a NEWS shift is as the write has it
  pub stepped : (taking : Taking) → source ≡ taking.shift.source
      → planes ≡ taking.held.now → source.len ≡ taking.shift.dest.len → taking.shift.dest.set ≡ source.set → taking.shift.axis < rank_at shapes taking.shift.dest.set
      → taking.plan.now.geometry ≡ extents_at shapes taking.shift.dest.set → taking.plan.now.bits ≡ bits_at shapes taking.shift.dest.set
      → (v : Winner) (blocks : List Block) → blocks ≡ blocks_at sets taking.shift.dest.set → (k : ℕ) (none : Block) (new : List Plane) → k < length blocks
      → Stepped taking k (planes_in (get_or blocks k none)) new
      → WrittenInBlock shapes (gathered shapes (stored sets v) taking.shift.dest taking.shift.always (of_neighbour shapes (stored sets v) taking.shift.source taking.shift.axis taking.shift.by)) k (planes_in (get_or blocks k none)) new
  unfolding is_active of_neighbour stored block_bit
  stepped taking own same_held lens home axis grid at v blocks same k none new b done =
      let shift : News = taking.shift in
      let d : Field = shift.dest in
      let by : ℤ = number_of 32 true shift.by in
      let old : List Plane = planes_in (get_or blocks k none) in
      let here : (p : ℕ) → p / 512 ≡ k → old ≡ planes_at (blocks_at sets d.set) (p / 512) =
      λ p e. sym (get_or-map planes_in blocks k none [] b) ∙ ap (λ bs. planes_at bs k) same ∙ ap (planes_at (blocks_at sets d.set)) (sym e) in
      taken_steps shapes (stored sets v) taking k old new grid at
      (λ p e. ap (λ ps. eqb (bit (plane_at ps (bits_at shapes d.set)) (p % 512)) 1) (sym (here p e)))
      (of_neighbour shapes (stored sets v) shift.source shift.axis shift.by)
      (λ p e b.
      let q : ℕ = shifted (extents_at shapes d.set) p shift.axis by in
      let q_there : q < processors shapes source.set =
      subst (λ s. q < processors shapes s) home (shifted_below (extents_at shapes d.set) p shift.axis by (geometry_parts (extents_at shapes d.set) (whole.grids d.set no_shape (omega (arith, within.0, home))).0).2 b axis) in
      ap (λ ps. number_held ps d.len q) (sym same_held) ∙ ap (λ l. number_held planes l q) (sym lens)
      ∙ held_number v q q_there
      ∙ ap (λ s. field_number (stored sets v) source (shifted (extents_at shapes s) p shift.axis by)) home
      ∙ ap (λ (f : Field). field_number (stored sets v) f (shifted (extents_at shapes f.set) p shift.axis by)) own)
      done
