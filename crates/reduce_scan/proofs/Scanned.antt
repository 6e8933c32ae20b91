-- The passes of a scan give what the scan means.
use Rattle.std.proofs.Common.{◌≡◌, ℕ, zero, suc, ◌+◌, ◌-◌, ◌*◌, ◌/◌, ◌%◌, ◌^◌, ◌<◌, ◌≤◌, Bool, true, ◌&&◌, eqb, List, [], length, get_or, drop, take, Option, Some, None, refl, sym, ◌∙◌, ap, subst, arith}
use Rattle.std.specs.Prelude.{◌||◌, slice_index, IfSome}
use Rattle.std.proofs.lemmas.Bool.{lt-ltb}
use Rattle.std.proofs.lemmas.List.{get_or-map}
use Rattle.vp_sets.specs.Blocks.{block_count}
use Rattle.vp_sets.specs.Positions.{position_count, are_positive}
use Rattle.vp_sets.proofs.PositionLaws.{extent_positive, count_positive, later_positive, geometry_parts}
use Rattle.cstar_base.specs.declared.operators.Direction.{Direction}
use Rattle.cstar_base.specs.declared.operators.Direction.TheVariants as D
use Rattle.cstar_base.specs.declared.operators.SegmentMode.{SegmentMode}
use Rattle.cstar_base.specs.declared.operators.SegmentMode.TheVariants as M
use Rattle.cstar_base.specs.declared.operators.Winner.{Winner}
use Rattle.bit_planes.specs.declared.block.Block.{Block}
use Rattle.bit_planes.specs.declared.plane.Plane.{Plane}
use Rattle.bit_planes.specs.Bits.{bit}
use Rattle.bit_planes.specs.Planes.{plane_at, number}
use Rattle.paris_code.specs.declared.operands.Field.{Field}
use Rattle.paris_code.specs.Fetching.{at_active}
use Rattle.paris_code.specs.Memory.{run_number, field_number, is_active}
use Rattle.paris_code.specs.Scanning.{bit_is_one, parts, with_own, scanned}
use Rattle.paris_code.specs.Shapes.{SetShape, no_shape, bits_at, extents_at}
use Rattle.phase_meaning.specs.Apply.{LiesIn, looked_at}
use Rattle.phase_meaning.specs.Scans.{before_at}
use Rattle.phase_meaning.proofs.Widths.{cut_cut}
use Rattle.block_store.specs.declared.set.BlockSet.{BlockSet}
use Rattle.block_store.specs.declared.set.Cell.{Cell}
use Rattle.block_store.specs.Phases.{WrittenInBlock}
use Rattle.block_store.specs.Planes.{planes_in, planes_at, block_bit}
use Rattle.block_store.specs.Stored.{blocks_at, stored, words_in, AreWhole}
use Rattle.block_store.proofs.AllBlocks.{in_block}
use Rattle.block_store.proofs.Fetches.{some_cell, room_much, field_there, number_below}
use Rattle.reduce_scan.specs.declared.lines.AxisScan.{AxisScan}
use Rattle.reduce_scan.specs.declared.lines.Lines.{Lines}
use Rattle.reduce_scan.specs.declared.lines.Scan.{Scan}
use Rattle.reduce_scan.specs.Along.{scan_of, scan_over, lines_of, ScanFits}
use Rattle.reduce_scan.specs.Order.{ordered}
use Rattle.reduce_scan.specs.Parts.{AreLines, CanScan, FieldsFit, FitsBelow, IsFolded, ordered_at, active_there, value_there, bit_there, cut_there, part_fold, part_begins, part_size, fold_there, word_of_cell, starts}
use Rattle.reduce_scan.specs.Running.{running, handed_on}
use Rattle.reduce_scan.specs.WithinBlocks.{fold_in, scanned_in}
use Rattle.reduce_scan.proofs.LineOrder.{cut_at, run_to, run_is}
use Rattle.reduce_scan.proofs.Order.{count_split, position_below, straight}
use Rattle.reduce_scan.proofs.Parts.{once, none, none_below}
use Rattle.reduce_scan.proofs.Scans.{running_on, running_from, running_fits, running_same}
use Rattle.reduce_scan.proofs.StraightLines.{ScannedFrom, fold_is}

-- facts of blocks, a scan and its lines hold of those that are the same
pub moved : (P : List Block → Scan → Lines → Type 0) (b c : List Block) (s t : Scan) (l m : Lines) → b ≡ c → s ≡ t → l ≡ m → P b s l → P c t m
moved P b c s t l m e f g h = subst (λ (x : Lines). P c t x) g (subst (λ (x : Scan). P c x l) f (subst (λ (x : List Block). P x s l) e h))

-- what the passes leave in the cells
abbrev pub Folded : List Cell → List Block → Scan → Lines → Type 0
Folded cells blocks scan lines = (k : ℕ) (none : Cell) → 512 * (k + 1) < lines.positions → k < length blocks → k < length cells → IsFolded blocks scan lines k (get_or cells k none).words

module _ (shapes : List SetShape) (sets : List BlockSet) (whole : AreWhole shapes sets) (along : AxisScan) (fits : ScanFits shapes along) where
  abbrev pub blocks_here : List Block
  blocks_here = blocks_at sets along.source.set

  abbrev pub scan_here : Scan
  scan_here = scan_over along (bits_at shapes along.source.set)

  abbrev pub lines_here : Lines
  lines_here = lines_of (extents_at shapes along.source.set) along.axis along.direction

  abbrev count : ℕ
  count = position_count (extents_at shapes along.source.set)

  pub positive : are_positive (extents_at shapes along.source.set) ≡ true
  positive = (geometry_parts (extents_at shapes along.source.set) (whole.grids along.source.set no_shape fits.0.0).0).2

  pub lines_are : AreLines lines_here
  lines_are = record {
    some = extent_positive (extents_at shapes along.source.set) along.axis positive fits.2;
    apart = count_positive (drop (suc along.axis) (extents_at shapes along.source.set)) (later_positive (suc along.axis) (extents_at shapes along.source.set) positive);
    few = (geometry_parts (extents_at shapes along.source.set) (whole.grids along.source.set no_shape fits.0.0).0).3;
    rows = position_count (take along.axis (extents_at shapes along.source.set));
    filled = count_split (extents_at shapes along.source.set) along.axis fits.2;
  }

  bit_below : (o : Option Field) → IfSome o (λ f. LiesIn shapes f × (f.set ≡ along.source.set) × (f.len ≡ 1)) → IfSome o (λ f. FitsBelow (bits_at shapes along.source.set) f × (f.len ≡ 1))
  bit_below None h = tt
  bit_below (Some f) h = ((h.0.1, h.0.2, subst (λ t. f.offset + f.len ≤ bits_at shapes t) h.1 h.0.3), h.2)

  pub fields_fit : FieldsFit scan_here
  fields_fit = record {
    source = (fits.0.1, fits.0.2, fits.0.3);
    word = fits.1;
    bit = bit_below (looked_at along.mode along.bit) fits.3;
  }

  pub can_scan : CanScan blocks_here scan_here lines_here
  can_scan = record {
    are_lines = lines_are;
    much = room_much shapes sets along.source.set whole fits.0.0;
    planes = λ k none b. omega (arith, (whole.each along.source.set fits.0.0).planes k none b);
    fields = fields_fit;
  }

  -- each block holds a position
  pub full : (k : ℕ) → k < length blocks_here → 512 * k < count
  unfolding block_count
  full k b = omega (arith, b, (whole.each along.source.set fits.0.0).count)

  pub inside : (q : ℕ) → q < count → ordered (extents_at shapes along.source.set) (scan_of along) q < count
  inside q b =
      let is : AreLines lines_here = lines_are in
      omega (arith, position_below along.direction lines_here.extent lines_here.apart is.some is.apart is.rows q (omega (arith, is.filled)), is.filled)

  module _ (w : Winner) where
    both : (f : Field) (p : ℕ) → f.set ≡ along.source.set → bit_there blocks_here (Some f) p ≡ bit_is_one (stored sets w) (Some f) p
    unfolding field_number stored
    both f p e = ap (λ s. eqb (run_number (block_bit (blocks_at sets s) p) f.offset f.len) 1) (sym e)

    pub begins_is : (mode : SegmentMode) (b : Option Field) (d : Direction) (first second : ℕ) (a : Bool) → IfSome (looked_at mode b) (λ f. LiesIn shapes f × (f.set ≡ along.source.set) × (f.len ≡ 1))
        → parts mode d (bit_there blocks_here b first) (bit_there blocks_here b second) a ≡ parts mode d (bit_is_one (stored sets w) b first) (bit_is_one (stored sets w) b second) a
    begins_is M.NoSegments b d first second a h = refl
    begins_is M.StartBit None d first second a h = refl
    begins_is M.StartBit (Some f) d first second a h = ap (λ t. a && t) (both f second h.1)
    begins_is M.SegmentBit None d first second a h = refl
    begins_is M.SegmentBit (Some f) D.Upward first second a h = both f second h.1
    begins_is M.SegmentBit (Some f) D.Downward first second a h = both f first h.1

    abbrev cuts : ℕ → Bool
    cuts q = cut_at shapes (stored sets w) (scan_of along) positive fits.2 inside q

    abbrev pub runs_to : ℕ → ℕ
    runs_to q = run_to shapes (stored sets w) (scan_of along) positive fits.2 inside q

    cut_is : (q : ℕ) → q < count → cut_there blocks_here scan_here lines_here q ≡ cuts q
    unfolding is_active stored
    cut_is q b =
        let x : List ℕ = extents_at shapes along.source.set in
        let first : ℕ = ordered x (scan_of along) (q - 1) in
        let second : ℕ = ordered x (scan_of along) q in
        let a : Bool = active_there blocks_here scan_here second in
        ap (λ t. t && (eqb (q % lines_here.extent) 0 || parts along.mode along.direction (bit_there blocks_here along.bit first) (bit_there blocks_here along.bit second) a)) (lt-ltb q count b)
        ∙ ap (λ t. eqb (q % lines_here.extent) 0 || t) (begins_is along.mode along.bit along.direction first second a fits.3)

    -- the fold of a part from the one that runs to it
    part_is : (k i : ℕ) → 512 * k + i < count → part_fold blocks_here scan_here lines_here k (runs_to (512 * k)) i ≡ runs_to (512 * k + i)
    unfolding is_active field_number stored
    part_is k i b =
        let x : List ℕ = extents_at shapes along.source.set in
        let act : ℕ → Bool = λ j. is_active shapes (stored sets w) along.source.set (ordered x (scan_of along) j) in
        let val : ℕ → ℕ = λ j. field_number (stored sets w) along.source (ordered x (scan_of along) j) in
        running_same along.combiner (λ j. cut_there blocks_here scan_here lines_here (512 * k + j)) (λ j. cuts (512 * k + j)) (λ j. act (512 * k + j)) (λ j. val (512 * k + j)) (runs_to (512 * k)) i
        (λ j h. cut_is (512 * k + suc j) (omega arith))
        ∙ sym (running_on along.combiner cuts act val (none along.combiner) (512 * k) i)

    source_fits : (p : ℕ) → field_number (stored sets w) along.source p < 2 ^ 32
    source_fits p = subst (λ n. field_number (stored sets w) along.source p < 2 ^ n) fits.1 (number_below sets w along.source p)

    run_fits : (q : ℕ) → runs_to q < 2 ^ 32
    run_fits q = running_fits along.combiner cuts _ _ (none along.combiner) q (none_below along.combiner)
        (λ j. source_fits (ordered (extents_at shapes along.source.set) (scan_of along) j))

    pub value_below : (p : ℕ) → value_there blocks_here scan_here p < 2 ^ 32
    unfolding field_number stored
    value_below p = source_fits p

    starts_are : (cells : List Cell) → Folded cells blocks_here scan_here lines_here → length blocks_here ≤ length cells → (k : ℕ) → 512 * k < count → starts along.combiner cells k ≡ runs_to (512 * k)
    unfolding starts running
    starts_are cells folded much zero b = refl
    starts_are cells folded much (suc k) b =
        let c = along.combiner in
        let more : count ≤ 512 * length blocks_here = room_much shapes sets along.source.set whole fits.0.0 in
        let full : part_size lines_here k ≡ 512 = omega arith in
        let tail : word_of_cell cells k 0 ≡ part_fold blocks_here scan_here lines_here k (none c) 512 =
        some_cell _ cells k (omega (arith, more, much)) (λ d.
        ap (λ ws. slice_index ws 0) (get_or-map words_in cells k d [] (omega (arith, more, much)))
        ∙ (folded k d (omega arith) (omega (arith, more)) (omega (arith, more, much))).tail ∙ ap (part_fold blocks_here scan_here lines_here k (none c)) full) in
        let begun : eqb (word_of_cell cells k 1) 1 ≡ part_begins blocks_here scan_here lines_here k 512 =
        some_cell _ cells k (omega (arith, more, much)) (λ d.
        ap (λ ws. eqb (slice_index ws 1) 1) (get_or-map words_in cells k d [] (omega (arith, more, much)))
        ∙ (folded k d (omega arith) (omega (arith, more)) (omega (arith, more, much))).begins ∙ ap (part_begins blocks_here scan_here lines_here k) full) in
        ap (λ t. handed_on c t (starts c cells k) (word_of_cell cells k 0)) begun
        ∙ ap (λ s. handed_on c (part_begins blocks_here scan_here lines_here k 512) s (word_of_cell cells k 0)) (starts_are cells folded much k (omega arith))
        ∙ ap (λ v. handed_on c (part_begins blocks_here scan_here lines_here k 512) (runs_to (512 * k)) v) tail
        ∙ sym (running_from c (λ j. cut_there blocks_here scan_here lines_here (512 * k + j)) (λ j. active_there blocks_here scan_here (ordered_at lines_here (512 * k + j)))
        (λ j. value_there blocks_here scan_here (ordered_at lines_here (512 * k + j))) (runs_to (512 * k)) 512 (run_fits (512 * k)) (λ j. value_below (ordered_at lines_here (512 * k + j))))
        ∙ part_is k 512 (omega arith) ∙ ap runs_to (let e : 512 * k + 512 ≡ 512 * suc k = omega arith in e)

    fold_there_is : (q : ℕ) → q < count → fold_there blocks_here scan_here lines_here q ≡ runs_to q
    unfolding is_active field_number stored
    fold_there_is q b =
        let x : List ℕ = extents_at shapes along.source.set in
        running_same along.combiner (λ j. cut_there blocks_here scan_here lines_here j) cuts (λ j. is_active shapes (stored sets w) along.source.set (ordered x (scan_of along) j))
        (λ j. field_number (stored sets w) along.source (ordered x (scan_of along) j)) (none along.combiner) q (λ j h. cut_is (suc j) (omega arith))

    -- a block that was scanned from the fold before it, where each place is its position, is as the scan has it
    straight_from : (d : Field) → d.set ≡ along.source.set → along.direction ≡ D.Upward → lines_here.apart ≡ 1
        → (blocks : List Block) → blocks ≡ blocks_here → (k : ℕ) (e : Block) (new : List Plane) → k < length blocks → (start : ℕ) → (512 * k < count → start ≡ runs_to (512 * k))
        → ScannedFrom start d k (planes_in (get_or blocks k e)) new blocks scan_here lines_here
        → WrittenInBlock shapes (at_active shapes (stored sets w) d (λ p. scanned shapes (stored sets w) (scan_of along) p)) k (planes_in (get_or blocks k e)) new
    unfolding is_active scanned stored block_bit
    straight_from d together up one blocks same k e new b start begin done =
        let old : List Plane = planes_in (get_or blocks k e) in
        let here : old ≡ planes_at blocks_here k = sym (get_or-map planes_in blocks k e [] b) ∙ ap (λ bs. planes_at bs k) same in
        let near : (p : ℕ) → p / 512 ≡ k → old ≡ planes_at blocks_here (p / 512) = λ p h. here ∙ ap (planes_at blocks_here) (sym h) in
        let own : ℕ → ℕ → ℕ = λ v t. with_own along.inclusion (λ s. once along.combiner s v) t in
        in_block shapes (at_active shapes (stored sets w) d (λ p. scanned shapes (stored sets w) (scan_of along) p)) k (plane_at old scan_here.context)
        (λ i. scanned_in old scan_here lines_here.extent k start i % 2 ^ d.len) old new done
        (λ p h within.
        ap (λ ps. eqb (bit (plane_at ps scan_here.context) (p % 512)) 1) (near p h)
        ∙ ap (λ s. eqb (bit (plane_at (planes_at (blocks_at sets s) (p / 512)) (bits_at shapes s)) (p % 512)) 1) (sym together))
        (λ p h past off. ap (λ s. bit (plane_at old (bits_at shapes s)) (p % 512)) (sym together) ∙ off)
        (λ p h within.
        let low : p < count = omega (arith, within, ap (λ s. position_count (extents_at shapes s)) together) in
        let i : ℕ = p % 512 in
        let at : 512 * k + i ≡ p = omega (arith, h) in
        let value : number old along.source.offset along.source.len i ≡ field_number (stored sets w) along.source p =
        ap (λ ps. number ps along.source.offset along.source.len i) (near p h) ∙ field_there sets w along.source p in
        let total : fold_in old scan_here lines_here.extent k start i ≡ before_at shapes (stored sets w) (scan_of along) p =
        fold_is blocks_here scan_here lines_here up one k old here start i (omega arith) (omega (arith, at, low))
        ∙ ap (λ s. part_fold blocks_here scan_here lines_here k s i) (begin (omega (arith, at, low)))
        ∙ part_is k i (omega (arith, at, low)) ∙ ap runs_to at ∙ run_is shapes (stored sets w) (scan_of along) positive fits.2 inside p low
        ∙ ap (before_at shapes (stored sets w) (scan_of along)) (straight lines_here p up one) in
        cut_cut (scanned_in old scan_here lines_here.extent k start i) d.len d.len (omega arith)
        ∙ ap (λ v. own v (fold_in old scan_here lines_here.extent k start i) % 2 ^ d.len) value
        ∙ ap (λ t. own (field_number (stored sets w) along.source p) t % 2 ^ d.len) total)

    -- the same from the starts that the cells hold
    pub straight_in_block : (d : Field) → d.set ≡ along.source.set → along.direction ≡ D.Upward → lines_here.apart ≡ 1 → (first second : List Cell) → Folded first blocks_here scan_here lines_here
        → ((k : ℕ) → k < length blocks_here → word_of_cell second k 0 ≡ starts along.combiner first k) → length blocks_here ≤ length first
        → (blocks : List Block) → blocks ≡ blocks_here → (k : ℕ) (e : Block) (new : List Plane) → k < length blocks
        → ScannedFrom (word_of_cell second k 0) d k (planes_in (get_or blocks k e)) new blocks scan_here lines_here
        → WrittenInBlock shapes (at_active shapes (stored sets w) d (λ p. scanned shapes (stored sets w) (scan_of along) p)) k (planes_in (get_or blocks k e)) new
    straight_in_block d together up one first second folded begin much blocks same k e new b done =
        straight_from d together up one blocks same k e new b (word_of_cell second k 0)
        (λ within. begin k (omega (arith, b, ap length same)) ∙ starts_are first folded much k within) done

    -- the same in the blocks' order
    pub in_order_in_block : (d : Field) → d.set ≡ along.source.set → along.direction ≡ D.Upward → lines_here.apart ≡ 1
        → (blocks : List Block) → blocks ≡ blocks_here → (k : ℕ) (e : Block) (new : List Plane) → k < length blocks
        → ScannedFrom (fold_there blocks_here scan_here lines_here (512 * k)) d k (planes_in (get_or blocks k e)) new blocks scan_here lines_here
        → WrittenInBlock shapes (at_active shapes (stored sets w) d (λ p. scanned shapes (stored sets w) (scan_of along) p)) k (planes_in (get_or blocks k e)) new
    in_order_in_block d together up one blocks same k e new b done =
        straight_from d together up one blocks same k e new b (fold_there blocks_here scan_here lines_here (512 * k)) (λ within. fold_there_is (512 * k) within) done
