use Rattle.std.proofs.Common.{◌≡◌, ℕ, [], ◌∙◌, ◌+◌, ◌*◌, ◌<◌, ◌≤◌, List, length, get_or, refl, sym, ap, subst, arith}
use Rattle.std.proofs.lemmas.List.{length-map, get_or-map}
use Rattle.vp_sets.specs.Positions.{position_count}
use Rattle.cstar_base.specs.declared.operators.Direction.TheVariants as D
use Rattle.cstar_base.specs.declared.operators.Winner.{Winner}
use Rattle.cstar_base.specs.declared.operators.Winner.TheVariants as W
use Rattle.bit_planes.specs.declared.block.Block.{Block}
use Rattle.paris_code.specs.Fetching.{at_active}
use Rattle.paris_code.specs.Scanning.{scanned}
use Rattle.paris_code.specs.Shapes.{bits_at}
use Rattle.std.specs.Prelude.{slice_index}
use Rattle.block_store.specs.Planes.{planes_in, HasPlanes}
use Rattle.block_store.specs.Stored.{shape_of_plan, shapes_in, memory_in, blocks_in, blocks_at, words_in}
use Rattle.block_store.proofs.AllBlocks.{blocks_written, blocks_whole}
use Rattle.block_store.proofs.Fetches.{bits_of, room_much, some_cell}
use Rattle.block_store.proofs.Stores.{held, few_blocks}
use Rattle.reduce_scan.specs.declared.lines.Lines.{Lines}
use Rattle.reduce_scan.specs.declared.lines.Scan.{Scan}
use Rattle.reduce_scan.specs.Along.{scan_of, scan_over, lines_of}
use Rattle.reduce_scan.specs.Parts.{CanScan, fold_there, starts, word_of_cell}
use Rattle.reduce_scan.proofs.Scanned.{moved, Folded, can_scan, full, scan_here, lines_here, straight_in_block, in_order_in_block}
use Rattle.reduce_scan.proofs.StraightLines.{ScannedFrom}
use Rattle.reduce_scan.proofs.JoinedWords.{AllHold, TakenFrom, back_held, held_at, taken_in_block}
use Rattle.reduce_scan.proofs.LineSteps.{back_of}
use Rattle.reduce_scan.specs.Across.{Joined}
use Rattle.reduce_scan.proofs.whole.scan.Goals as goal

pub scan_in_order-requires-clause-can : goal.scan_in_order-requires-clause-can
scan_in_order-requires-clause-can g c =
    let shapes = shapes_in c.args.store.now in
    let sets = c.args.store.now.sets.items in
    let along = c.args.along.now in
    let s = along.source.set in
    let at = c.from-at.ensures ∙ c.requires.together in
    let plan = bits_of c.args.store.now.plans.items s c.from-at.result c.index-plan.result.now c.requires.along.0.0 at c.index-plan.ensures in
    let same = held shapes sets s c.from-at.result c.index_mut.result.now c.requires.whole c.requires.along.0.0 at c.index_mut.ensures.value in
    moved CanScan _ _ _ _ _ _ (sym same) (sym (c.over.ensures ∙ ap (scan_over along) plan.0))
    (sym (c.of.ensures.value ∙ ap (λ xs. lines_of xs along.axis along.direction) plan.1)) (can_scan shapes sets c.requires.whole along c.requires.along)

pub scan_in_order-requires-clause-full : goal.scan_in_order-requires-clause-full
scan_in_order-requires-clause-full g c =
    let shapes = shapes_in c.args.store.now in
    let sets = c.args.store.now.sets.items in
    let along = c.args.along.now in
    let s = along.source.set in
    let at = c.from-at.ensures ∙ c.requires.together in
    let plan = bits_of c.args.store.now.plans.items s c.from-at.result c.index-plan.result.now c.requires.along.0.0 at c.index-plan.ensures in
    let same = held shapes sets s c.from-at.result c.index_mut.result.now c.requires.whole c.requires.along.0.0 at c.index_mut.ensures.value in
    moved (λ bs _ l. (k : ℕ) → k < length bs → 512 * k < l.positions) _ _ _ _ _ _ (sym same) (sym (c.over.ensures ∙ ap (scan_over along) plan.0))
    (sym (c.of.ensures.value ∙ ap (λ xs. lines_of xs along.axis along.direction) plan.1)) (full shapes sets c.requires.whole along c.requires.along)

pub scan_in_order-requires-clause-few : goal.scan_in_order-requires-clause-few
scan_in_order-requires-clause-few g c =
    let shapes = shapes_in c.args.store.now in
    let sets = c.args.store.now.sets.items in
    omega (
      arith,
      ap length (held shapes sets c.args.dest.set c.from-at.result c.index_mut.result.now c.requires.whole c.requires.dest.0 c.from-at.ensures c.index_mut.ensures.value),
      few_blocks shapes sets c.args.dest.set c.requires.whole c.requires.dest.0,
    )

pub returns-then-workers-eq1 : goal.returns-then-workers-eq1
returns-then-workers-eq1 g c =
    let shapes = shapes_in c.args.store.now in
    let sets = c.args.store.now.sets.items in
    let plans = c.args.store.now.plans.items in
    let along = c.args.along.now in
    let d = c.args.dest in
    let s = along.source.set in
    let whole = c.requires.whole in
    let fits = c.requires.along in
    let exists = fits.0.0 in
    let at = c.from-at.ensures ∙ c.requires.together in
    let plan = bits_of plans s c.from-at.result c.index-plan.result.now exists at c.index-plan.ensures in
    let to = c.index_mut.result.now in
    let scan_is : c.over.result ≡ scan_here shapes sets whole along fits = c.over.ensures ∙ ap (scan_over along) plan.0 in
    let lines_is : c.of.result ≡ lines_here shapes sets whole along fits = c.of.ensures.value ∙ ap (λ xs. lines_of xs along.axis along.direction) plan.1 in
    let straight = c.if-are_straight.ensures refl in
    let up : along.direction ≡ D.Upward = sym (ap (λ (l : Lines). l.direction) lines_is) ∙ straight.0 in
    let one : (lines_here shapes sets whole along fits).apart ≡ 1 = sym (ap (λ (l : Lines). l.apart) lines_is) ∙ straight.1 in
    let home = held shapes sets s c.from-at.result to whole exists at c.index_mut.ensures.value in
    let each = λ (w : Winner) (k : ℕ) (e : Block) (b : k < length (blocks_in to)).
    in_order_in_block shapes sets whole along fits w d c.requires.together up one (blocks_in to) home k e _ b
    (moved (λ bs x l. ScannedFrom (fold_there bs x l (512 * k)) d k (planes_in (get_or (blocks_in to) k e)) (planes_in (get_or (blocks_in c.scan_in_order.new.set) k e)) bs x l)
    _ _ _ _ _ _ home scan_is lines_is (c.scan_in_order.ensures.each k e b)) in
    let write = λ (w : Winner). at_active shapes (memory_in c.args.store.now w) d (λ p. scanned shapes (memory_in c.args.store.now w) (scan_of along) p) in
    let kept = blocks_whole shapes sets to c.scan_in_order.new.set c.from-at.result (write W.High) whole c.requires.dest.0 c.from-at.ensures c.index_mut.ensures.value c.scan_in_order.ensures.count (each W.High) in
    record {
      whole = kept;
      room = λ set b.
          let known : set < length shapes = omega (arith, length-map plans shape_of_plan) in
          omega (arith, (kept.each set known).count, (whole.each set known).count, c.requires.room set b);
      shapes = refl;
      memory = λ w. blocks_written shapes sets to c.scan_in_order.new.set c.from-at.result (write w) whole c.requires.dest.0 c.from-at.ensures c.index_mut.ensures.value c.scan_in_order.ensures.count (each w) w;
    }

pub fold_parts-requires-clause-can : goal.fold_parts-requires-clause-can
fold_parts-requires-clause-can g c κs live =
    let shapes = shapes_in c.args.store.now in
    let sets = c.args.store.now.sets.items in
    let along = c.args.along.now in
    let s = along.source.set in
    let at = c.from-at.ensures ∙ c.requires.together in
    let plan = bits_of c.args.store.now.plans.items s c.from-at.result c.index-plan.result.now c.requires.along.0.0 at c.index-plan.ensures in
    let same = held shapes sets s c.from-at.result c.index-then-are_straight.result.now c.requires.whole c.requires.along.0.0 at c.index-then-are_straight.ensures in
    moved CanScan _ _ _ _ _ _ (sym same) (sym (c.over.ensures ∙ ap (scan_over along) plan.0))
    (sym (c.of.ensures.value ∙ ap (λ xs. lines_of xs along.axis along.direction) plan.1)) (can_scan shapes sets c.requires.whole along c.requires.along)

pub fold_parts-requires-clause-few : goal.fold_parts-requires-clause-few
fold_parts-requires-clause-few g c κs live =
    let shapes = shapes_in c.args.store.now in
    let sets = c.args.store.now.sets.items in
    omega (
      arith,
      ap length (held shapes sets c.args.dest.set c.from-at.result c.index-then-are_straight.result.now c.requires.whole c.requires.dest.0 c.from-at.ensures c.index-then-are_straight.ensures),
      few_blocks shapes sets c.args.dest.set c.requires.whole c.requires.dest.0,
    )

pub scan_blocks-requires-clause-few : goal.scan_blocks-requires-clause-few
scan_blocks-requires-clause-few g c κs live =
    let shapes = shapes_in c.args.store.now in
    let sets = c.args.store.now.sets.items in
    omega (
      arith,
      ap length (held shapes sets c.args.dest.set c.from-at.result c.index_mut-then-are_straight.result.now c.requires.whole c.requires.dest.0 c.from-at.ensures c.index_mut-then-are_straight.ensures.value),
      few_blocks shapes sets c.args.dest.set c.requires.whole c.requires.dest.0,
    )

pub returns-then-are_straight : goal.returns-then-are_straight
returns-then-are_straight g c =
    let shapes = shapes_in c.args.store.now in
    let sets = c.args.store.now.sets.items in
    let plans = c.args.store.now.plans.items in
    let along = c.args.along.now in
    let d = c.args.dest in
    let s = along.source.set in
    let whole = c.requires.whole in
    let fits = c.requires.along in
    let exists = fits.0.0 in
    let at = c.from-at.ensures ∙ c.requires.together in
    let plan = bits_of plans s c.from-at.result c.index-plan.result.now exists at c.index-plan.ensures in
    let to = c.index_mut-then-are_straight.result.now in
    let scan_is : c.over.result ≡ scan_here shapes sets whole along fits = c.over.ensures ∙ ap (scan_over along) plan.0 in
    let lines_is : c.of.result ≡ lines_here shapes sets whole along fits = c.of.ensures.value ∙ ap (λ xs. lines_of xs along.axis along.direction) plan.1 in
    let straight = c.if-are_straight.ensures refl in
    let up : along.direction ≡ D.Upward = sym (ap (λ (l : Lines). l.direction) lines_is) ∙ straight.0 in
    let one : (lines_here shapes sets whole along fits).apart ≡ 1 = sym (ap (λ (l : Lines). l.apart) lines_is) ∙ straight.1 in
    let first_is = held shapes sets s c.from-at.result c.index-then-are_straight.result.now whole exists at c.index-then-are_straight.ensures in
    let home = held shapes sets s c.from-at.result to whole exists at c.index_mut-then-are_straight.ensures.value in
    let much : length (blocks_at sets s) ≤ length c.args.store.now.room.cells.items = c.requires.room s (omega (arith, exists, length-map plans shape_of_plan)) in
    let first = c.fold_parts.new.room.cells.items in
    let second = c.hand_on.new.room.cells.items in
    let all : c.len-parts.result ≡ length (blocks_at sets s) = omega (arith, c.len-parts.ensures, ap length (held shapes sets s c.from-at.result c.index.result.now whole exists at c.index.ensures)) in
    let folded : Folded first (blocks_at sets s) (scan_here shapes sets whole along fits) (lines_here shapes sets whole along fits) =
    moved (Folded first) _ _ _ _ _ _ first_is scan_is lines_is (λ k none m b h. c.fold_parts.ensures.folds k none m b (omega (arith, h, c.fold_parts.ensures.count))) in
    let begin : (k : ℕ) → k < length (blocks_at sets s) → word_of_cell second k 0 ≡ starts along.combiner first k =
    λ k b. some_cell _ second k (omega (arith, b, much, c.fold_parts.ensures.count, c.hand_on.ensures.count)) (λ e.
    ap (λ ws. slice_index ws 0) (get_or-map words_in second k e [] (omega (arith, b, much, c.fold_parts.ensures.count, c.hand_on.ensures.count)))
    ∙ c.hand_on.ensures.starts k e (omega (arith, b, all))) in
    let each = λ (w : Winner) (k : ℕ) (e : Block) (b : k < length (blocks_in to)).
    straight_in_block shapes sets whole along fits w d c.requires.together up one first second folded begin (omega (arith, much, c.fold_parts.ensures.count)) (blocks_in to) home k e _ b
    (moved (ScannedFrom (word_of_cell second k 0) d k (planes_in (get_or (blocks_in to) k e)) (planes_in (get_or (blocks_in c.scan_blocks.new.set) k e))) (blocks_in to) (blocks_in to) _ _ _ _ refl scan_is lines_is (c.scan_blocks.ensures.each k e b)) in
    let write = λ (w : Winner). at_active shapes (memory_in c.args.store.now w) d (λ p. scanned shapes (memory_in c.args.store.now w) (scan_of along) p) in
    let kept = blocks_whole shapes sets to c.scan_blocks.new.set c.from-at.result (write W.High) whole c.requires.dest.0 c.from-at.ensures c.index_mut-then-are_straight.ensures.value c.scan_blocks.ensures.count (each W.High) in
    record {
      whole = kept;
      room = λ set b.
          let known : set < length shapes = omega (arith, length-map plans shape_of_plan) in
          omega (arith, (kept.each set known).count, (whole.each set known).count, c.requires.room set b, c.fold_parts.ensures.count, c.hand_on.ensures.count);
      shapes = refl;
      memory = λ w. blocks_written shapes sets to c.scan_blocks.new.set c.from-at.result (write w) whole c.requires.dest.0 c.from-at.ensures c.index_mut-then-are_straight.ensures.value c.scan_blocks.ensures.count (each w) w;
    }

pub hold_blocks-requires-clause-can : goal.hold_blocks-requires-clause-can
hold_blocks-requires-clause-can g c κs live =
    let shapes = shapes_in c.args.store.now in
    let sets = c.args.store.now.sets.items in
    let along = c.args.along.now in
    let s = along.source.set in
    let at = c.from-at.ensures ∙ c.requires.together in
    let plan = bits_of c.args.store.now.plans.items s c.from-at.result c.index-plan.result.now c.requires.along.0.0 at c.index-plan.ensures in
    let same = held shapes sets s c.from-at.result c.index-2.result.now c.requires.whole c.requires.along.0.0 at c.index-2.ensures in
    moved CanScan _ _ _ _ _ _ (sym same) (sym (c.over.ensures ∙ ap (scan_over along) plan.0))
    (sym (c.of.ensures.value ∙ ap (λ xs. lines_of xs along.axis along.direction) plan.1)) (can_scan shapes sets c.requires.whole along c.requires.along)

pub hold_blocks-requires-clause-few : goal.hold_blocks-requires-clause-few
hold_blocks-requires-clause-few g c κs live =
    let shapes = shapes_in c.args.store.now in
    let sets = c.args.store.now.sets.items in
    omega (
      arith,
      ap length (held shapes sets c.args.dest.set c.from-at.result c.index-2.result.now c.requires.whole c.requires.dest.0 c.from-at.ensures c.index-2.ensures),
      few_blocks shapes sets c.args.dest.set c.requires.whole c.requires.dest.0,
    )

pub join_words-requires-clause-much : goal.join_words-requires-clause-much
join_words-requires-clause-much g c =
    let shapes = shapes_in c.args.store.now in
    let sets = c.args.store.now.sets.items in
    let plans = c.args.store.now.plans.items in
    let along = c.args.along.now in
    let s = along.source.set in
    let exists = c.requires.along.0.0 in
    let at = c.from-at.ensures ∙ c.requires.together in
    let plan = bits_of plans s c.from-at.result c.index-plan.result.now exists at c.index-plan.ensures in
    let first_is = held shapes sets s c.from-at.result c.index-2.result.now c.requires.whole exists at c.index-2.ensures in
    let room = c.requires.room s (omega (arith, exists, length-map plans shape_of_plan)) in
    let positions : c.of.result.positions ≤ 512 * length (blocks_at sets s) = omega (arith, ap (λ (l : Lines). l.positions) c.of.ensures.value, ap position_count plan.1, room_much shapes sets s c.requires.whole exists) in
    omega (arith, positions, room, c.hold_blocks.ensures.count)

pub join_words-requires-clause-has : goal.join_words-requires-clause-has
join_words-requires-clause-has g c = λ p b off.
    let shapes = shapes_in c.args.store.now in
    let sets = c.args.store.now.sets.items in
    let plans = c.args.store.now.plans.items in
    let along = c.args.along.now in
    let s = along.source.set in
    let exists = c.requires.along.0.0 in
    let at = c.from-at.ensures ∙ c.requires.together in
    let plan = bits_of plans s c.from-at.result c.index-plan.result.now exists at c.index-plan.ensures in
    let first_is = held shapes sets s c.from-at.result c.index-2.result.now c.requires.whole exists at c.index-2.ensures in
    let room = c.requires.room s (omega (arith, exists, length-map plans shape_of_plan)) in
    let positions : c.of.result.positions ≤ 512 * length (blocks_at sets s) = omega (arith, ap (λ (l : Lines). l.positions) c.of.ensures.value, ap position_count plan.1, room_much shapes sets s c.requires.whole exists) in
    let first = c.hold_blocks.new.room.cells.items in
    back_of c.of.result c.of.ensures.lines p b
    (back_held (blocks_in c.index-2.result.now) c.over.result c.of.result first (omega (arith, positions, ap length first_is)) (omega (arith, room, ap length first_is, c.hold_blocks.ensures.count))
    (λ k none m h. c.hold_blocks.ensures.held k none m (omega (arith, h, c.hold_blocks.ensures.count))) p b off)

pub take_words-requires-clause-much : goal.take_words-requires-clause-much
take_words-requires-clause-much g c κs live =
    let shapes = shapes_in c.args.store.now in
    let sets = c.args.store.now.sets.items in
    let plans = c.args.store.now.plans.items in
    let along = c.args.along.now in
    let s = along.source.set in
    let exists = c.requires.along.0.0 in
    let at = c.from-at.ensures ∙ c.requires.together in
    let plan = bits_of plans s c.from-at.result c.index-plan.result.now exists at c.index-plan.ensures in
    let first_is = held shapes sets s c.from-at.result c.index-2.result.now c.requires.whole exists at c.index-2.ensures in
    let room = c.requires.room s (omega (arith, exists, length-map plans shape_of_plan)) in
    let positions : c.of.result.positions ≤ 512 * length (blocks_at sets s) = omega (arith, ap (λ (l : Lines). l.positions) c.of.ensures.value, ap position_count plan.1, room_much shapes sets s c.requires.whole exists) in
    omega (arith, positions, room, c.hold_blocks.ensures.count, c.join_words.ensures.count)

pub take_words-requires-clause-has : goal.take_words-requires-clause-has
take_words-requires-clause-has g c κs live = λ p b off.
    let shapes = shapes_in c.args.store.now in
    let sets = c.args.store.now.sets.items in
    let plans = c.args.store.now.plans.items in
    let along = c.args.along.now in
    let s = along.source.set in
    let exists = c.requires.along.0.0 in
    let at = c.from-at.ensures ∙ c.requires.together in
    let plan = bits_of plans s c.from-at.result c.index-plan.result.now exists at c.index-plan.ensures in
    let first_is = held shapes sets s c.from-at.result c.index-2.result.now c.requires.whole exists at c.index-2.ensures in
    let room = c.requires.room s (omega (arith, exists, length-map plans shape_of_plan)) in
    let positions : c.of.result.positions ≤ 512 * length (blocks_at sets s) = omega (arith, ap (λ (l : Lines). l.positions) c.of.ensures.value, ap position_count plan.1, room_much shapes sets s c.requires.whole exists) in
    let first = c.hold_blocks.new.room.cells.items in
    back_of c.of.result c.of.ensures.lines p b
    (back_held (blocks_in c.index-2.result.now) c.over.result c.of.result first (omega (arith, positions, ap length first_is)) (omega (arith, room, ap length first_is, c.hold_blocks.ensures.count))
    (λ k none m h. c.hold_blocks.ensures.held k none m (omega (arith, h, c.hold_blocks.ensures.count))) p b (sym (c.join_words.ensures.cuts p) ∙ off))

pub take_words-requires-clause-planes : goal.take_words-requires-clause-planes
take_words-requires-clause-planes g c κs live =
    let shapes = shapes_in c.args.store.now in
    let sets = c.args.store.now.sets.items in
    let plans = c.args.store.now.plans.items in
    let along = c.args.along.now in
    let s = along.source.set in
    let exists = c.requires.along.0.0 in
    let at = c.from-at.ensures ∙ c.requires.together in
    let plan = bits_of plans s c.from-at.result c.index-plan.result.now exists at c.index-plan.ensures in
    let has : HasPlanes (bits_at shapes s + 2) (blocks_in c.index_mut-2.result.now) =
    subst (λ (bs : List Block). HasPlanes (bits_at shapes s + 2) bs) (sym (held shapes sets s c.from-at.result c.index_mut-2.result.now c.requires.whole exists at c.index_mut-2.ensures.value))
    (c.requires.whole.each s exists).planes in
    λ k none b. omega (arith, has k none b, plan.0, ap (λ (x : Scan). x.context) c.over.ensures)

pub take_words-requires-clause-few : goal.take_words-requires-clause-few
take_words-requires-clause-few g c κs live =
    let shapes = shapes_in c.args.store.now in
    let sets = c.args.store.now.sets.items in
    omega (
      arith,
      ap length (held shapes sets c.args.dest.set c.from-at.result c.index_mut-2.result.now c.requires.whole c.requires.dest.0 c.from-at.ensures c.index_mut-2.ensures.value),
      few_blocks shapes sets c.args.dest.set c.requires.whole c.requires.dest.0,
    )

pub returns : goal.returns
returns g c =
    let shapes = shapes_in c.args.store.now in
    let sets = c.args.store.now.sets.items in
    let plans = c.args.store.now.plans.items in
    let along = c.args.along.now in
    let s = along.source.set in
    let exists = c.requires.along.0.0 in
    let at = c.from-at.ensures ∙ c.requires.together in
    let plan = bits_of plans s c.from-at.result c.index-plan.result.now exists at c.index-plan.ensures in
    let d = c.args.dest in
    let whole = c.requires.whole in
    let fits = c.requires.along in
    let to = c.index_mut-2.result.now in
    let scan_is : c.over.result ≡ scan_here shapes sets whole along fits = c.over.ensures ∙ ap (scan_over along) plan.0 in
    let lines_is : c.of.result ≡ lines_here shapes sets whole along fits = c.of.ensures.value ∙ ap (λ xs. lines_of xs along.axis along.direction) plan.1 in
    let first_is = held shapes sets s c.from-at.result c.index-2.result.now c.requires.whole exists at c.index-2.ensures in
    let room = c.requires.room s (omega (arith, exists, length-map plans shape_of_plan)) in
    let positions : c.of.result.positions ≤ 512 * length (blocks_at sets s) = omega (arith, ap (λ (l : Lines). l.positions) c.of.ensures.value, ap position_count plan.1, room_much shapes sets s c.requires.whole exists) in
    let home = held shapes sets s c.from-at.result to whole exists at c.index_mut-2.ensures.value in
    let first = c.hold_blocks.new.room.cells.items in
    let second = c.join_words.new.room.cells.items in
    let all : AllHold first (blocks_at sets s) (scan_here shapes sets whole along fits) (lines_here shapes sets whole along fits) =
    moved (AllHold first) _ _ _ _ _ _ first_is scan_is lines_is (λ k none m h. c.hold_blocks.ensures.held k none m (omega (arith, h, c.hold_blocks.ensures.count))) in
    let joined : Joined along.combiner (lines_here shapes sets whole along fits) first second = subst (λ (l : Lines). Joined along.combiner l first second) lines_is c.join_words.ensures in
    let there = held_at (blocks_at sets s) (scan_here shapes sets whole along fits) (lines_here shapes sets whole along fits) first (room_much shapes sets s whole exists)
    (omega (arith, room, c.hold_blocks.ensures.count)) all in
    let each = λ (w : Winner) (k : ℕ) (e : Block) (b : k < length (blocks_in to)).
    taken_in_block shapes sets whole along fits w first second there joined d c.requires.together (blocks_in to) home k e _ b
    (moved (TakenFrom second d k (planes_in (get_or (blocks_in to) k e)) (planes_in (get_or (blocks_in c.take_words.new.set) k e))) (blocks_in to) (blocks_in to) _ _ _ _ refl scan_is lines_is (c.take_words.ensures.each k e b)) in
    let write = λ (w : Winner). at_active shapes (memory_in c.args.store.now w) d (λ p. scanned shapes (memory_in c.args.store.now w) (scan_of along) p) in
    let kept = blocks_whole shapes sets to c.take_words.new.set c.from-at.result (write W.High) whole c.requires.dest.0 c.from-at.ensures c.index_mut-2.ensures.value c.take_words.ensures.count (each W.High) in
    record {
      whole = kept;
      room = λ set b.
          let known : set < length shapes = omega (arith, length-map plans shape_of_plan) in
          omega (arith, (kept.each set known).count, (whole.each set known).count, c.requires.room set b, c.hold_blocks.ensures.count, c.join_words.ensures.count);
      shapes = refl;
      memory = λ w. blocks_written shapes sets to c.take_words.new.set c.from-at.result (write w) whole c.requires.dest.0 c.from-at.ensures c.index_mut-2.ensures.value c.take_words.ensures.count (each w) w;
    }
