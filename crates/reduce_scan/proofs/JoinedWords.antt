-- The words of a set, each joined to the one before it on its line, give what the scan means.
use Rattle.std.proofs.Common.{◌≡◌, ℕ, zero, suc, ◌+◌, ◌*◌, ◌/◌, ◌%◌, ◌^◌, ◌<◌, ◌≤◌, Bool, true, false, not, ◌&&◌, cond, eqb, List, [], length, get_or, refl, sym, ◌∙◌, ap, subst, inl, inr, arith}
use Rattle.std.specs.Prelude.{◌||◌}
use Rattle.std.proofs.lemmas.Bool.{cases_Bool, eq-eqb, lt-ltb, cases_lt}
use Rattle.std.proofs.lemmas.List.{get_or-map}
use Rattle.vp_sets.specs.Lines.{steps_before}
use Rattle.vp_sets.specs.Positions.{position_count}
use Rattle.cstar_base.specs.declared.operators.Inclusion.{Inclusion}
use Rattle.cstar_base.specs.declared.operators.Inclusion.TheVariants as N
use Rattle.cstar_base.specs.declared.operators.Winner.{Winner}
use Rattle.cstar_base.proofs.FoldLaws.{identity_first, fold_once_below}
use Rattle.bit_planes.specs.declared.block.Block.{Block}
use Rattle.bit_planes.specs.declared.plane.Plane.{Plane}
use Rattle.bit_planes.specs.Bits.{bit}
use Rattle.bit_planes.specs.Planes.{plane_at}
use Rattle.paris_code.specs.declared.operands.Field.{Field}
use Rattle.paris_code.specs.declared.operands.Reduction.{Reduction}
use Rattle.paris_code.specs.Fetching.{at_active}
use Rattle.paris_code.specs.Memory.{field_number, is_active}
use Rattle.paris_code.specs.Operators.{combiner_of}
use Rattle.paris_code.specs.Scanning.{with_own, scanned}
use Rattle.paris_code.specs.Shapes.{SetShape, bits_at, extents_at}
use Rattle.phase_meaning.specs.Scans.{IsPrevious, before_at}
use Rattle.phase_meaning.proofs.Runs.{begins, first_fold, begun_fold, more_fold, same_fold}
use Rattle.phase_meaning.proofs.Widths.{cut_cut}
use Rattle.block_store.specs.declared.set.BlockSet.{BlockSet}
use Rattle.block_store.specs.declared.set.Cell.{Cell}
use Rattle.block_store.specs.Phases.{LanesWritten, WrittenInBlock}
use Rattle.block_store.specs.Planes.{planes_in, planes_at, block_bit}
use Rattle.block_store.specs.Stored.{blocks_at, stored, word_at, AreWhole}
use Rattle.block_store.proofs.AllBlocks.{in_block}
use Rattle.block_store.proofs.Fetches.{some_cell, word_read}
use Rattle.reduce_scan.specs.declared.lines.AxisScan.{AxisScan}
use Rattle.reduce_scan.specs.declared.lines.Lines.{Lines}
use Rattle.reduce_scan.specs.declared.lines.Scan.{Scan}
use Rattle.reduce_scan.specs.Across.{begins_line, previous, HasPrevious, stops_there, own_there, Holds, cuts_of, is_held_cut, Joined, taken_at}
use Rattle.reduce_scan.specs.Along.{scan_of, ScanFits}
use Rattle.reduce_scan.specs.Parts.{begins_there, active_there}
use Rattle.reduce_scan.proofs.LineSteps.{back_of, previous_below, previous_earlier, first_of_line, line_before}
use Rattle.reduce_scan.proofs.Parts.{once, none, none_below, none_last}
use Rattle.reduce_scan.proofs.Scanned.{blocks_here, scan_here, lines_here, positive, lines_are, begins_is, value_below}
use Rattle.reduce_scan.proofs.WithinBlocks.{same_written}

-- what the cells hold of the blocks
abbrev pub AllHold : List Cell → List Block → Scan → Lines → Type 0
AllHold cells blocks scan lines = (k : ℕ) (none : Cell) → k < length blocks → k < length cells → Holds blocks scan lines k (get_or cells k none)

-- a block has taken its words
abbrev pub TakenFrom : List Cell → Field → ℕ → List Plane → List Plane → List Block → Scan → Lines → Type 0
TakenFrom cells d k old new blocks scan lines =
    LanesWritten d.offset d.len (plane_at old scan.context) (λ i. taken_at scan.combiner scan.inclusion lines cells (512 * k + i) % 2 ^ d.len) old new

-- by positions
pub record HeldAt (blocks : List Block) (scan : Scan) (lines : Lines) (cells : List Cell) (p : ℕ) : Type 0 where
  pub word : word_at cells p ≡ own_there blocks scan p
  pub cut : is_held_cut cells p ≡ stops_there blocks scan lines p

pub held_at : (blocks : List Block) (scan : Scan) (lines : Lines) (cells : List Cell) → lines.positions ≤ 512 * length blocks → length blocks ≤ length cells → AllHold cells blocks scan lines
    → (p : ℕ) → p < lines.positions → HeldAt blocks scan lines cells p
unfolding is_held_cut
held_at blocks scan lines cells much room all p b =
    let k : ℕ = p / 512 in
    let there : k < length blocks = omega (arith, b, much) in
    let within : k < length cells = omega (arith, there, room) in
    let is : 512 * k + p % 512 ≡ p = omega arith in
    some_cell _ cells k within (λ e. record {
      word = sym (word_read cells p e within) ∙ (all k e there within).words (p % 512) (omega arith) ∙ ap (own_there blocks scan) is;
      cut = ap (λ q. eqb (bit q (p % 512)) 1) (get_or-map cuts_of cells k e [] within)
          ∙ (all k e there within).cuts (p % 512) (omega arith) (omega (arith, is, b)) ∙ ap (stops_there blocks scan lines) is;
    })

-- where nothing begins, there is a position before
pub back_held : (blocks : List Block) (scan : Scan) (lines : Lines) (cells : List Cell) → lines.positions ≤ 512 * length blocks → length blocks ≤ length cells → AllHold cells blocks scan lines
    → (p : ℕ) → p < lines.positions → is_held_cut cells p ≡ false → begins_line lines p ≡ false
back_held blocks scan lines cells much room all p b off =
    left (begins_line lines p) (begins_there blocks scan lines (previous lines.direction lines.apart p) p) (sym (held_at blocks scan lines cells much room all p b).cut ∙ off)
  where
    left : (s t : Bool) → (s || t) ≡ false → s ≡ false
    left true t e = e
    left false t e = refl

-- words that begin, and words that go on
begun_word : (c : Reduction) (a : Bool) (v : ℕ) → v < 2 ^ 32 → cond a v (none c) ≡ cond a (once c (none c) v) (none c)
begun_word c true v b = sym (identity_first (combiner_of c).0 (combiner_of c).1 v b)
begun_word c false v b = refl

more_word : (c : Reduction) (a : Bool) (r v : ℕ) → r < 2 ^ 32 → once c r (cond a v (none c)) ≡ cond a (once c r v) r
more_word c true r v b = refl
more_word c false r v b = none_last c r b

word_fits : (c : Reduction) (a : Bool) (r v : ℕ) → r < 2 ^ 32 → v < 2 ^ 32 → cond a (once c r v) r < 2 ^ 32
word_fits c true r v p q = fold_once_below (combiner_of c).0 (combiner_of c).1 r v p q
word_fits c false r v p q = p

module _ (shapes : List SetShape) (sets : List BlockSet) (whole : AreWhole shapes sets) (along : AxisScan) (fits : ScanFits shapes along) (w : Winner) where
  abbrev count : ℕ
  count = position_count (extents_at shapes along.source.set)

  abbrev lines : Lines
  lines = lines_here shapes sets whole along fits

  abbrev acts : ℕ → Bool
  acts p = is_active shapes (stored sets w) along.source.set p

  abbrev value : ℕ → ℕ
  value p = field_number (stored sets w) along.source p

  abbrev before : ℕ → ℕ
  before p = before_at shapes (stored sets w) (scan_of along) p

  -- the fold behind a position
  abbrev behind : ℕ → ℕ
  behind p = cond (acts p) (once along.combiner (before p) (value p)) (before p)

  value_small : (p : ℕ) → value p < 2 ^ 32
  unfolding field_number stored
  value_small p = value_below shapes sets whole along fits w p

  module _ (first second : List Cell) (held : (p : ℕ) → p < count → HeldAt (blocks_here shapes sets whole along fits) (scan_here shapes sets whole along fits) lines first p)
      (joined : Joined along.combiner lines first second) where
    abbrev c : Reduction
    c = along.combiner

    abbrev back : ℕ → ℕ
    back p = previous along.direction lines.apart p

    starts : ℕ → Bool
    starts p = begins shapes (stored sets w) (scan_of along) (back p) p

    own_is : (p : ℕ) → p < count → word_at first p ≡ cond (acts p) (value p) (none c)
    unfolding is_active field_number stored
    own_is p b = (held p b).word

    cut_is : (p : ℕ) → p < count → is_held_cut first p ≡ (begins_line lines p || starts p)
    unfolding starts is_active stored
    cut_is p b =
        (held p b).cut
        ∙ ap (λ t. begins_line lines p || t) (begins_is shapes sets whole along fits w along.mode along.bit along.direction (back p) p
        (active_there (blocks_here shapes sets whole along fits) (scan_here shapes sets whole along fits) p) fits.3)

    -- what a position means by whether something begins there, and by the one before it
    record Means (p : ℕ) : Type 0 where
      cut : is_held_cut first p ≡ true → before p ≡ none c
      has : is_held_cut first p ≡ false → HasPrevious lines p
      on : is_held_cut first p ≡ false → before p ≡ behind (back p)

    previous_on : (p : ℕ) → p < count → begins_line lines p ≡ false → IsPrevious (extents_at shapes along.source.set) (scan_of along) p (back p)
    previous_on p b n =
        line_before (extents_at shapes along.source.set) (scan_of along) (positive shapes sets whole along fits) fits.2 p b
        (previous_below along.direction lines.apart count p b (back_of lines (lines_are shapes sets whole along fits) p b n)) n

    before_on : (p : ℕ) → p < count → begins_line lines p ≡ false → starts p ≡ false → before p ≡ behind (back p)
    unfolding starts
    before_on p b n off = elim (cases_Bool (acts (back p))) [
      | inl here ↦ more_fold shapes (stored sets w) (scan_of along) p (back p) (previous_on p b n) off here ∙ sym (ap (λ t. cond t (once c (before (back p)) (value (back p))) (before (back p))) here)
      | inr idle ↦ same_fold shapes (stored sets w) (scan_of along) p (back p) (previous_on p b n) off idle ∙ sym (ap (λ t. cond t (once c (before (back p)) (value (back p))) (before (back p))) idle)
    ]

    begun_at : (p : ℕ) → p < count → begins_line lines p ≡ false → starts p ≡ true → before p ≡ none c
    unfolding starts
    begun_at p b n on = begun_fold shapes (stored sets w) (scan_of along) p (back p) (previous_on p b n) on

    means : (p : ℕ) → p < count → Means p
    means p b = elim (cases_Bool (begins_line lines p)) [
      | inl one ↦ record {
        cut = λ e. first_fold shapes (stored sets w) (scan_of along) p (first_of_line (extents_at shapes along.source.set) (scan_of along) (positive shapes sets whole along fits) fits.2 p one);
        has = λ e. absurd (clash (ap (λ t. t || starts p) (sym one) ∙ sym (cut_is p b) ∙ e));
        on = λ e. absurd (clash (ap (λ t. t || starts p) (sym one) ∙ sym (cut_is p b) ∙ e));
      }
      | inr n ↦
          let is : is_held_cut first p ≡ starts p = cut_is p b ∙ ap (λ t. t || starts p) n in
          record {
            cut = λ e. begun_at p b n (sym is ∙ e);
            has = λ e. back_of lines (lines_are shapes sets whole along fits) p b n;
            on = λ e. before_on p b n (sym is ∙ e);
          }
    ]
      where
        clash : true ≡ false → ⊥
        clash e = cc

    -- the joined word of a position is the fold behind it
    word_is : (n p : ℕ) → p < count → steps_before along.direction count p < n → (word_at second p ≡ behind p) × (behind p < 2 ^ 32)
    word_is zero p b early = absurd (omega arith)
    word_is (suc n) p b early =
        let m : Means p = means p b in
        let own : ℕ = cond (acts p) (value p) (none c) in
        let next : ℕ → ℕ = λ r. cond (acts p) (once c r (value p)) r in
        let rest : word_at second p ≡ cond (is_held_cut first p) (word_at first p) (once c (word_at second (back p)) (word_at first p)) = joined.words p b in
        elim (cases_Bool (is_held_cut first p)) [
          | inl on ↦ (
            rest ∙ ap (λ t. cond t (word_at first p) (once c (word_at second (back p)) (word_at first p))) on
                ∙ own_is p b ∙ begun_word c (acts p) (value p) (value_small p) ∙ ap next (sym (m.cut on)),
            subst (λ r. next r < 2 ^ 32) (sym (m.cut on)) (word_fits c (acts p) (none c) (value p) (none_below c) (value_small p)),
          )
          | inr off ↦
              let has : HasPrevious lines p = m.has off in
              let there = word_is n (back p) (previous_below along.direction lines.apart count p b has)
              (omega (arith, early, previous_earlier along.direction lines.apart count p (lines_are shapes sets whole along fits).apart b has)) in (
                rest ∙ ap (λ t. cond t (word_at first p) (once c (word_at second (back p)) (word_at first p))) off
                    ∙ ap (λ r. once c r (word_at first p)) there.0 ∙ ap (once c (behind (back p))) (own_is p b)
                    ∙ more_word c (acts p) (behind (back p)) (value p) there.1 ∙ ap next (sym (m.on off)),
                subst (λ r. next r < 2 ^ 32) (sym (m.on off)) (word_fits c (acts p) (behind (back p)) (value p) there.1 (value_small p)),
              )
        ]

    behind_is : (p : ℕ) → p < count → word_at second p ≡ behind p
    behind_is p b = (word_is (suc (steps_before along.direction count p)) p b (omega arith)).0

    -- what an active position takes
    taken_is : (i : Inclusion) (p : ℕ) → p < count → acts p ≡ true → taken_at c i lines second p ≡ with_own i (λ t. once c t (value p)) (before p)
    unfolding taken_at
    taken_is N.Inclusive p b on = behind_is p b ∙ ap (λ t. cond t (once c (before p) (value p)) (before p)) on
    taken_is N.Exclusive p b active =
        let m : Means p = means p b in
        let same : is_held_cut second p ≡ is_held_cut first p = joined.cuts p in
        ap (λ t. cond (t && not (is_held_cut second p)) (word_at second (back p)) (none c)) (lt-ltb p count b)
        ∙ ap (λ t. cond (not t) (word_at second (back p)) (none c)) same
        ∙ elim (cases_Bool (is_held_cut first p)) [
          | inl on ↦ ap (λ t. cond (not t) (word_at second (back p)) (none c)) on ∙ sym (m.cut on)
          | inr off ↦ ap (λ t. cond (not t) (word_at second (back p)) (none c)) off
              ∙ behind_is (back p) (previous_below along.direction lines.apart count p b (m.has off)) ∙ sym (m.on off)
        ]

    -- a block that has taken its words is as the scan has it
    pub taken_in_block : (d : Field) → d.set ≡ along.source.set → (blocks : List Block) → blocks ≡ blocks_here shapes sets whole along fits → (k : ℕ) (e : Block) (new : List Plane) → k < length blocks
        → TakenFrom second d k (planes_in (get_or blocks k e)) new blocks (scan_here shapes sets whole along fits) lines
        → WrittenInBlock shapes (at_active shapes (stored sets w) d (λ p. scanned shapes (stored sets w) (scan_of along) p)) k (planes_in (get_or blocks k e)) new
    unfolding is_active scanned stored block_bit
    taken_in_block d together blocks same k e new b done =
        let old : List Plane = planes_in (get_or blocks k e) in
        let context : ℕ = bits_at shapes along.source.set in
        let near : (p : ℕ) → p / 512 ≡ k → old ≡ planes_at (blocks_here shapes sets whole along fits) (p / 512) =
        λ p h. sym (get_or-map planes_in blocks k e [] b) ∙ ap (λ bs. planes_at bs k) same ∙ ap (planes_at (blocks_here shapes sets whole along fits)) (sym h) in
        let meant : ℕ → ℕ = λ p. scanned shapes (stored sets w) (scan_of along) p in
        let active : (p : ℕ) → p / 512 ≡ k → bit (plane_at old context) (p % 512) ≡ block_bit (blocks_at sets along.source.set) p context = λ p h. ap (λ ps. bit (plane_at ps context) (p % 512)) (near p h) in
        let set_is = whole.each along.source.set fits.0.0 in
        let all : LanesWritten d.offset d.len (plane_at old context) (λ i. meant (512 * k + i) % 2 ^ d.len) old new =
        same_written d.offset d.len (plane_at old context) (plane_at old context) (λ i. taken_at c along.inclusion lines second (512 * k + i) % 2 ^ d.len) (λ i. meant (512 * k + i) % 2 ^ d.len) old new refl done
        (λ i h on.
        let p : ℕ = 512 * k + i in
        let at : p / 512 ≡ k = omega (arith, h) in
        let lane : p % 512 ≡ i = omega (arith, h) in
        let is_on : block_bit (blocks_at sets along.source.set) p context ≡ 1 = sym (active p at) ∙ ap (bit (plane_at old context)) lane ∙ on in
        elim (cases_lt p count) [
          | inl low ↦ ap (λ n. n % 2 ^ d.len) (taken_is along.inclusion p low (eq-eqb (block_bit (blocks_at sets along.source.set) p context) 1 is_on))
          | inr past ↦ absurd (omega (arith, is_on, set_is.padding p past (omega (arith, h, b, ap length same, set_is.count))))
        ]) in
        in_block shapes (at_active shapes (stored sets w) d meant) k (plane_at old context) (λ i. meant (512 * k + i) % 2 ^ d.len) old new all
        (λ p h within.
        ap (λ ps. eqb (bit (plane_at ps context) (p % 512)) 1) (near p h)
        ∙ ap (λ s. eqb (bit (plane_at (planes_at (blocks_at sets s) (p / 512)) (bits_at shapes s)) (p % 512)) 1) (sym together))
        (λ p h past off. ap (λ s. bit (plane_at old (bits_at shapes s)) (p % 512)) (sym together) ∙ off)
        (λ p h within.
        cut_cut (meant (512 * k + p % 512)) d.len d.len (omega arith)
        ∙ ap (λ q. meant q % 2 ^ d.len) (let f : 512 * k + p % 512 ≡ p = omega (arith, h) in f))
