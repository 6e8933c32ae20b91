-- Where each place is its position, a part of a scan is a block.
use Rattle.std.proofs.Common.{◌≡◌, ℕ, zero, suc, ◌+◌, ◌-◌, ◌*◌, ◌/◌, ◌%◌, ◌^◌, ◌<◌, ◌≤◌, Bool, true, false, ◌&&◌, cond, eqb, List, Option, Some, None, inl, inr, refl, sym, ◌∙◌, ap, subst, arith}
use Rattle.std.specs.Prelude.{◌||◌}
use Rattle.std.proofs.lemmas.Bool.{cases_eq, cases_Bool, lt-ltb, or_right}
use Rattle.cstar_base.specs.declared.operators.SegmentMode.{SegmentMode}
use Rattle.cstar_base.specs.declared.operators.SegmentMode.TheVariants as M
use Rattle.cstar_base.specs.declared.operators.Direction.TheVariants as D
use Rattle.cstar_base.specs.Orders.{any_of}
use Rattle.bit_planes.specs.declared.block.Block.{Block}
use Rattle.bit_planes.specs.declared.plane.Plane.{Plane}
use Rattle.bit_planes.specs.Bits.{bit}
use Rattle.bit_planes.specs.Planes.{plane_at, number}
use Rattle.paris_code.specs.declared.operands.Field.{Field}
use Rattle.paris_code.specs.Memory.{run_number}
use Rattle.paris_code.specs.Scanning.{parts}
use Rattle.block_store.specs.Phases.{LanesWritten}
use Rattle.block_store.specs.Planes.{planes_at, block_bit}
use Rattle.block_store.proofs.Lanes.{run_is}
use Rattle.reduce_scan.specs.declared.lines.Lines.{Lines}
use Rattle.reduce_scan.specs.declared.lines.Scan.{Scan}
use Rattle.reduce_scan.specs.Parts.{ordered_at, active_there, value_there, bit_there, begins_there, cut_there, part_fold, part_begins, fold_there}
use Rattle.reduce_scan.specs.Running.{running}
use Rattle.reduce_scan.specs.WithinBlocks.{active_in, value_in, bit_in, begins_in, cut_in, fold_in, scanned_in, start_in}
use Rattle.reduce_scan.proofs.Order.{straight}
use Rattle.reduce_scan.proofs.Parts.{once, none}
use Rattle.reduce_scan.proofs.Scans.{running_on}
use Rattle.reduce_scan.proofs.WordRuns.{running_alike}

-- upward, a segment begins by what its first position holds
upward : (mode : SegmentMode) (first second active : Bool) → parts mode D.Upward first second active ≡ parts mode D.Upward false second active
upward M.NoSegments first second active = refl
upward M.StartBit first second active = refl
upward M.SegmentBit first second active = refl

any_alike : (f g : ℕ → Bool) (n : ℕ) → ((j : ℕ) → j < n → f (suc j) ≡ g (suc j)) → any_of f 1 n ≡ any_of g 1 n
unfolding any_of
any_alike f g zero same = refl
any_alike f g (suc n) same =
    ap (λ t. t || f (1 + n)) (any_alike f g n (λ j b. same j (omega arith)))
    ∙ ap (λ t. any_of g 1 n || t) (ap f (let e : 1 + n ≡ suc n = omega arith in e) ∙ same n (omega arith) ∙ ap g (let e : suc n ≡ 1 + n = omega arith in e))

-- a number is the fold before part k, where nothing begins there
abbrev pub CarriedTo : List Block → Scan → Lines → ℕ → ℕ → Type 0
CarriedTo blocks scan lines k before = 512 * k < lines.positions → cond (cut_there blocks scan lines (512 * k)) (none scan.combiner) before ≡ fold_there blocks scan lines (512 * k)

-- block k has been scanned from a start
abbrev pub ScannedFrom : ℕ → Field → ℕ → List Plane → List Plane → List Block → Scan → Lines → Type 0
ScannedFrom start d k old new blocks scan lines =
    LanesWritten d.offset d.len (plane_at old scan.context) (λ i. scanned_in old scan lines.extent k start i % 2 ^ d.len) old new

pub scanned_same : (start begin : ℕ) (d : Field) (k : ℕ) (old was new is : List Plane) (blocks : List Block) (scan : Scan) (lines : Lines) → start ≡ begin → old ≡ was → new ≡ is
    → ScannedFrom start d k old new blocks scan lines → ScannedFrom begin d k was is blocks scan lines
scanned_same start begin d k old was new is blocks scan lines e f g done =
    subst (λ (n : List Plane). ScannedFrom begin d k was n blocks scan lines) g
    (subst (λ (o : List Plane). ScannedFrom begin d k o new blocks scan lines) f (subst (λ (s : ℕ). ScannedFrom s d k old new blocks scan lines) e done))

module _ (blocks : List Block) (scan : Scan) (lines : Lines) (up : lines.direction ≡ D.Upward) (one : lines.apart ≡ 1) (k : ℕ) (planes : List Plane) (here : planes ≡ planes_at blocks k) where
  active_is : (i : ℕ) → i < 512 → active_there blocks scan (ordered_at lines (512 * k + i)) ≡ active_in planes scan i
  unfolding block_bit
  active_is i b =
      let q : ℕ = 512 * k + i in
      ap (λ p. eqb (bit (plane_at (planes_at blocks (p / 512)) scan.context) (p % 512)) 1) (straight lines q up one)
      ∙ ap (λ j. eqb (bit (plane_at (planes_at blocks j) scan.context) (q % 512)) 1) (let e : q / 512 ≡ k = omega (arith, b) in e)
      ∙ ap (λ l. eqb (bit (plane_at (planes_at blocks k) scan.context) l) 1) (let e : q % 512 ≡ i = omega (arith, b) in e)
      ∙ ap (λ ps. eqb (bit (plane_at ps scan.context) i) 1) (sym here)

  field_is : (f : Field) (i : ℕ) → i < 512 → run_number (block_bit blocks (ordered_at lines (512 * k + i))) f.offset f.len ≡ number planes f.offset f.len i
  unfolding block_bit
  field_is f i b =
      let q : ℕ = 512 * k + i in
      ap (λ p. run_number (block_bit blocks p) f.offset f.len) (straight lines q up one)
      ∙ sym (run_is (planes_at blocks (q / 512)) f.offset f.len (q % 512))
      ∙ ap (λ j. number (planes_at blocks j) f.offset f.len (q % 512)) (let e : q / 512 ≡ k = omega (arith, b) in e)
      ∙ ap (λ l. number (planes_at blocks k) f.offset f.len l) (let e : q % 512 ≡ i = omega (arith, b) in e)
      ∙ ap (λ ps. number ps f.offset f.len i) (sym here)

  bit_is : (f : Option Field) (i : ℕ) → i < 512 → bit_there blocks f (ordered_at lines (512 * k + i)) ≡ bit_in planes f i
  bit_is None i b = refl
  bit_is (Some f) i b = ap (λ n. eqb n 1) (field_is f i b)

  begins_is : (first i : ℕ) → i < 512 → begins_there blocks scan lines first (ordered_at lines (512 * k + i)) ≡ begins_in planes scan i
  begins_is first i b =
      let p : ℕ = ordered_at lines (512 * k + i) in
      let before : Bool = bit_there blocks scan.bit first in
      let own : Bool = bit_there blocks scan.bit p in
      ap (λ d. parts scan.mode d before own (active_there blocks scan p)) up
      ∙ upward scan.mode before own (active_there blocks scan p)
      ∙ ap (λ t. parts scan.mode D.Upward false t (active_there blocks scan p)) (bit_is scan.bit i b)
      ∙ ap (λ t. parts scan.mode D.Upward false (bit_in planes scan.bit i) t) (active_is i b)

  cut_is : (i : ℕ) → i < 512 → 512 * k + i < lines.positions → cut_there blocks scan lines (512 * k + i) ≡ cut_in planes scan lines.extent k i
  cut_is i b within =
      let q : ℕ = 512 * k + i in
      let line : Bool = eqb (q % lines.extent) 0 in
      ap (λ t. t && (line || begins_there blocks scan lines (ordered_at lines (q - 1)) (ordered_at lines q))) (lt-ltb q lines.positions within)
      ∙ ap (λ t. line || t) (begins_is (ordered_at lines (q - 1)) i b)
      ∙ sym (ap (λ t. t && (line || begins_in planes scan i)) (lt-ltb i 512 b))

  -- the fold before the first lane of a block
  pub start_is : 512 * k < lines.positions → (before : ℕ) → CarriedTo blocks scan lines k before → start_in planes scan lines.extent k before ≡ fold_there blocks scan lines (512 * k)
  start_is within before carried =
      ap (λ t. cond t (none scan.combiner) before)
      (sym (cut_is 0 (omega arith) (omega (arith, within))) ∙ ap (cut_there blocks scan lines) (let e : 512 * k + 0 ≡ 512 * k = omega arith in e))
      ∙ carried within

  alike : (start n : ℕ) → n ≤ 512 → ((j : ℕ) → j < n → cut_in planes scan lines.extent k (suc j) ≡ cut_there blocks scan lines (512 * k + suc j))
      → fold_in planes scan lines.extent k start n ≡ part_fold blocks scan lines k start n
  alike start n b same =
      running_alike scan.combiner (λ j. cut_in planes scan lines.extent k j) (λ j. cut_there blocks scan lines (512 * k + j)) (λ j. active_in planes scan j)
      (λ j. active_there blocks scan (ordered_at lines (512 * k + j))) (λ j. value_in planes scan j) (λ j. value_there blocks scan (ordered_at lines (512 * k + j))) start n
      same (λ j h. sym (active_is j (omega arith))) (λ j h. sym (field_is scan.source j (omega arith)))

  -- the fold in a block is that of its part
  pub fold_is : (start n : ℕ) → n < 512 → 512 * k + n < lines.positions → fold_in planes scan lines.extent k start n ≡ part_fold blocks scan lines k start n
  fold_is start n b within = alike start n (omega arith) (λ j h. sym (cut_is (suc j) (omega arith) (omega arith)))

  module _ (more : 512 * (k + 1) < lines.positions) (goes_on : cut_there blocks scan lines (512 * k + 512) ≡ false) where
    same_cuts : (j : ℕ) → j < 512 → cut_in planes scan lines.extent k (suc j) ≡ cut_there blocks scan lines (512 * k + suc j)
    same_cuts j b = elim (cases_eq (suc j) 512) [
      | inl e ↦ ap (λ n. cut_in planes scan lines.extent k n) e ∙ sym (ap (λ n. cut_there blocks scan lines (512 * k + n)) e ∙ goes_on)
      | inr n ↦ sym (cut_is (suc j) (omega (arith, n)) (omega (arith, n)))
    ]

    -- the same to its end, where nothing begins behind it
    pub whole_is : (start : ℕ) → fold_in planes scan lines.extent k start 512 ≡ part_fold blocks scan lines k start 512
    whole_is start = alike start 512 (omega arith) same_cuts

    pub begins_in_part : any_of (λ i. cut_in planes scan lines.extent k i) 1 512 ≡ part_begins blocks scan lines k 512
    begins_in_part = any_alike (λ i. cut_in planes scan lines.extent k i) (λ j. cut_there blocks scan lines (512 * k + j)) 512 same_cuts

-- a part behind which something begins
pub cut_tail : (blocks : List Block) (scan : Scan) (lines : Lines) (k start : ℕ) → cut_there blocks scan lines (512 * k + 512) ≡ true → part_fold blocks scan lines k start 512 ≡ none scan.combiner
unfolding running
cut_tail blocks scan lines k start cut =
    ap (λ t. cond t (none scan.combiner) (cond (active_there blocks scan (ordered_at lines (512 * k + 511))) (once scan.combiner (part_fold blocks scan lines k start 511) (value_there blocks scan (ordered_at lines (512 * k + 511)))) (part_fold blocks scan lines k start 511))) cut

pub cut_begins : (blocks : List Block) (scan : Scan) (lines : Lines) (k : ℕ) → cut_there blocks scan lines (512 * k + 512) ≡ true → part_begins blocks scan lines k 512 ≡ true
unfolding any_of
cut_begins blocks scan lines k cut = or_right (part_begins blocks scan lines k 511) (cut_there blocks scan lines (512 * k + 512)) cut

-- the fold before the first part, and before the next one
pub carried_first : (blocks : List Block) (scan : Scan) (lines : Lines) (before : ℕ) → before ≡ none scan.combiner → CarriedTo blocks scan lines 0 before
unfolding running
carried_first blocks scan lines before is within = ap (λ s. cond (cut_there blocks scan lines 0) (none scan.combiner) s) is ∙ either (cut_there blocks scan lines 0)
  where
    either : (t : Bool) → cond t (none scan.combiner) (none scan.combiner) ≡ none scan.combiner
    either true = refl
    either false = refl

pub carried_on : (blocks : List Block) (scan : Scan) (lines : Lines) (up : lines.direction ≡ D.Upward) (one : lines.apart ≡ 1) (k : ℕ) (planes : List Plane) (here : planes ≡ planes_at blocks k)
    (total : ℕ) → total ≡ fold_in planes scan lines.extent k (fold_there blocks scan lines (512 * k)) 512 → CarriedTo blocks scan lines (k + 1) total
carried_on blocks scan lines up one k planes here total is more =
    let c = scan.combiner in
    let q : ℕ = 512 * k + 512 in
    let start : ℕ = fold_there blocks scan lines (512 * k) in
    let next : 512 * (k + 1) ≡ q = omega arith in
    let part : part_fold blocks scan lines k start 512 ≡ fold_there blocks scan lines (512 * (k + 1)) =
    sym (running_on c (λ j. cut_there blocks scan lines j) (λ j. active_there blocks scan (ordered_at lines j)) (λ j. value_there blocks scan (ordered_at lines j)) (none c) (512 * k) 512)
    ∙ ap (fold_there blocks scan lines) (sym next) in
    ap (λ p. cond (cut_there blocks scan lines p) (none c) total) next
    ∙ elim (cases_Bool (cut_there blocks scan lines q)) [
      | inl on ↦ ap (λ t. cond t (none c) total) on ∙ sym (cut_tail blocks scan lines k start on) ∙ part
      | inr off ↦ ap (λ t. cond t (none c) total) off ∙ is ∙ whole_is blocks scan lines up one k planes here more off start ∙ part
    ]
