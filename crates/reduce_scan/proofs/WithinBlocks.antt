-- Scans along lines on which each place is its position, by the planes of one block.
use Rattle.std.proofs.Common.{◌≡◌, ◌≢◌, ℕ, zero, suc, ◌+◌, ◌-◌, ◌*◌, ◌/◌, ◌%◌, ◌^◌, ◌<◌, ◌≤◌, min, Bool, true, false, ◌&&◌, cond, eqb, ltb, List, get_or, Some, inl, inr, refl, sym, ◌∙◌, ap, subst, zero-add, add-mul, arith}
use Rattle.std.specs.Prelude.{◌||◌, not}
use Rattle.std.specs.Int.{bit_at}
use Rattle.std.proofs.Math.Nat.{add-mul-div_right, add-mul-mod_self_right, div-eq_of_lt, div-add-mod, mod-eq_of_lt, mul_comm}
use Rattle.std.proofs.lemmas.Nat.{mul-le}
use Rattle.std.proofs.lemmas.Grind.{div_ceil_times}
use Rattle.std.proofs.lemmas.Bool.{cases_lt, cases_eq, lt-ltb, le-ltb, eq-eqb, ne_eqb}
use Rattle.cstar_base.specs.Orders.{fold_below, any_of}
use Rattle.bit_planes.specs.declared.plane.Plane.{Plane}
use Rattle.bit_planes.specs.Bits.{bit}
use Rattle.bit_planes.specs.Planes.{plane_at, number}
use Rattle.bit_planes.proofs.Planes.{number-lt, number-suc, number-none}
use Rattle.bit_planes.proofs.Words.{bit-lt}
use Rattle.lane_kernels.specs.Numbers.{ones_before}
use Rattle.paris_code.specs.declared.operands.Field.{Field}
use Rattle.paris_code.specs.Scanning.{with_own}
use Rattle.block_store.specs.Phases.{LanesWritten}
use Rattle.reduce_scan.specs.declared.lines.Scan.{Scan}
use Rattle.reduce_scan.specs.declared.words.Run.{Run}
use Rattle.reduce_scan.specs.Blocks.{block_fold}
use Rattle.reduce_scan.specs.Running.{running}
use Rattle.reduce_scan.specs.WithinBlocks.{run_to, run_word, active_in, value_in, bit_in, cut_in, fold_in, scanned_in}
use Rattle.phase_meaning.proofs.Runs.{fold_same}
use Rattle.reduce_scan.proofs.LaneWords.{lane_whole}
use Rattle.reduce_scan.proofs.Parts.{once, none}
use Rattle.reduce_scan.proofs.WordRuns.{any_is, none_before, running_alike, running_chosen, running_whole}

-- the lines below one that begin in a block
abbrev pub begun : ℕ → ℕ → ℕ → ℕ → Bool
begun extent k line i = eqb ((512 * k + i) % extent) 0 && ltb ((512 * k + i) / extent) line

abbrev pub flag : Bool → ℕ
flag t = cond t 1 0

abbrev pub rounded : ℕ → ℕ → ℕ
rounded n extent = n / extent + min 1 (n % extent)

module _ (extent k from : ℕ) (some : 0 < extent) (is : from ≡ 512 * k) where
  -- a line that begins in the block
  pub line_within : (line : ℕ) → rounded from extent ≤ line → line < rounded (from + 512) extent → (from ≤ line * extent) × (line * extent < from + 512)
  line_within line low high =
      let first = div_ceil_times from extent some in
      let last = div_ceil_times (from + 512) extent some in
      let above : rounded from extent * extent ≤ line * extent = mul-le (rounded from extent) extent line extent low (omega arith) in
      let below : (line + 1) * extent ≤ rounded (from + 512) extent * extent = mul-le (line + 1) extent (rounded (from + 512) extent) extent (omega arith) (omega arith) in
      (omega (arith, first.0, above), omega (arith, last.1, below, add-mul line 1 extent))

  whole : (q : ℕ) → q % extent ≡ 0 → q ≡ q / extent * extent
  whole q e = omega (arith, div-add-mod q extent, mul_comm extent (q / extent), e)

  digits : (line : ℕ) → ((0 + line * extent) / extent ≡ line) × ((0 + line * extent) % extent ≡ 0)
  digits line = (add-mul-div_right 0 line some ∙ ap (λ x. x + line) (div-eq_of_lt some) ∙ zero-add line, add-mul-mod_self_right 0 line extent ∙ mod-eq_of_lt some)

  -- one more of them
  pub begun_more : (line at : ℕ) → at + from ≡ line * extent → (old new : List ℕ) → ((i : ℕ) → i < 512 → bit old i ≡ flag (begun extent k line i))
      → bit new at ≡ 1 → ((i : ℕ) → i < 512 → i ≢ at → bit new i ≡ bit old i) → (i : ℕ) → i < 512 → bit new i ≡ flag (begun extent k (line + 1) i)
  begun_more line at here old new before one others i b =
      let q : ℕ = 512 * k + i in
      elim (cases_eq i at) [
        | inl e ↦
            let there : q ≡ 0 + line * extent = omega (arith, here, e, is) in
            let rest : q % extent ≡ 0 = ap (λ x. x % extent) there ∙ (digits line).1 in
            let quotient : q / extent ≡ line = ap (λ x. x / extent) there ∙ (digits line).0 in
            ap (bit new) e ∙ one ∙ sym (ap (λ t. flag (t && ltb (q / extent) (line + 1))) (eq-eqb (q % extent) 0 rest) ∙ ap flag (lt-ltb (q / extent) (line + 1) (omega (arith, quotient))))
        | inr n ↦ others i b n ∙ before i b ∙ elim (cases_eq (q % extent) 0) [
          | inr m ↦ ap (λ t. flag (t && ltb (q / extent) line)) (ne_eqb (q % extent) 0 m) ∙ sym (ap (λ t. flag (t && ltb (q / extent) (line + 1))) (ne_eqb (q % extent) 0 m))
          | inl e ↦ ap (λ t. flag (eqb (q % extent) 0 && t)) (elim (cases_lt (q / extent) line) [
            | inl l ↦ lt-ltb (q / extent) line l ∙ sym (lt-ltb (q / extent) (line + 1) (omega arith))
            | inr g ↦
                let apart : q / extent ≢ line = λ s. n (omega (arith, whole q e, ap (λ x. x * extent) s, here, is)) in
                le-ltb (q / extent) line g ∙ sym (le-ltb (q / extent) (line + 1) (omega (arith, apart, g)))
          ])
        ]
      ]

-- the number of one bit
number_one : (planes : List Plane) (offset i : ℕ) → number planes offset 1 i ≡ bit (plane_at planes offset) i
number_one planes offset i =
    number-suc planes offset 0 i ∙ omega (arith, number-none planes offset i, ap (λ n. bit (plane_at planes n) i) (let e : offset + 0 ≡ offset = omega arith in e))

pub bit_of_one : (planes : List Plane) (f : Field) (i : ℕ) → f.len ≡ 1 → bit (plane_at planes f.offset) i ≡ cond (bit_in planes (Some f) i) 1 0
bit_of_one planes f i one =
    let b : ℕ = bit (plane_at planes f.offset) i in
    sym (digit b (bit-lt (plane_at planes f.offset) i)) ∙ ap (λ n. cond (eqb n 1) 1 0) (sym (number_one planes f.offset i) ∙ ap (λ n. number planes f.offset n i) (sym one))
  where
    digit : (d : ℕ) → d < 2 → cond (eqb d 1) 1 0 ≡ d
    digit zero h = refl
    digit (suc zero) h = refl
    digit (suc (suc d)) h = absurd (omega arith)

pub both_bits : (b a : ℕ) (t : Bool) → a < 2 → b ≡ cond t 1 0 → min b a ≡ cond (eqb a 1 && t) 1 0
both_bits b zero t h e = omega arith
both_bits b (suc zero) true h e = omega (arith, e)
both_bits b (suc zero) false h e = omega (arith, e)
both_bits b (suc (suc a)) t h e = absurd (omega arith)

module _ (planes : List Plane) (scan : Scan) (extent k : ℕ) (cuts : List ℕ) (first : bit cuts 0 ≡ 0)
    (others : (i : ℕ) → 0 < i → i < 512 → eqb (bit cuts i) 1 ≡ cut_in planes scan extent k i) where
  -- the cuts of a run are those of its block
  same_cuts : (j : ℕ) → j < 512 → eqb (bit cuts (suc j % 512)) 1 ≡ cut_in planes scan extent k (suc j)
  same_cuts j b = elim (cases_eq (suc j) 512) [
    | inl e ↦ ap (λ n. eqb (bit cuts (n % 512)) 1) e ∙ ap (λ d. eqb d 1) first ∙ sym (ap (λ n. cut_in planes scan extent k n) e)
    | inr n ↦ ap (λ m. eqb (bit cuts m) 1) (mod-eq_of_lt (let h : suc j < 512 = omega (arith, n) in h)) ∙ others (suc j) (omega arith) (omega (arith, n))
  ]

  -- whether one of them is there
  pub some_cut : (count : ℕ) → count ≡ ones_before cuts 512 → not (eqb count 0) ≡ any_of (λ i. cut_in planes scan extent k i) 1 512
  unfolding any_of
  some_cut count e =
      ap (λ o. not (eqb o 0)) e ∙ sym (any_is cuts (λ i. cut_in planes scan extent k i) first others 511 (omega arith))
      ∙ last (any_of (λ i. cut_in planes scan extent k i) 1 511)
    where
      last : (t : Bool) → t ≡ (t || false)
      last true = refl
      last false = refl

  -- a block in which nothing begins has one fold
  pub whole_fold : (start : ℕ) → scan.source.len ≡ 32 → ones_before cuts 512 ≡ 0 → start ≡ none scan.combiner
      → block_fold scan.combiner planes scan.source scan.context 512 ≡ fold_in planes scan extent k start 512
  whole_fold start word empty e =
      fold_same _ _ _ _ _ _ 512 (λ j b. refl) (λ j b. lane_whole scan.combiner planes scan.source j word)
      ∙ ap (λ s. fold_below (once scan.combiner) (λ j. active_in planes scan j) (λ j. value_in planes scan j) s 512) (sym e)
      ∙ sym (running_whole scan.combiner (λ j. cut_in planes scan extent k j) (λ j. active_in planes scan j) (λ j. value_in planes scan j) start 512
      (λ j b. sym (same_cuts j b) ∙ ap (λ d. eqb d 1) (none_before cuts 512 empty (suc j % 512) (omega arith))))

  module _ (words : List ℕ) (start : ℕ) (small : start < 2 ^ 32) (word : scan.source.len ≡ 32)
      (held : (i : ℕ) → i < 512 → get_or words i 0 ≡ cond (eqb (bit (plane_at planes scan.context) i) 1) (number planes scan.source.offset 32 i) (none scan.combiner)) where
    held_is : (i : ℕ) → i < 512 → get_or words i 0 ≡ cond (active_in planes scan i) (value_in planes scan i) (none scan.combiner)
    held_is i b = held i b ∙ ap (λ l. cond (active_in planes scan i) (number planes scan.source.offset l i) (none scan.combiner)) (sym word)

    value_small : (i : ℕ) → value_in planes scan i < 2 ^ 32
    value_small i = subst (λ l. number planes scan.source.offset l i < 2 ^ 32) (sym word) (number-lt planes scan.source.offset 32 i)

    -- the run over the words of a block is the fold in the block
    pub run_is_fold : (run : Run) → run.combiner ≡ scan.combiner → run.start ≡ start → run.cuts ≡ cuts → (n : ℕ) → n ≤ 512 → run_to run words n ≡ fold_in planes scan extent k start n
    run_is_fold run c s q n b =
        ap (λ r. running r (λ j. eqb (bit run.cuts (j % 512)) 1) (λ j. true) (λ j. get_or words j 0) run.start n) c
        ∙ ap (λ x. running scan.combiner (λ j. eqb (bit run.cuts (j % 512)) 1) (λ j. true) (λ j. get_or words j 0) x n) s
        ∙ ap (λ (m : List ℕ). running scan.combiner (λ j. eqb (bit m (j % 512)) 1) (λ j. true) (λ j. get_or words j 0) start n) q
        ∙ running_alike scan.combiner (λ j. eqb (bit cuts (j % 512)) 1) (λ j. cut_in planes scan extent k j) (λ j. true) (λ j. true) (λ j. get_or words j 0) (λ j. get_or words j 0) start n
        (λ j h. same_cuts j (omega arith)) (λ j h. refl) (λ j h. refl)
        ∙ running_chosen scan.combiner (λ j. cut_in planes scan extent k j) (λ j. active_in planes scan j) (λ j. value_in planes scan j) (λ j. get_or words j 0) start n small value_small
        (λ j h. held_is j (omega arith))

    -- what an active lane takes
    pub word_taken : (run : Run) → run.combiner ≡ scan.combiner → run.start ≡ start → run.cuts ≡ cuts → run.inclusion ≡ scan.inclusion
        → (i : ℕ) → i < 512 → bit (plane_at planes scan.context) i ≡ 1 → run_word run words i ≡ scanned_in planes scan extent k start i
    word_taken run c s q n i b on =
        let own : get_or words i 0 ≡ value_in planes scan i = held_is i b ∙ ap (λ t. cond t (value_in planes scan i) (none scan.combiner)) (eq-eqb (bit (plane_at planes scan.context) i) 1 on) in
        ap (λ m. with_own m (λ t. once run.combiner t (get_or words i 0)) (run_to run words i)) n
        ∙ ap (λ r. with_own scan.inclusion (λ t. once r t (get_or words i 0)) (run_to run words i)) c
        ∙ ap (λ v. with_own scan.inclusion (λ t. once scan.combiner t v) (run_to run words i)) own
        ∙ ap (λ x. with_own scan.inclusion (λ t. once scan.combiner t (value_in planes scan i)) x) (run_is_fold run c s q i (omega arith))

-- numbers that are the same in the lanes of the mask are written the same
pub same_written : (offset len : ℕ) (mask other : List ℕ) (numbers others : ℕ → ℕ) (old new : List Plane) → mask ≡ other → LanesWritten offset len mask numbers old new
    → ((i : ℕ) → i < 512 → bit other i ≡ 1 → numbers i ≡ others i) → LanesWritten offset len other others old new
same_written offset len mask other numbers others old new e done same = record {
  long = done.long;
  inside = λ j i b on l h. done.inside j i b (ap (λ m. bit m i) e ∙ on) l h ∙ ap (λ n. bit_at n (j - offset)) (same i b on);
  kept = λ j i b off. done.kept j i b (ap (λ m. bit m i) e ∙ off);
  outside = done.outside;
}
