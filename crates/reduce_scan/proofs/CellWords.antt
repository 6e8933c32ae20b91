-- The words that cells hold, one by one.
use Rattle.std.proofs.Common.{◌≡◌, ◌≢◌, ℕ, ◌+◌, ◌*◌, ◌/◌, ◌%◌, ◌<◌, ◌≤◌, ◌⊎◌, Bool, true, false, not, ◌&&◌, cond, eqb, ltb, List, [], map, length, get_or, inl, inr, refl, sym, ◌∙◌, ap, arith}
use Rattle.std.specs.Prelude.{slice_index}
use Rattle.std.proofs.Math.ListN.{set, length-set}
use Rattle.std.proofs.Math.Seq.{map-set_same}
use Rattle.std.proofs.lemmas.Bool.{cases_eq, cases_lt, cases_Bool, lt-ltb, le-ltb}
use Rattle.vp_sets.specs.Lines.{steps_before}
use Rattle.cstar_base.specs.declared.operators.Direction.{Direction}
use Rattle.cstar_base.specs.declared.operators.Direction.TheVariants as D
use Rattle.cstar_base.specs.declared.operators.Inclusion.TheVariants as N
use Rattle.bit_planes.specs.Bits.{bit}
use Rattle.bit_planes.specs.declared.plane.Plane.{Plane}
use Rattle.paris_code.specs.declared.operands.Reduction.{Reduction}
use Rattle.phase_meaning.proofs.Entries.{entry, entry_new, entry_other}
use Rattle.block_store.specs.declared.set.Cell.{Cell}
use Rattle.block_store.specs.Stored.{words_in, word_at}
use Rattle.reduce_scan.specs.declared.lines.Lines.{Lines}
use Rattle.reduce_scan.specs.Across.{previous, HasPrevious, cuts_of, is_held_cut, taken_at, WordSet}
use Rattle.reduce_scan.proofs.LineSteps.{previous_earlier}
use Rattle.reduce_scan.proofs.Parts.{once, none}

pub word_set : (cells : List Cell) (p number : ℕ) (cell new : Cell) → p / 512 < length cells → cell ≡ get_or cells (p / 512) cell → slice_index new.words (p % 512) ≡ number
    → ((i : ℕ) → i ≢ p % 512 → slice_index new.words i ≡ slice_index cell.words i) → new.cuts ≡ cell.cuts → WordSet p number cells (set cells (p / 512) new)
unfolding word_at is_held_cut
word_set cells p number cell new within is here others cuts =
    let k : ℕ = p / 512 in
    let news : List Cell = set cells k new in
    record {
      count = length-set cells k new;
      here = ap (λ ws. slice_index ws (p % 512)) (entry_new words_in cells k new [] within) ∙ here;
      others = λ q n. elim (cases_eq (q / 512) k) [
        | inl same ↦
            let lane : q % 512 ≢ p % 512 = λ e. n (omega (arith, same, e)) in
            ap (λ j. slice_index (get_or (map words_in news) j []) (q % 512)) same
            ∙ ap (λ ws. slice_index ws (q % 512)) (entry_new words_in cells k new [] within)
            ∙ others (q % 512) lane
            ∙ ap (λ ws. slice_index ws (q % 512)) (entry words_in cells k cell [] within is)
            ∙ ap (λ j. slice_index (get_or (map words_in cells) j []) (q % 512)) (sym same)
        | inr other ↦ ap (λ ws. slice_index ws (q % 512)) (entry_other words_in cells k new [] (q / 512) other)
      ];
      cuts = λ q. ap (λ ps. eqb (bit (get_or ps (q / 512) []) (q % 512)) 1) (map-set_same cuts_of cells k new cell (ap (λ (l : Plane). l.bits) cuts ∙ ap cuts_of is));
    }

-- the word of a lane
pub word_of : (cells : List Cell) (k i : ℕ) (cell : Cell) → k < length cells → i < 512 → cell ≡ get_or cells k cell → slice_index cell.words i ≡ word_at cells (512 * k + i)
unfolding word_at
word_of cells k i cell within b is =
    ap (λ ws. slice_index ws i) (entry words_in cells k cell [] within is)
    ∙ ap (λ j. slice_index (get_or (map words_in cells) j []) i) (let e : k ≡ (512 * k + i) / 512 = omega (arith, b) in e)
    ∙ ap (λ l. slice_index (get_or (map words_in cells) ((512 * k + i) / 512) []) l) (let e : i ≡ (512 * k + i) % 512 = omega (arith, b) in e)

-- what a position takes of the words, where it takes none of their own
pub taken_none : (c : Reduction) (lines : Lines) (cells : List Cell) (p : ℕ) → (lines.positions ≤ p) ⊎ (is_held_cut cells p ≡ true) → taken_at c N.Exclusive lines cells p ≡ none c
unfolding taken_at
taken_none c lines cells p (inl past) = ap (λ t. cond (t && not (is_held_cut cells p)) (word_at cells (previous lines.direction lines.apart p)) (none c)) (le-ltb p lines.positions past)
taken_none c lines cells p (inr cut) = ap (λ t. cond (ltb p lines.positions && not t) (word_at cells (previous lines.direction lines.apart p)) (none c)) cut ∙ off (ltb p lines.positions)
  where
    off : (t : Bool) → cond (t && false) (word_at cells (previous lines.direction lines.apart p)) (none c) ≡ none c
    off true = refl
    off false = refl

pub taken_word : (c : Reduction) (lines : Lines) (cells : List Cell) (p : ℕ) → p < lines.positions → is_held_cut cells p ≡ false
    → taken_at c N.Exclusive lines cells p ≡ word_at cells (previous lines.direction lines.apart p)
unfolding taken_at
taken_word c lines cells p b off =
    ap (λ t. cond (t && not (is_held_cut cells p)) (word_at cells (previous lines.direction lines.apart p)) (none c)) (lt-ltb p lines.positions b)
    ∙ ap (λ t. cond (not t) (word_at cells (previous lines.direction lines.apart p)) (none c)) off

-- the words of the positions before one in the order of the lines are joined, and the others are as they were
pub record JoinedTo (c : Reduction) (lines : Lines) (n : ℕ) (old new : List Cell) : Type 0 where
  pub count : length new ≡ length old
  pub done : (p : ℕ) → p < lines.positions → steps_before lines.direction lines.positions p < n → word_at new p
      ≡ cond (is_held_cut old p) (word_at old p) (once c (word_at new (previous lines.direction lines.apart p)) (word_at old p))
  pub rest : (p : ℕ) → p < lines.positions → n ≤ steps_before lines.direction lines.positions p → word_at new p ≡ word_at old p
  pub cuts : (p : ℕ) → is_held_cut new p ≡ is_held_cut old p

steps_back : (d : Direction) (count n : ℕ) → n < count → (steps_before d count n < count) × (steps_before d count (steps_before d count n) ≡ n)
steps_back D.Upward count n b = (b, refl)
steps_back D.Downward count n b = (omega arith, omega arith)

same_step : (d : Direction) (count p q : ℕ) → p < count → q < count → steps_before d count p ≡ steps_before d count q → p ≡ q
same_step D.Upward count p q a b e = e
same_step D.Downward count p q a b e = omega (arith, a, b, e)

module _ (c : Reduction) (lines : Lines) (some : 0 < lines.apart) (n : ℕ) (old now : List Cell) (low : n < lines.positions) (so_far : JoinedTo c lines n old now)
    (hold : (p : ℕ) → p < lines.positions → is_held_cut old p ≡ false → HasPrevious lines p) where
  abbrev at : ℕ
  at = steps_before lines.direction lines.positions n

  abbrev back : ℕ → ℕ
  back p = previous lines.direction lines.apart p

  step : (p : ℕ) → p < lines.positions → (steps_before lines.direction lines.positions p ≡ n) → p ≡ at
  step p b e =
      let two = steps_back lines.direction lines.positions n low in
      same_step lines.direction lines.positions p at b two.0 (e ∙ sym two.1)

  own_step : steps_before lines.direction lines.positions at ≡ n
  own_step = (steps_back lines.direction lines.positions n low).1

  pub at_below : at < lines.positions
  at_below = (steps_back lines.direction lines.positions n low).0

  -- where something begins
  pub joined_begun : is_held_cut now at ≡ true → JoinedTo c lines (n + 1) old now
  joined_begun on = record {
    count = so_far.count;
    done = λ p b early. elim (cases_lt (steps_before lines.direction lines.positions p) n) [
      | inl l ↦ so_far.done p b l
      | inr g ↦
          let is : p ≡ at = step p b (omega (arith, early, g)) in
          let cut : is_held_cut old p ≡ true = ap (is_held_cut old) is ∙ sym (so_far.cuts at) ∙ on in
          so_far.rest p b g ∙ sym (ap (λ t. cond t (word_at old p) (once c (word_at now (back p)) (word_at old p))) cut)
    ];
    rest = λ p b late. so_far.rest p b (omega (arith, late));
    cuts = so_far.cuts;
  }

  -- where the fold goes on
  pub joined_more : is_held_cut now at ≡ false → HasPrevious lines at → (number : ℕ) (new : List Cell) → number ≡ once c (word_at now (back at)) (word_at now at) → WordSet at number now new
      → JoinedTo c lines (n + 1) old new
  joined_more off has number new is put = record {
    count = put.count ∙ so_far.count;
    done = λ p b early. elim (cases_lt (steps_before lines.direction lines.positions p) n) [
      | inl l ↦
          let apart : p ≢ at = λ e. absurd (omega (arith, l, ap (steps_before lines.direction lines.positions) e, own_step)) in
          put.others p apart ∙ so_far.done p b l ∙ elim (cases_Bool (is_held_cut old p)) [
            | inl cut ↦ ap (λ t. cond t (word_at old p) (once c (word_at now (back p)) (word_at old p))) cut ∙ sym (ap (λ t. cond t (word_at old p) (once c (word_at new (back p)) (word_at old p))) cut)
            | inr goes ↦
                let held : HasPrevious lines p = hold p b goes in
                let before : back p ≢ at = λ e. absurd (omega (arith, l, ap (steps_before lines.direction lines.positions) e, own_step, previous_earlier lines.direction lines.apart lines.positions p some b held)) in
                ap (λ r. cond (is_held_cut old p) (word_at old p) (once c r (word_at old p))) (sym (put.others (back p) before))
          ]
      | inr g ↦
          let same : p ≡ at = step p b (omega (arith, early, g)) in
          let cut : is_held_cut old p ≡ false = ap (is_held_cut old) same ∙ sym (so_far.cuts at) ∙ off in
          let before : back at ≢ at = λ e. absurd (omega (arith, ap (steps_before lines.direction lines.positions) e, previous_earlier lines.direction lines.apart lines.positions at some at_below has)) in
          ap (word_at new) same ∙ put.here ∙ is ∙ ap (λ r. once c r (word_at now at)) (sym (put.others (back at) before))
          ∙ ap (λ v. once c (word_at new (back at)) v) (so_far.rest at at_below (omega (arith, own_step)))
          ∙ ap (λ q. once c (word_at new (back q)) (word_at old q)) (sym same)
          ∙ sym (ap (λ t. cond t (word_at old p) (once c (word_at new (back p)) (word_at old p))) cut)
    ];
    rest = λ p b late. put.others p (λ e. absurd (omega (arith, late, ap (steps_before lines.direction lines.positions) e, own_step))) ∙ so_far.rest p b (omega (arith, late));
    cuts = λ p. put.cuts p ∙ so_far.cuts p;
  }
