use Rattle.std.proofs.Common.{◌≡◌, ℕ, ◌+◌, ◌-◌, ◌*◌, ◌/◌, ◌%◌, ◌^◌, ◌<◌, ◌≤◌, List, length, get_or, min, ◌∙◌, inl, inr, sym, ap, arith}
use Rattle.std.specs.Int.{bit_at}
use Rattle.std.proofs.Math.ListN.{set, length-set}
use Rattle.std.proofs.lemmas.Bool.{cases_eq}
use Rattle.std.proofs.lemmas.List.{get_or-replicate, length-replicate, get_or-set_same, get_or-set_other}
use Rattle.std.proofs.lemmas.Nat.{pow_pos}
use Rattle.vp_sets.specs.Blocks.{block_end, block_start}
use Rattle.vp_sets.specs.Positions.{position_count}
use Rattle.phase_gate.specs.Rows.{memory_of, row_bit}
use Rattle.phase_gate.proofs.BlockWrites.{run_bit, row_small}
use Rattle.phase_gate.proofs.row_phases.RowPhases.block_numbers.Goals as goal

pub bounds-words-position : goal.bounds-words-position
unfolding block_start block_end
bounds-words-position c = omega (arith, c.block_range-start.ensures.start, c.block_range-start.ensures.end, c.positions-test.true, c.positions.auto.position-end)

pub number-requires-clause-position : goal.number-requires-clause-position
unfolding block_start block_end
number-requires-clause-position c = omega (arith, c.block_range-start.ensures.end, c.positions-test.true)

pub positions-init : goal.positions-init
unfolding block_start
positions-init c = record {
  long = length-replicate {A = ℕ} 512 0;
  small = λ lane h. omega (arith, get_or-replicate {A = ℕ} 512 lane 0 0 h, pow_pos c.args.run.len);
  bits = λ p j here before h. absurd (omega (arith, here, before, c.block_range-start.ensures.start));
}

pub positions-preserved : goal.positions-preserved
unfolding block_start block_end
positions-preserved c =
    let k = c.positions.position in
    let start = c.block_range-start.result.0 in
    let words = c.positions.words in
    let at : start ≡ c.args.block * 512 = c.block_range-start.ensures.start in
    let within : k - start < length words = omega (arith, c.positions.invariant.long, at, c.block_range-start.ensures.end, c.positions-test.true, c.positions.auto.position-end) in
    let lane : k % 512 ≡ k - start = omega (arith, at, c.block_range-start.ensures.end, c.positions-test.true, c.positions.auto.position-end) in
    record {
      long = length-set words (k - start) c.number.result ∙ c.positions.invariant.long;
      small = λ i h. elim (cases_eq i (k - start)) [
        | inl e ↦ omega (arith, ap (λ q. get_or (set words (k - start) c.number.result) q 0) e ∙ get_or-set_same words (k - start) c.number.result 0 within, c.number.ensures.bound)
        | inr n ↦ omega (arith, get_or-set_other words (k - start) i c.number.result 0 n, c.positions.invariant.small i h)
      ];
      bits = λ p j here before h. elim (cases_eq p k) [
        | inl e ↦
            ap (λ q. bit_at (get_or (set words (k - start) c.number.result) q 0) j) (ap (λ q. q % 512) e ∙ lane)
            ∙ ap (λ n. bit_at n j) (get_or-set_same words (k - start) c.number.result 0 within ∙ c.number.ensures.value)
            ∙ run_bit (row_bit c.rows-rows.result.now k) c.args.run.offset c.args.run.len j (row_small c.rows-rows.result.now k) h
            ∙ ap (λ (bits : ℕ → ℕ → ℕ). bits k (c.args.run.offset + j)) c.rows-rows.ensures.cells
            ∙ ap (λ q. (memory_of c.args.self.now).bit c.args.run.set q (c.args.run.offset + j)) (sym e)
        | inr n ↦
            ap (λ x. bit_at x j) (get_or-set_other words (k - start) (p % 512) c.number.result 0 (λ e. n (omega (arith, e, here, before, at, c.block_range-start.ensures.end, c.positions-test.true, c.positions.auto.position-end))))
            ∙ c.positions.invariant.bits p j here (omega arith) h
      ];
    }

pub returns : goal.returns
unfolding block_start block_end
returns c = record {
  small = c.positions.invariant.small;
  bits = λ p j here within h. c.positions.invariant.bits p j here
      (omega (arith, here, within, c.block_range-start.ensures.start, c.block_range-start.ensures.end, c.positions-test.false, ap position_count c.rows-rows.ensures.extents)) h;
}
