use Rattle.std.proofs.Common.{◌≡◌, ℕ, ◌+◌, ◌-◌, ◌*◌, ◌/◌, ◌%◌, ◌^◌, ◌<◌, ◌≤◌, List, length, get_or, min, ◌∙◌, refl, sym, ap, subst, arith}
use Rattle.std.proofs.lemmas.Bool.{eq-eqb, ne_eqb}
use Rattle.vp_sets.specs.Blocks.{block_end, block_start}
use Rattle.vp_sets.specs.Positions.{position_count}
use Rattle.paris_code.specs.Fetching.{at_one}
use Rattle.paris_code.specs.Memory.{SameBits}
use Rattle.paris_code.specs.Shapes.{SetShape, extents_at}
use Rattle.paris_code.specs.Writes.{written}
use Rattle.phase_meaning.proofs.Partly.{part_more}
use Rattle.phase_gate.specs.Blocks.{at_block}
use Rattle.phase_gate.specs.Rows.{sets_of, memory_of}
use Rattle.phase_gate.proofs.BlockWrites.{part_before, part_after}
use Rattle.phase_gate.proofs.row_phases.RowPhases.set_block_numbers.Goals as goal

pub bounds-words-position : goal.bounds-words-position
unfolding block_start block_end
bounds-words-position c = omega (arith, c.block_range-start.ensures.start, c.block_range-start.ensures.end, c.positions-test.true, c.positions.auto.position-end)

pub write-requires-clause-position : goal.write-requires-clause-position
unfolding block_start block_end
write-requires-clause-position c =
    subst (λ (s : List SetShape). (c.args.run.set < length s) × (c.positions.position < position_count (extents_at s c.args.run.set))) (sym c.positions.invariant.sets)
    (c.requires.run.0, omega (arith, c.block_range-start.ensures.end, c.positions-test.true, ap position_count c.rows.ensures.extents))

pub positions-init : goal.positions-init
unfolding block_start
positions-init c = record {
  sets = refl;
  partly = part_before (sets_of c.args.self.now) (at_block c.args.run c.args.block c.args.words.now) (memory_of c.args.self.now) _
      (λ p l. ne_eqb (p / 512) c.args.block (λ e. absurd (omega (arith, c.block_range-start.ensures.start))));
}

pub positions-preserved : goal.positions-preserved
unfolding block_start block_end
positions-preserved c =
    let now = sets_of c.args.self.now in
    let k = c.positions.position in
    let start : c.block_range-start.result.0 ≡ c.args.block * 512 = c.block_range-start.ensures.start in
    let here : k / 512 ≡ c.args.block = omega (arith, start, c.block_range-start.ensures.end, c.positions-test.true, c.positions.auto.position-end) in
    let lane : k - c.block_range-start.result.0 ≡ k % 512 = omega (arith, start, here) in
    record {
      sets = c.write.ensures.sets ∙ c.positions.invariant.sets;
      partly = part_more now (at_block c.args.run c.args.block c.args.words.now) (memory_of c.args.self.now) (memory_of c.positions.self) (memory_of c.write.new.self) k
          (get_or c.args.words.now (k - c.block_range-start.result.0) 0) (eq-eqb (k / 512) c.args.block here)
          (ap (λ j. get_or c.args.words.now j 0 % 2 ^ c.args.run.len) lane) c.positions.invariant.partly
          (subst (λ (s : List SetShape). SameBits s (memory_of c.write.new.self) (written (at_one c.args.run k (get_or c.args.words.now (k - c.block_range-start.result.0) 0)) (memory_of c.positions.self)))
          c.positions.invariant.sets c.write.ensures.bits);
    }

pub returns-clause-bits : goal.returns-clause-bits
unfolding block_start block_end
returns-clause-bits c =
    part_after (sets_of c.args.self.now) (at_block c.args.run c.args.block c.args.words.now) (memory_of c.args.self.now) (memory_of c.positions.self) c.positions.position
    (λ p past within. ne_eqb (p / 512) c.args.block (λ e. absurd (omega (arith, e, past, within, c.block_range-start.ensures.start, c.block_range-start.ensures.end, c.positions-test.false, ap position_count c.rows.ensures.extents))))
    c.positions.invariant.partly
