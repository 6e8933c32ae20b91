use Rattle.std.proofs.Common.{◌≡◌}
use Rattle.phase_gate.specs.Blocks.{at_block}
use Rattle.phase_gate.specs.Rows.{sets_of, memory_of}
use Rattle.phase_meaning.proofs.Partly.{PartlyWritten}
use Rattle.phase_gate.proofs.row_phases.RowPhases.set_block_numbers.Given as goal

abbrev pub invariant-positions : goal.invariant-positions
invariant-positions l = record {
  sets : sets_of l.self ≡ sets_of l.initial.self;
  partly : PartlyWritten (sets_of l.initial.self) (at_block l.run l.block l.words) (memory_of l.initial.self) l.position (memory_of l.self);
}
