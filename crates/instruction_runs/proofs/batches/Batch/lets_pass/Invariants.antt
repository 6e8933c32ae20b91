use Rattle.std.proofs.Common.{◌≡◌, drop}
use Rattle.instruction_runs.specs.Passing.{can_pass}
use Rattle.instruction_runs.proofs.batches.Batch.lets_pass.Given as goal

abbrev pub invariant-waiting : goal.invariant-waiting
invariant-waiting l = can_pass l.fn.self.deferred.items l.fn.instr ≡ can_pass (drop l.d-index l.fn.self.deferred.items) l.fn.instr
